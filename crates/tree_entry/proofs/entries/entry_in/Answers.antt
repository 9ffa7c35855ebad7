use Rattle.std.proofs.Common.{◌≡◌, List, ◌∷◌, refl, sym, ap, subst, ◌∙◌}
use Rattle.std.specs.Prelude.{Contains}
use Rattle.std.proofs.lemmas.Bool.{false≢true}
use Rattle.git_object.specs.Grammar.{Entry, SpellsTree}
use Rattle.git_object.specs.Reading.{entries_in}
use Rattle.git_object.specs.Views.{tree_entries_of, tree_entry_of}
use Rattle.rad_base.proofs.Members.{contains_tail}
use Rattle.tree_entry.specs.Entries.{IsAmong}
use Rattle.tree_entry.proofs.Looking.{spelled, behind, not_found}
use Rattle.tree_entry.proofs.entries.entry_in.Goals as goal

pub loop-entry-init : goal.loop-entry-init
loop-entry-init c =
    let left = tree_entries_of c.into_iter-entry-iterator.result in
    let same : entries_in c.args.bytes.now ≡ left =
    spelled c.args.bytes.now (tree_entries_of c.in-Ok.entries) left c.in-Ok.ensures.tree (ap tree_entries_of c.into_iter-entry-iterator.ensures.into_iter_gives) in
    record {
      can = tt;
      finite = tt;
      spells = subst (λ (es : List Entry). SpellsTree es c.args.bytes.now) (sym (spelled c.args.bytes.now (tree_entries_of c.in-Ok.entries) (tree_entries_of c.in-Ok.entries) c.in-Ok.ensures.tree refl)) c.in-Ok.ensures.tree;
      from = λ entry h. subst (λ (es : List Entry). Contains es entry) (sym same) h;
      left = λ oid h. subst (λ (es : List Entry). IsAmong es c.args.kind c.args.name.now oid) same h;
    }

pub loop-entry-preserved : goal.loop-entry-preserved
loop-entry-preserved c =
    let steps : tree_entries_of c.loop-entry.entry-iterator ≡ tree_entry_of c.in-Some.entry ∷ tree_entries_of c.next.new.self = c.in-Some.ensures.steps in
    record {
      can = tt;
      finite = tt;
      spells = c.loop-entry.invariant.spells;
      from = λ entry h.
          c.loop-entry.invariant.from entry
          (subst (λ (es : List Entry). Contains es entry) (sym steps) (contains_tail (tree_entry_of c.in-Some.entry) (tree_entries_of c.next.new.self) entry h));
      left = λ oid h.
          behind (tree_entry_of c.in-Some.entry) (tree_entries_of c.next.new.self) c.args.kind c.args.name.now oid
          (λ wanted. false≢true (sym c.if-is_wanted.false ∙ c.is_wanted.ensures.1 wanted))
          (subst (λ (es : List Entry). IsAmong es c.args.kind c.args.name.now oid) steps (c.loop-entry.invariant.left oid h));
    }

pub returns : goal.returns
returns c = λ oid is.
    not_found c.args.bytes.now c.args.kind c.args.name.now oid
    (λ h. subst (λ (es : List Entry). IsAmong es c.args.kind c.args.name.now oid) c.in-None.ensures.steps.0 (c.loop-entry.invariant.left oid h)) is
