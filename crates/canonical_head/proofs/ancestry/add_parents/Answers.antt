use Rattle.std.proofs.Common.{ℕ, List, ◌++◌, ◌∷◌, [], ap, subst, ◌∙◌}
use Rattle.rad_base.specs.declared.names.Oid.{Oid}
use Rattle.canonical_head.specs.Ancestries.{IsNumberedAs}
use Rattle.canonical_head.proofs.ancestry.add_parents.Goals as goal

pub returns-clause-told : goal.returns-clause-told
returns-clause-told g c = record {
  names = c.in_ok-found.found.items;
  row = c.in_ok-row.row.items;
  are = λ m e. c.in_ok-found.ensures.told m e;
  numbered = subst (λ (names : List Oid). IsNumberedAs c.args.commits.now names c.number_all.new.self c.in_ok-row.row.items) c.deref.ensures.value c.in_ok-row.ensures;
  is = c.in_ok-push.ensures.ok ∙ ap (λ (row : List ℕ). c.args.parents.now ++ row ∷ []) c.deref-2.ensures.value;
}
