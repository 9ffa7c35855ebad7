-- Trees and commits as they are written, a unit at a time.
use Rattle.std.proofs.Common.{◌≡◌, ℕ, ◌+◌, ◌<◌, ◌≤◌, List, [], ◌∷◌, ◌++◌, length, get_or, map, take, Option, Some, None, refl, sym, ap, subst, ◌∙◌, append_assoc}
use Rattle.std.proofs.lemmas.List.{append-nil, get_or-map, take_all, take_more}
use Rattle.std.specs.List.{AllByRecursion}
use Rattle.std.specs.Prelude.{codes}
use Rattle.rad_base.proofs.EachItem.{each_between, each_more}
use Rattle.rad_base.specs.Sizes.{IsOid}
use Rattle.rad_base.specs.declared.names.Oid.{Oid}
use Rattle.git_object.specs.Faults.{IsFirstBad}
use Rattle.git_object.specs.Grammar.{Entry, IsEntry, IsName, IsRisingFrom, SpellsTree, entry_text, order_key, oid_line, parents_text, tree_text}
use Rattle.git_object.specs.Views.{entry_named}
use Rattle.git_object.specs.declared.named_entry.NamedEntry.{NamedEntry}
use Rattle.git_object.proofs.Lines.{parents_text-append}
use Rattle.git_object.proofs.TreeTexts.{tree_text-append}
use Rattle.rad_base.specs.Order.{IsBelow, last_from}
use Rattle.rad_base.proofs.Rising.{last_more, rise_last, rise_more}

-- the first i entries are written, the last of them with this key
pub record IsWrittenTo (entries : List Entry) (i : ℕ) (bytes : List ℕ) (last : Option (List ℕ)) : Type 0 where
  pub spelled : SpellsTree (take i entries) bytes
  pub end : last_from order_key None (take i entries) ≡ last

-- none at the start
pub written_none : (entries : List Entry) → IsWrittenTo entries 0 [] None
written_none entries = record { spelled = record { each = tt; rising = tt; text = refl }; end = refl }

-- one more entry, above those before it
pub written_more : (entries : List Entry) (i : ℕ) (bytes new : List ℕ) (last : Option (List ℕ)) (e : Entry) → IsWrittenTo entries i bytes last
    → i < length entries → get_or entries i e ≡ e → IsEntry e → IsBelow last (order_key e) → new ≡ bytes ++ entry_text e
    → IsWrittenTo entries (i + 1) new (Some (order_key e))
written_more entries i bytes new last e w inside at is below h =
    let es = take i entries in
    let more : take (i + 1) entries ≡ es ++ e ∷ [] = take_more entries i e inside ∙ ap (λ (x : Entry). es ++ x ∷ []) at in
    let spelled : SpellsTree (es ++ e ∷ []) new = record {
      each = each_more IsEntry es e w.spelled.each is;
      rising = rise_more order_key None es e w.spelled.rising (subst (λ (k : Option (List ℕ)). IsBelow k (order_key e)) (sym w.end) below);
      text =
          h ∙ ap (λ (l : List ℕ). l ++ entry_text e) w.spelled.text
          ∙ ap (λ (l : List ℕ). tree_text es ++ l) (sym (append-nil (entry_text e))) ∙ sym (tree_text-append es (e ∷ []));
    } in
    record {
      spelled = subst (λ (l : List Entry). SpellsTree l new) (sym more) spelled;
      end = ap (last_from order_key None) more ∙ last_more order_key None es e;
    }

-- an entry that may not come next is the first bad one
pub first_bad : (entries : List Entry) (i : ℕ) (bytes : List ℕ) (last : Option (List ℕ)) (e : Entry) → IsWrittenTo entries i bytes last
    → i < length entries → get_or entries i e ≡ e → (IsName e.name → IsBelow last (order_key e) → ⊥) → IsFirstBad entries i
first_bad entries i bytes last e w inside at bad =
    let es = take i entries in
    let more : take (i + 1) entries ≡ es ++ e ∷ [] = take_more entries i e inside ∙ ap (λ (x : Entry). es ++ x ∷ []) at in
    record {
      inside = inside;
      before = record { each = w.spelled.each; rising = w.spelled.rising; text = refl };
      bad = λ s.
          let each = subst (λ (l : List Entry). AllByRecursion IsEntry l) more s.each in
          let rising = subst (λ (l : List Entry). IsRisingFrom None l) more s.rising in
          bad (each_between IsEntry es e [] each).name (subst (λ (k : Option (List ℕ)). IsBelow k (order_key e)) w.end (rise_last order_key None es e rising));
    }

-- all entries are written
pub written_all : (entries : List Entry) (n : ℕ) (bytes : List ℕ) (last : Option (List ℕ)) → IsWrittenTo entries n bytes last → length entries ≤ n → SpellsTree entries bytes
written_all entries n bytes last w all = subst (λ (l : List Entry). SpellsTree l bytes) (take_all n entries all) w.spelled

-- the lines of the tree and of the first i parents are written
pub record IsCommitWrittenTo (tree : Oid) (parents : List Oid) (i : ℕ) (bytes : List ℕ) : Type 0 where
  pub tree_is : IsOid tree
  pub each : AllByRecursion IsOid (take i parents)
  pub text : bytes ≡ oid_line (codes "tree ") tree ++ parents_text (take i parents)

-- the line of the tree
pub commit_begun : (tree : Oid) (parents : List Oid) (bytes : List ℕ) → IsOid tree → bytes ≡ oid_line (codes "tree ") tree → IsCommitWrittenTo tree parents 0 bytes
commit_begun tree parents bytes is h = record { tree_is = is; each = tt; text = h ∙ sym (append-nil (oid_line (codes "tree ") tree)) }

-- the line of one more parent
pub commit_more : (tree : Oid) (parents : List Oid) (i : ℕ) (bytes new : List ℕ) (d p : Oid) → IsCommitWrittenTo tree parents i bytes
    → i < length parents → get_or parents i d ≡ p → IsOid p → new ≡ bytes ++ oid_line (codes "parent ") p → IsCommitWrittenTo tree parents (i + 1) new
commit_more tree parents i bytes new d p w inside at is h =
    let ps = take i parents in
    let line = oid_line (codes "parent ") p in
    let more : take (i + 1) parents ≡ ps ++ p ∷ [] = take_more parents i d inside ∙ ap (λ (x : Oid). ps ++ x ∷ []) at in
    record {
      tree_is = w.tree_is;
      each = subst (λ (l : List Oid). AllByRecursion IsOid l) (sym more) (each_more IsOid ps p w.each is);
      text =
          h ∙ ap (λ (l : List ℕ). l ++ line) w.text ∙ append_assoc (oid_line (codes "tree ") tree) (parents_text ps) line
          ∙ ap (λ (l : List ℕ). oid_line (codes "tree ") tree ++ l)
          (ap (λ (l : List ℕ). parents_text ps ++ l) (sym (append-nil line)) ∙ sym (parents_text-append ps (p ∷ [])) ∙ ap parents_text (sym more));
    }

-- all parents are written
pub commit_whole : (tree : Oid) (parents : List Oid) (n : ℕ) (bytes : List ℕ) → IsCommitWrittenTo tree parents n bytes → length parents ≤ n
    → AllByRecursion IsOid parents × (bytes ≡ oid_line (codes "tree ") tree ++ parents_text parents)
commit_whole tree parents n bytes w all =
    let same = take_all n parents all in
    (subst (λ (l : List Oid). AllByRecursion IsOid l) same w.each, w.text ∙ ap (λ (l : List Oid). oid_line (codes "tree ") tree ++ parents_text l) same)

-- the entry at a place, as the tree has it
pub named_at : (entries : List NamedEntry) (i : ℕ) (x : NamedEntry) (e : Entry) → i < length entries → get_or entries i x ≡ x → e ≡ entry_named x
    → get_or (map entry_named entries) i e ≡ e
named_at entries i x e inside at h = get_or-map entry_named entries i x e inside ∙ ap entry_named at ∙ sym h
