-- Looking for an entry, one after the other.
use Rattle.std.proofs.Common.{◌≡◌, ℕ, List, [], ◌∷◌, Some, refl, sym, subst, ◌∙◌, ⊎_elim}
use Rattle.std.specs.Prelude.{Contains}
use Rattle.rad_base.specs.declared.names.Oid.{Oid}
use Rattle.git_object.specs.Grammar.{Entry, SpellsTree}
use Rattle.git_object.specs.Links.{kind_of}
use Rattle.git_object.specs.Reading.{entries_in}
use Rattle.git_object.specs.declared.kind.Kind.{Kind}
use Rattle.git_object.proofs.TreeTexts.{tree_reads}
use Rattle.rad_base.proofs.Members.{contains_cases, contains_head, contains_nothing}
use Rattle.tree_entry.specs.Entries.{IsAmong, IsEntryIn}

-- the entries that are read are those that the bytes spell
pub spelled : (bytes : List ℕ) (entries left : List Entry) → SpellsTree entries bytes → left ≡ entries → entries_in bytes ≡ left
spelled bytes entries left s e = tree_reads none_before entries bytes s ∙ sym e
  where
    none_before : Rattle.std.specs.Prelude.Option (List ℕ)
    none_before = Rattle.std.specs.Prelude.None

-- this is the entry that is looked for
abbrev pub IsWanted : Entry → Kind → List ℕ → Type 0
IsWanted entry kind name = (entry.name ≡ name) × (kind_of entry.mode ≡ Some kind)

-- what is looked for is behind an entry that is not wanted
pub behind : (entry : Entry) (entries : List Entry) (kind : Kind) (name : List ℕ) (oid : Oid) → (IsWanted entry kind name → ⊥)
    → IsAmong (entry ∷ entries) kind name oid → IsAmong entries kind name oid
behind entry entries kind name oid not among = record {
  entry = among.entry;
  among = ⊎_elim
      (λ first. absurd (not (subst (λ (e : Entry). IsWanted e kind name) (sym first) (among.named, among.linked))))
      (λ later. later)
      (contains_cases entry entries among.entry among.among);
  named = among.named;
  linked = among.linked;
  is = among.is;
}

-- the first entry, where it is wanted
pub found : (bytes : List ℕ) (entry : Entry) (entries : List Entry) (kind : Kind) (name : List ℕ) → SpellsTree (entries_in bytes) bytes
    → ((e : Entry) → Contains (entry ∷ entries) e → Contains (entries_in bytes) e) → IsWanted entry kind name → IsEntryIn bytes kind name entry.oid
found bytes entry entries kind name s from wanted = record {
  entries = entries_in bytes;
  spells = s;
  is = record { entry = entry; among = from entry (contains_head entry entries); named = wanted.0; linked = wanted.1; is = refl };
}

-- no entry is left
pub not_found : (bytes : List ℕ) (kind : Kind) (name : List ℕ) (oid : Oid)
    → (IsAmong (entries_in bytes) kind name oid → IsAmong [] kind name oid) → IsEntryIn bytes kind name oid → ⊥
not_found bytes kind name oid left is =
    let same = spelled bytes is.entries is.entries is.spells refl in
    let among = left (subst (λ (es : List Entry). IsAmong es kind name oid) (sym same) is.is) in
    contains_nothing among.entry among.among
