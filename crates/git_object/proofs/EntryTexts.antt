-- Texts of entries, and what an iterator over them steps over.
use Rattle.std.proofs.Common.{◌≡◌, ℕ, ◌<◌, List, [], ◌∷◌, ◌++◌, length, sym, ap, ◌∙◌, arith, length-append}
use Rattle.std.specs.Prelude.{codes}
use Rattle.git_object.specs.Grammar.{Entry, IsEntry, IsName, entry_text, mode_text}
use Rattle.git_object.specs.Reading.{entries_in, entry_front}
use Rattle.git_object.specs.declared.mode.Mode.{Mode}
use Rattle.git_object.specs.declared.mode.Mode.TheVariants.{File, Executable, GroupFile, Symlink, Directory, Gitlink}
use Rattle.git_object.proofs.Items.{Shrinks, items_first, items_none}
use Rattle.git_object.proofs.ReadBack.{entry_is, entry_reads, no_entry_reads, one_mode, one_name, regrouped}

-- no entry stands where mode and name do and too few bytes follow
pub no_entry : (bytes : List ℕ) (mode : Mode) (behind name more : List ℕ) → bytes ≡ mode_text mode ++ codes " " ++ behind
    → IsName name → behind ≡ name ++ 0 ∷ more → length more < 20
    → (entry : Entry) (rest : List ℕ) → IsEntry entry → bytes ≡ entry_text entry ++ rest → ⊥
no_entry bytes mode behind name more e is f short entry rest whole g =
    let modes = one_mode mode entry.mode behind _ (sym e ∙ g ∙ regrouped entry rest) in
    let names = one_name name entry.name more _ is whole.name (sym f ∙ modes.1) in
    let size : length entry.oid.0 ≡ 20 = whole.oid in
    omega (arith, ap length names.1, length-append entry.oid.0 rest)

mode_some : (mode : Mode) → 0 < length (mode_text mode)
mode_some File = omega arith
mode_some Executable = omega arith
mode_some GroupFile = omega arith
mode_some Symlink = omega arith
mode_some Directory = omega arith
mode_some Gitlink = omega arith

-- an entry is longer than what stands behind it
pub entry_longer : (entry : Entry) (rest : List ℕ) → length rest < length (entry_text entry ++ rest)
entry_longer entry rest =
    let some = mode_some entry.mode in
    omega (arith, ap length (regrouped entry rest), length-append (mode_text entry.mode ++ codes " ") (entry.name ++ 0 ∷ (entry.oid.0 ++ rest)), length-append (mode_text entry.mode) (codes " "), length-append entry.name (0 ∷ (entry.oid.0 ++ rest)), length-append entry.oid.0 rest, some)

entries_shrink : Shrinks entry_front
entries_shrink bytes r h = omega (arith, ap length (entry_is bytes r h).1, entry_longer r.0 r.1)

-- the entry at the front is the first
pub entries_first : (bytes more : List ℕ) (entry : Entry) → IsEntry entry → bytes ≡ entry_text entry ++ more → entries_in bytes ≡ entry ∷ entries_in more
unfolding entries_in
entries_first bytes more entry is h = items_first entries_shrink bytes (entry, more) (ap entry_front h ∙ entry_reads entry more is)

-- no entry is left where none stands at the front
pub entries_none : (bytes : List ℕ) → ((entry : Entry) (rest : List ℕ) → IsEntry entry → bytes ≡ entry_text entry ++ rest → ⊥) → entries_in bytes ≡ []
unfolding entries_in
entries_none bytes none = items_none entries_shrink bytes (no_entry_reads bytes none)
