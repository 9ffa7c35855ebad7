-- The messages that are wanted of some places, and how many keep one.
use Rattle.std.proofs.Common.{◌≡◌, ℕ, ◌≤◌, ◌+◌, Bool, true, false, cond, List, [], ◌∷◌, ◌++◌, length, Option, Some, None, refl, sym, ap, ◌∙◌, arith}
use Rattle.std.specs.Prelude.{filter, map}
use Rattle.std.proofs.lemmas.List.{append_assoc}
use Rattle.announcements.specs.Tables.{is_wanted}
use Rattle.announcements.specs.declared.kept.Kept.{Kept}
use Rattle.announcements.specs.declared.key.Key.{Key}
use Rattle.announcements.proofs.Entries.{Places, kept_entries, with_kept}

-- the messages of those that are wanted
abbrev pub told_of : List ℕ → ℕ → ℕ → List (Key × Kept) → List (List ℕ)
told_of wanted from to all = map (λ e. e.1.bytes) (filter (is_wanted wanted from to) all)

abbrev pub told : List ℕ → ℕ → ℕ → Places → List (List ℕ)
told wanted from to places = told_of wanted from to (kept_entries places)

-- a message that is wanted
pub told_more : (wanted : List ℕ) (from to : ℕ) (messages : List (List ℕ)) (key : Key) (kept : Kept) (places : Places) (all : List (List ℕ))
    → is_wanted wanted from to (key, kept) ≡ true → messages ++ told wanted from to ((key, Some kept) ∷ places) ≡ all
    → (messages ++ kept.bytes ∷ []) ++ told wanted from to places ≡ all
told_more wanted from to messages key kept places all e h =
    append_assoc messages (kept.bytes ∷ []) (told wanted from to places) ∙ rw e at h

-- one that is not
pub told_same : (wanted : List ℕ) (from to : ℕ) (messages : List (List ℕ)) (key : Key) (kept : Kept) (places : Places) (all : List (List ℕ))
    → is_wanted wanted from to (key, kept) ≡ false → messages ++ told wanted from to ((key, Some kept) ∷ places) ≡ all
    → messages ++ told wanted from to places ≡ all
told_same wanted from to messages key kept places all e h = rw e at h

more_kept : (place : Key) (o : Option Kept) (more : List (Key × Kept)) → length (with_kept place o more) ≤ length more + 1
more_kept place None more = omega arith
more_kept place (Some kept) more = omega arith

-- no more are kept than there are places
pub few_kept : (places : Places) → length (kept_entries places) ≤ length places
few_kept [] = omega arith
few_kept (p ∷ places) =
    let one : length (with_kept p.0 p.1 (kept_entries places)) ≤ length (kept_entries places) + 1 = more_kept p.0 p.1 (kept_entries places) in
    let rest : length (kept_entries places) ≤ length places = few_kept places in
    omega arith
