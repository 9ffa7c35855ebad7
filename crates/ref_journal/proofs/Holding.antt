-- What callers of a journal want of what it holds.
use Rattle.std.proofs.Common.{Bool, ℕ, List, [], Option, None, Some, subst}
use Rattle.std.specs.Prelude.{IfSome}
use Rattle.rad_outside.specs.Disks.{Only}
use Rattle.ref_journal.specs.Holds.{Stores, Tells}
use Rattle.ref_journal.specs.Images.{IsDamagedAt, IsJournal, IsLeft}
use Rattle.ref_journal.specs.Moments.{MayHave}
use Rattle.ref_journal.proofs.Entering.{left_has}
use Rattle.ref_journal.proofs.OneReading.{journal_is_whole, one_journal}

-- each image that a crash now may leave is a journal of the bodies, with the doubt or without it
pub held_image : (reads : Option (List ℕ)) (images : List ℕ → Type 0) (bodies : List (List ℕ)) (doubt : Option (List ℕ)) (end : ℕ) → Tells (IsLeft bodies doubt end) reads images
    → (image : List ℕ) → images image → MayHave bodies doubt image
held_image reads images bodies doubt end t image is = left_has bodies doubt end image (t.each image is)

-- an open that tells damage did not find a journal
pub damaged_is_none : (known : Option (List ℕ)) (place : ℕ) (images : List ℕ → Type 0) → IfSome known (λ bytes. IsDamagedAt place bytes × Only bytes images)
    → IfSome known (λ bytes. (bodies : List (List ℕ)) (end : ℕ) → IsJournal bodies end bytes → ⊥)
damaged_is_none None place images d = tt
damaged_is_none (Some bytes) place images d = λ bodies end j. journal_is_whole bytes bodies end place j d.0

-- an open of the empty journal holds no body
pub opened_empty : (known reads : Option (List ℕ)) (images : List ℕ → Type 0) (end : ℕ) (in_doubt : Bool)
    → IfSome known (λ bytes. (bodies : List (List ℕ)) × IsJournal bodies end bytes × Stores reads images end in_doubt bodies None)
    → IfSome known (λ bytes. IsJournal [] 8 bytes → Stores reads images end in_doubt [] None)
opened_empty None reads images end in_doubt o = tt
opened_empty (Some bytes) reads images end in_doubt (bodies, text, s) = λ j.
    subst (λ (l : List (List ℕ)). Stores reads images end in_doubt l None) (one_journal bytes bodies [] end 8 text j).0 s
