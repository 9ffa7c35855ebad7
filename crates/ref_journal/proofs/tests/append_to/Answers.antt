use Rattle.std.proofs.Common.{◌≡◌, ℕ, List, [], ◌∷◌, Option, None, Some, rules, subst, sym}
use Rattle.std.specs.Prelude.{IfSome}
use Rattle.ref_journal.specs.Holds.{Tells}
use Rattle.ref_journal.specs.Images.{IsJournal, IsLeft}
use Rattle.ref_journal.specs.Moments.{HasBodies}
use Rattle.ref_journal.proofs.Holding.{damaged_is_none, held_image, opened_empty}
use Rattle.ref_journal.proofs.tests.append_to.Goals as goal

-- no journal is not the empty one
not_empty : (known : Option (List ℕ)) → IfSome known (λ bytes. (bodies : List (List ℕ)) (end : ℕ) → IsJournal bodies end bytes → ⊥)
    → IfSome known (λ bytes. IsJournal [] 8 bytes → ⊥)
not_empty None n = tt
not_empty (Some bytes) n = n [] 8

-- what stands after both appends, on the disk that comes back
after_both : (D : Type 0) (images : D → List ℕ → Type 0) (mine lent : D) (known r1 : Option (List ℕ)) (Empty : Type 0) (first second : List ℕ) (e1 : ℕ)
    → mine ≡ lent → IfSome known (λ bytes. IsJournal [] 8 bytes → Empty) → (Empty → Tells (IsLeft (first ∷ second ∷ []) None e1) r1 (images mine))
    → IfSome known (λ bytes. IsJournal [] 8 bytes → (image : List ℕ) → images lent image → HasBodies (first ∷ second ∷ []) image)
after_both D images mine lent None r1 Empty first second e1 same opened added = tt
after_both D images mine lent (Some bytes) r1 Empty first second e1 same opened added = λ j image is.
    held_image r1 (images mine) (first ∷ second ∷ []) None e1 (added (opened j)) image (subst (λ (d : D). images d image) (sym same) is)

pub returns-in-Err-Damaged-clause-none : goal.returns-in-Err-Damaged-clause-none
returns-in-Err-Damaged-clause-none g c =
    not_empty _ (damaged_is_none _ c.in-Err-Damaged.field-0-1 _ (rw c.in-Err-Damaged.field-0-is at c.in-Err-Damaged.ensures.opened))

pub returns-in-Ok-added-clause-images : goal.returns-in-Ok-added-clause-images
returns-in-Ok-added-clause-images g c =
    after_both _ g.D.Disk.images c.append_both-added.new.journal.disk.now _ _ _ _ c.args.first.now c.args.second.now _ (search rules)
    (opened_empty _ _ _ _ _ c.in-Ok.ensures.opened) (λ h. (c.in-Ok-added.ensures.holds [] h).tells)
