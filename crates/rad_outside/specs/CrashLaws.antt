-- The images of `crash` are among those that a crash may leave.
use Rattle.std.specs.Prelude.{◌≡◌, ℕ, List, [], ◌∷◌, length, take, min, replicate}
use Rattle.std.specs.Prelude.{refl, false}
use Rattle.std.proofs.Common.{arith, sym, subst}
use Rattle.std.proofs.lemmas.List.{length-replicate, take_min}
use Rattle.rad_outside.specs.Crashes.{filled, filled_image}
use Rattle.rad_outside.specs.Disks.{Torn}
use Rattle.rad_outside.specs.MemoryDisk.{IsImage, IsImageSince, IsTorn, new_state, overwritten}
use Rattle.rad_outside.specs.MemoryDisk.{state_after}
use Rattle.rad_outside.specs.MemoryDiskLaws.{reads_is_image, torn_overwritten}
use Rattle.rad_outside.specs.declared.call.Call.{Call}
use Rattle.rad_outside.specs.declared.fill.Fill.{Fill}
use Rattle.rad_outside.specs.declared.fill.Fill.TheVariants.{Old, New, Byte}

-- a write may leave all as it was
torn_nothing : (place n : ℕ) (old : List ℕ) → Torn place n old old
torn_nothing place n old = record {
  before = take_min place old;
  after = refl;
  no_shorter = omega arith;
  no_longer = omega arith;
}

-- or one byte all over its range
torn_filled : (place n byte : ℕ) (old : List ℕ)
    → Torn place n old (overwritten place (replicate n byte) old)
torn_filled place n byte old =
    let bytes = replicate n byte in
    subst (λ (k : ℕ). Torn place k old (overwritten place bytes old)) (length-replicate n byte)
    (torn_overwritten place false bytes old)

torn_old : (synced : List ℕ) (ranges : List (ℕ × ℕ)) → IsTorn synced ranges synced
torn_old synced [] = refl
torn_old synced (range ∷ ranges) =
    (synced, torn_old synced ranges, torn_nothing range.0 range.1 synced)

torn_byte : (byte : ℕ) (synced : List ℕ) (ranges : List (ℕ × ℕ))
    → IsTorn synced ranges (filled byte synced ranges)
torn_byte byte synced [] = refl
torn_byte byte synced (range ∷ ranges) =
    let before = filled byte synced ranges in
    (before, torn_byte byte synced ranges, torn_filled range.0 range.1 byte before)

-- however the ranges are filled, a crash may leave the image
pub filled_is_image : (fill : Fill) (first : List ℕ) (calls : List Call)
    → IsImage (state_after first calls) (filled_image fill (state_after first calls))
filled_is_image Old first calls =
    let s = state_after first calls in torn_old s.synced s.ranges
filled_is_image New first calls = reads_is_image first calls
filled_is_image (Byte byte) first calls =
    let s = state_after first calls in torn_byte byte s.synced s.ranges

-- an image after the first of the calls is one since then
pub filled_since : (fill : Fill) (first : List ℕ) (calls : List Call) (call : ℕ)
    → IsImageSince first calls (min call (length calls))
    (filled_image fill (state_after first (take call calls)))
filled_since fill first calls call = record {
  count = min call (length calls);
  since = omega arith;
  had = omega arith;
  is = subst (λ (some : List Call). IsImage (state_after first some)
      (filled_image fill (state_after first (take call calls)))) (sym (take_min call calls))
      (filled_is_image fill first (take call calls));
}

-- once all is synced there is one image
pub filled_new : (fill : Fill) (bytes : List ℕ) → filled_image fill (new_state bytes) ≡ bytes
filled_new Old bytes = refl
filled_new New bytes = refl
filled_new (Byte byte) bytes = refl
