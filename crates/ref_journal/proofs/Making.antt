-- The two writes of a making.
use Rattle.std.proofs.Common.{◌≡◌, ℕ, ◌+◌, ◌-◌, min, List, [], ◌∷◌, ◌++◌, length, take, drop, get_or, Option, None, Some, inl, inr, refl, sym, ap, subst, ◌∙◌, arith, length-append}
use Rattle.std.proofs.lemmas.Bool.{cases_eq}
use Rattle.std.proofs.lemmas.List.{length-take, nil_from_length}
use Rattle.std.specs.Prelude.{IfSome}
use Rattle.rad_outside.specs.Disks.{Changes, Torn, Writes}
use Rattle.rad_outside.specs.TornLaws.{torn_writes}
use Rattle.ref_journal.specs.Frames.{header}
use Rattle.ref_journal.specs.Holds.{Tells}
use Rattle.ref_journal.specs.Images.{IsJournal}
use Rattle.ref_journal.specs.Makes.{HasNoMark, IsUnmadeOrEmpty}
use Rattle.ref_journal.specs.Moments.{HasBodies, LeavesOnly, LeavesTorn, WritesDurably}
use Rattle.ref_journal.proofs.Lasting.{leaves_both, leaves_torn, told_written}
use Rattle.ref_journal.proofs.OneReading.{fresh_is_empty}

-- the header without its mark, and a closed gate
abbrev pub behind_mark : List ℕ
behind_mark = 0x72 ∷ 0x61 ∷ 0x64 ∷ 0x6a ∷ 0x72 ∷ 0x6e ∷ 1 ∷ 0 ∷ []

-- a byte, the rest of the header, a closed gate
record HasRest (bytes : List ℕ) : Type 0 where
  pub first : ℕ
  pub unread : List ℕ
  pub text : bytes ≡ first ∷ (behind_mark ++ unread)

-- one item
one_item : (l : List ℕ) → length l ≡ 1 → l ≡ get_or l 0 0 ∷ []
one_item [] e = absurd (omega (arith, e))
one_item (x ∷ []) e = refl
one_item (x ∷ y ∷ l) e = absurd (omega (arith, e))

-- the first write
first_laid : (old new : List ℕ) → Writes 1 behind_mark old new → HasRest new
first_laid old new w =
    let gap : length w.gap ≡ 1 - length old = w.gap_size in
    let one : length (take 1 old ++ w.gap) ≡ 1 = omega (arith, gap, length-append (take 1 old) w.gap, length-take 1 old) in
    let front = one_item (take 1 old ++ w.gap) one in
    record {
      first = get_or (take 1 old ++ w.gap) 0 0;
      unread = drop (1 + length behind_mark) old;
      text = w.whole ∙ ap (λ (l : List ℕ). l ++ behind_mark ++ drop (1 + length behind_mark) old) front;
    }

-- the second
second_laid : (old new : List ℕ) → HasRest old → Writes 0 (1 ∷ []) old new → IsJournal [] 8 new
second_laid old new h w =
    let size : length w.gap ≡ 0 - length old = w.gap_size in
    let none : w.gap ≡ [] = nil_from_length w.gap (omega (arith, size)) in
    let behind : drop 1 old ≡ behind_mark ++ h.unread = ap (drop 1) h.text in
    let text : new ≡ header ++ (0 ∷ h.unread) =
    w.whole ∙ ap (λ (gap : List ℕ). [] ++ gap ++ (1 ∷ []) ++ drop 1 old) none ∙ ap (λ (l : List ℕ). 1 ∷ l) behind in
    subst (IsJournal [] 8) (sym text) (fresh_is_empty 0 h.unread (λ e. omega (arith, e)))

-- the second, torn
second_torn : (old new : List ℕ) → HasRest old → Torn 0 1 old new → IsUnmadeOrEmpty new
second_torn old [] h t = absurd (omega (arith, t.no_shorter, ap length h.text))
second_torn old (x ∷ rest) h t =
    let behind : rest ≡ behind_mark ++ h.unread = t.after ∙ ap (drop 1) h.text in
    elim (cases_eq x 1) [
      | inl mark ↦ inr (subst (HasBodies []) (sym (ap (λ (n : ℕ). n ∷ rest) mark ∙ ap (λ (l : List ℕ). 1 ∷ l) behind)) (fresh_is_empty 0 h.unread (λ e. omega (arith, e))))
      | inr other ↦ inl (inr other)
    ]

-- no mark is no journal
no_mark : (bytes : List ℕ) → HasNoMark bytes → IsUnmadeOrEmpty bytes
no_mark bytes h = inl (inr h.other)

-- the first write, torn, leaves the first byte
mark_torn : (n : ℕ) (old new : List ℕ) → HasNoMark old → Torn 1 n old new → HasNoMark new
mark_torn n [] new h t = absurd (omega (arith, h.first))
mark_torn n (x ∷ old) [] h t = absurd (omega (arith, t.no_shorter))
mark_torn n (x ∷ old) (y ∷ new) h t =
    let one : min 1 (length (x ∷ old)) ≡ 1 = omega arith in
    let same : take 1 (y ∷ new) ≡ take 1 (x ∷ old) = subst (λ (m : ℕ). take m (y ∷ new) ≡ take 1 (x ∷ old)) one t.before in
    let first : y ≡ x = ap (λ (l : List ℕ). get_or l 0 0) same in
    record { first = omega arith; other = λ e. h.other (sym first ∙ e) }

-- the first write keeps it too
mark_kept : (old new : List ℕ) → HasNoMark old → Writes 1 behind_mark old new → HasNoMark new
mark_kept old new h w = mark_torn (length behind_mark) old new h (torn_writes 1 (length behind_mark) behind_mark old new (omega arith) w)

-- where the disk tells what it reads as, both writes make an empty journal
pub laid_told : (a b c : Option (List ℕ)) (mid after : List ℕ → Type 0) → Changes (WritesDurably 1 behind_mark mid) a b → Changes (WritesDurably 0 (1 ∷ []) after) b c
    → IfSome a (λ _. Tells (IsJournal [] 8) c after)
laid_told None b c mid after w v = tt
laid_told (Some bytes) b c mid after w v =
    let any : Tells (λ _. Unit {0}) (Some bytes) (λ _. ⊥) = record { bytes = bytes; told = refl; has = tt; each = λ image is. tt } in
    told_written HasRest (IsJournal [] 8) 0 (1 ∷ []) b c mid after second_laid
    (told_written (λ _. Unit {0}) HasRest 1 behind_mark (Some bytes) b (λ _. ⊥) mid (λ old new any wrote. first_laid old new wrote) any w) v

-- the moments of the first write
pub moments_marked : (n m0 m1 : ℕ) (a : Option (List ℕ)) (s0 s1 : ℕ → List ℕ → Type 0) (images : List ℕ → Type 0) → Tells HasNoMark a images
    → ((image : List ℕ) → s0 m0 image → images image) → LeavesTorn 1 n m0 m1 s0 s1 images → LeavesOnly m0 m1 s0 s1 IsUnmadeOrEmpty
moments_marked n m0 m1 a s0 s1 images t now l =
    leaves_torn HasNoMark IsUnmadeOrEmpty 1 n m0 m1 a s0 s1 images no_mark (λ old new h torn. no_mark new (mark_torn n old new h torn)) t now l

-- the moments of both
pub moments_laid : (n m0 m1 m2 : ℕ) (a b : Option (List ℕ)) (s0 s1 s2 : ℕ → List ℕ → Type 0) (images mid : List ℕ → Type 0) → Tells HasNoMark a images
    → ((image : List ℕ) → s0 m0 image → images image) → ((image : List ℕ) → s1 m1 image → mid image) → LeavesTorn 1 n m0 m1 s0 s1 images
    → Changes (WritesDurably 1 behind_mark mid) a b → LeavesTorn 0 1 m1 m2 s1 s2 mid → LeavesOnly m0 m2 s0 s2 IsUnmadeOrEmpty
moments_laid n m0 m1 m2 a b s0 s1 s2 images mid t now then l w k =
    let both : Tells (λ bytes. HasRest bytes × HasNoMark bytes) b mid =
    told_written HasNoMark (λ bytes. HasRest bytes × HasNoMark bytes) 1 behind_mark a b images mid (λ old new h wrote. (first_laid old new wrote, mark_kept old new h wrote)) t w in
    leaves_both IsUnmadeOrEmpty m0 m1 m2 s0 s1 s2 (moments_marked n m0 m1 a s0 s1 images t now l)
    (leaves_torn (λ bytes. HasRest bytes × HasNoMark bytes) IsUnmadeOrEmpty 0 1 m1 m2 b s1 s2 mid (λ bytes h. no_mark bytes h.1)
    (λ old new h torn. second_torn old new h.0 torn) both then k)
