-- The moments of a disk in memory: one after each call.
use Rattle.std.specs.Prelude.{◌≡◌, ℕ, ◌≤◌, List, [], ◌∷◌, ◌++◌, length, Bool, true, false}
use Rattle.std.specs.Prelude.{if◌then◌else◌}
use Rattle.std.proofs.Common.{arith, sym, subst, inl, inr, length-append}
use Rattle.std.proofs.lemmas.Bool.{cases_lt}
use Rattle.std.proofs.lemmas.List.{take_all, take-append-le}
use Rattle.rad_outside.specs.Disks.{Elapses}
use Rattle.rad_outside.specs.MemoryDisk.{state_after, IsImage, IsImageSince}
use Rattle.rad_outside.specs.declared.call.Call.{Call}

-- an image that a crash after these calls may leave
abbrev pub IsImageAfter : List ℕ → List ℕ → List Call → Type 0
IsImageAfter first image calls = IsImage (state_after first calls) image

-- time goes on from the old calls to the new ones
abbrev pub Lasts : List ℕ → List Call → List Call → Type 0
Lasts first old new =
    Elapses (length old) (length new) (IsImageSince first old) (IsImageSince first new)
    (IsImage (state_after first new))

-- an image that a crash now may leave is one since an earlier moment
pub since_counts_now : (first : List ℕ) (calls : List Call) (t : ℕ) (image : List ℕ)
    → t ≤ length calls → IsImageAfter first image calls → IsImageSince first calls t image
since_counts_now first calls t image low is = record {
  count = length calls;
  since = low;
  had = omega arith;
  is = subst (IsImageAfter first image) (sym (take_all (length calls) calls (omega arith))) is;
}

-- since this moment there is no other image
pub since_only_now : (first : List ℕ) (calls : List Call) (image : List ℕ)
    → IsImageSince first calls (length calls) image → IsImageAfter first image calls
since_only_now first calls image s =
    subst (IsImageAfter first image) (take_all s.count calls s.since) s.is

-- where no call was kept, no time passes
pub elapses_same : (first : List ℕ) (calls : List Call) → Lasts first calls calls
elapses_same first calls = record {
  later = omega arith;
  nothing_else = λ t image low is. inl is;
  keeps = λ t image low is. is;
}

-- one more call was kept
elapses_pushed : (first : List ℕ) (old : List Call) (call : Call)
    → Lasts first old (old ++ call ∷ [])
elapses_pushed first old call =
    let new : List Call = old ++ call ∷ [] in
    let size = length-append old (call ∷ []) in
    let same = λ (n : ℕ) (low : n ≤ length old). take-append-le n old (call ∷ []) low in
    record {
      later = omega (arith, size);
      nothing_else = λ t image low s.
          elim (cases_lt (length old) s.count) [
            | inl last ↦
                let all = take_all s.count new (omega (arith, size)) in
                inr (subst (IsImageAfter first image) all s.is)
            | inr within ↦ inl (record {
              count = s.count;
              since = s.since;
              had = within;
              is = subst (IsImageAfter first image) (same s.count within) s.is;
            })
          ];
      keeps = λ t image low s. record {
        count = s.count;
        since = s.since;
        had = omega (arith, s.had, size);
        is = subst (IsImageAfter first image) (sym (same s.count s.had)) s.is;
      };
    }

-- a call, kept or not
pub elapses_kept : (first : List ℕ) (old new : List Call) (call : Call) (kept : Bool)
    → new ≡ (if kept then old ++ call ∷ [] else old) → Lasts first old new
elapses_kept first old new call true e =
    subst (Lasts first old) (sym e) (elapses_pushed first old call)
elapses_kept first old new call false e =
    subst (Lasts first old) (sym e) (elapses_same first old)
