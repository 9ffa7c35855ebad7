-- A write that succeeds is whole.
use Rattle.std.proofs.Common.{◌≡◌, ℕ, ◌↔◌, List, Bool, false, Result, Ok, Err, IsOk, OnOk, arith, refl, sym, subst, ap, ◌∙◌}
use Rattle.rad_outside.specs.Disks.{Writes}
use Rattle.rad_outside.specs.MemoryDisk.{State, written}
use Rattle.rad_outside.specs.MemoryDiskLaws.{writes_overwritten}

-- a write that was not to fail
pub written_whole : (place : ℕ) (bytes : List ℕ) (failed : Bool) (old new : State)
    → failed ≡ false → new ≡ written place bytes failed old → Writes place bytes old.reads new.reads
written_whole place bytes failed old new whole e =
    subst (λ (s : State). Writes place bytes old.reads s.reads)
    (sym (e ∙ ap (λ (f : Bool). written place bytes f old) whole))
    (writes_overwritten place bytes old.reads)

-- where a call succeeds just where it was kept and was not to fail
pub written_on_ok : {T E U F : Type 0} (kept : Result T E) (result : Result U F) (place : ℕ) (bytes : List ℕ) (failed : Bool) (old new : State)
    → (IsOk result ↔ (IsOk kept × (failed ≡ false))) → OnOk kept (new ≡ written place bytes failed old)
    → OnOk result (Writes place bytes old.reads new.reads)
written_on_ok (Ok x) (Ok y) place bytes failed old new both e = written_whole place bytes failed old new (both.0 refl).1 e
written_on_ok (Err x) (Ok y) place bytes failed old new both e = grind (arith, both.0 refl)
written_on_ok kept (Err y) place bytes failed old new both e = tt
