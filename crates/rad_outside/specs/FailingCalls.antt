-- Which calls of an object in memory are to fail.
use Rattle.std.specs.Prelude.{◌≡◌, ◌+◌, ◌-◌, ◌^◌, min, Contains, Result, IsErr, OnOk, OnErr}
use Rattle.rad_outside.specs.declared.failing_calls.FailingCalls.{FailingCalls}

-- the next call is one of those listed
abbrev pub FailsNext : FailingCalls → Type 0
FailsNext calls = Contains calls.listed.items calls.had

-- one call later. The count stays at the type's end
abbrev pub one_later : FailingCalls → FailingCalls
one_later calls = record calls { had = min (calls.had + 1) (2 ^ 64 - 1) }

-- A listed call fails, and counts as a call. Another fails only for want of memory, and then counts
-- as none.
pub record HadCall {T E : Type 0} (old new : FailingCalls) (result : Result T E) : Type 0 where
  pub listed : FailsNext old → IsErr result × (new ≡ one_later old)
  pub done : OnOk result (new ≡ one_later old)
  pub refused : OnErr result (¬ FailsNext old → new ≡ old)
