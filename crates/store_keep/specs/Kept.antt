-- What a keep over a store is seen as, and what it has.
use Rattle.std.specs.Prelude.{◌||◌, ℕ, ◌≤◌, Bool, eqb}
use Rattle.repo_slice.specs.Keeps.{Constants}
use Rattle.object_store.specs.Held.{claimant_of}
use Rattle.object_store.specs.Stores.{StandsForSome}
use Rattle.object_store.specs.declared.store.Store.{Store}

-- a store, and the number of the caller for whom it is kept
pub record Kept (D : Type 0) : Type 0 where
  pub store : Store D
  pub caller : ℕ

-- the store stands for some entries, and there is a caller
pub record IsKept {D : Type 0} (kept : Kept D) : Type 0 where
  pub stands : StandsForSome kept.store
  pub caller : 1 ≤ kept.caller

-- a caller may call for what it claimed, and for what nobody claimed
abbrev pub may_call : ℕ → ℕ → Bool
may_call caller claimant = eqb claimant 0 || eqb claimant caller

-- by the store's keyring, with the caller's number, for each repository for which it may call
abbrev pub constants_at : {D : Type 0} → Store D → ℕ → Constants
constants_at store caller = record {
  keyring = store.keyring;
  caller = caller;
  stands = λ rid. may_call caller (claimant_of store rid);
}

abbrev pub constants_of : {D : Type 0} → Kept D → Constants
constants_of kept = constants_at kept.store kept.caller
