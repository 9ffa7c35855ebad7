use Rattle.std.proofs.Common.{ℕ, List, Option, None, Result, Ok, Err}
use Rattle.rad_base.specs.declared.names.Rid.{Rid}
use Rattle.legal_history.specs.Cores.{Core}
use Rattle.object_store.specs.Stores.{IsClaiming, StandsForSome}
use Rattle.object_store.specs.declared.faults.ClaimFault.{ClaimFault}
use Rattle.object_store.specs.declared.faults.ClaimFault.TheVariants as claimed
use Rattle.object_store.specs.declared.store.Store.{Store}
use Rattle.object_store.proofs.tests.claim_first.Goals as goal

-- a store stands for some entries behind a claim
stands_claimed : {D : Type 0} (reads : D → Option (List ℕ)) (images : D → List ℕ → Type 0) (moment : D → ℕ) (since : D → ℕ → List ℕ → Type 0) (old new : Store D) (core : Core) (rid : Rid)
    (caller : ℕ) (result : Result (Unit {0}) ClaimFault) → IsClaiming reads images moment since old new core rid caller result → StandsForSome new
stands_claimed reads images moment since old new core rid caller (Ok done) moves = (moves.next.items, moves.stands)
stands_claimed reads images moment since old new core rid caller (Err (claimed.Claimed other)) is = (is.0.next.items, is.0.stands)
stands_claimed reads images moment since old new core rid caller (Err claimed.NoMemory) moves = (moves.next.items, moves.stands)

pub returns-clause-stands : goal.returns-clause-stands
returns-clause-stands c =
    let core : Core = record { items = c.requires.0; doubt = None } in
    stands_claimed _ _ _ _ c.args.store.now c.claim.new.self core c.args.rid.now 1 c.claim.result (c.claim.ensures.events core c.requires.1)
