use Rattle.std.proofs.Common.{ℕ, List, Option, None, Result, Ok, Err, inl, inr}
use Rattle.rad_base.specs.declared.names.Rid.{Rid}
use Rattle.commit_graph.specs.Objects.{Object}
use Rattle.repo_slice.specs.declared.keep_fault.KeepFault.{KeepFault}
use Rattle.repo_slice.specs.declared.keep_fault.KeepFault.TheVariants as keeps
use Rattle.legal_history.specs.Cores.{Core}
use Rattle.object_store.specs.Stores.{IsPut, StandsForSome}
use Rattle.object_store.specs.declared.store.Store.{Store}
use Rattle.object_store.proofs.tests.put_any.Goals as goal

-- a store stands for some entries behind a put
stands_put : {D : Type 0} (reads : D → Option (List ℕ)) (images : D → List ℕ → Type 0) (moment : D → ℕ) (since : D → ℕ → List ℕ → Type 0) (old new : Store D) (core : Core) (rid : Rid)
    (batch : List Object) (caller : ℕ) (result : Result (Unit {0}) KeepFault) → IsPut reads images moment since old new core rid batch caller result → StandsForSome new
stands_put reads images moment since old new core rid batch caller (Ok done) moves = (moves.next.items, moves.stands)
stands_put reads images moment since old new core rid batch caller (Err keeps.DiskFault) (inl moves) = (moves.next.items, moves.stands)
stands_put reads images moment since old new core rid batch caller (Err keeps.DiskFault) (inr (inl moves)) = (moves.next.items, moves.stands)
stands_put reads images moment since old new core rid batch caller (Err keeps.DiskFault) (inr (inr moves)) = (moves.next.items, moves.stands)
stands_put reads images moment since old new core rid batch caller (Err keeps.Full) moves = (moves.next.items, moves.stands)
stands_put reads images moment since old new core rid batch caller (Err (keeps.Changed change)) never = absurd never
stands_put reads images moment since old new core rid batch caller (Err keeps.NoMemory) moves = (moves.next.items, moves.stands)

pub returns-clause-claimed : goal.returns-clause-claimed
returns-clause-claimed c = c.put-put.ensures.claims c.args.rid.now 1 c.requires.claimed

pub returns-clause-stands : goal.returns-clause-stands
returns-clause-stands c =
    let core : Core = record { items = c.requires.stands.0; doubt = None } in
    stands_put _ _ _ _ c.args.store.now c.put-put.new.self core c.args.rid.now c.args.batch.now 1 c.put-put.result (c.put-put.ensures.events core c.requires.stands.1)
