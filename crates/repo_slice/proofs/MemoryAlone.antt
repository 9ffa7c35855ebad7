-- Objects that are told and count no fault are wanting for memory alone.
use Rattle.std.proofs.Common.{◌≡◌, Some, Result, Ok, Err, refl, arith}
use Rattle.std.specs.Prelude.{IfErr}
use Rattle.commit_graph.specs.declared.fault.GetFault.{GetFault}
use Rattle.commit_graph.specs.declared.fault.GetFault.TheVariants.{Changed, DiskFault, NoMemory}
use Rattle.commit_graph.specs.Faults.{IsCause, IsCaused, Places, fault_met}
use Rattle.commit_graph.specs.Objects.{ObjectMap}

memory_cause : (m : ObjectMap) (places : Places) (why : GetFault) → IsCause (Some m) places 0 0 why → why ≡ NoMemory
memory_cause m places DiskFault h = absurd (omega (arith, h))
memory_cause m places (Changed change) h = cc h.1.untold
memory_cause m places NoMemory h = refl

pub memory_alone : {T : Type 0} (m : ObjectMap) (places : Places) (result : Result T GetFault)
    → IsCaused (Some m) places 0 0 (fault_met Some result) → IfErr result (λ why. why ≡ NoMemory)
memory_alone m places (Ok x) h = tt
memory_alone m places (Err why) h = memory_cause m places why h
