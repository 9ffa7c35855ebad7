-- What the judging of offered remotes ends with.
use Rattle.std.specs.Prelude.{ℕ, List, Result, IfOk}
use Rattle.rad_base.specs.declared.names.Nid.{Nid}
use Rattle.rad_base.specs.declared.names.Oid.{Oid}
use Rattle.rad_base.specs.declared.memory.NoMemory.{NoMemory}
use Rattle.commit_graph.specs.Many.{AreClosures}
use Rattle.commit_graph.specs.Objects.{ObjectMap}
use Rattle.commit_graph.specs.declared.answer.Closure.{Closure}
use Rattle.commit_graph.specs.declared.root.Root.{Root}
use Rattle.repo_slice.specs.Outcomes.{AreOutcomes, Case}
use Rattle.repo_slice.specs.Rounds.{AreProgress}
use Rattle.repo_slice.specs.declared.judging.Remarks.{Remarks}
use Rattle.repo_slice.specs.declared.progress.Progress.{Progress}
use Rattle.repo_slice.specs.declared.wanting.Stage.TheVariants.{Tips}

-- over any objects of which these are the closures that the remotes wait for, each has its outcome
abbrev pub Concludes : Case → ℕ → List (Nid × Oid) → List Progress → List Closure → Result Remarks NoMemory → Type 0
Concludes c count remotes found closures result = (objects : ObjectMap) (roots : List Root)
    → AreClosures objects roots closures → AreProgress objects c Tips roots remotes found
    → IfOk result (λ remarks. AreOutcomes objects c count remotes remarks.outcomes)
