-- How far the judging of offered remotes has come.
use Rattle.std.specs.Prelude.{◌≡◌, ◌≤◌, List, [], ◌∷◌, length, slice_range, Result, Ok, Err}
use Rattle.std.specs.List.{AllByRecursion}
use Rattle.rad_base.specs.declared.names.Nid.{Nid}
use Rattle.rad_base.specs.declared.names.Oid.{Oid}
use Rattle.commit_graph.specs.declared.answer.Closure.{Closure}
use Rattle.commit_graph.specs.declared.root.Root.{Root}
use Rattle.commit_graph.specs.Closures.{IsClosure}
use Rattle.commit_graph.specs.Objects.{ObjectMap}
use Rattle.commit_graph.specs.Pairs.{as_commit}
use Rattle.signed_refs.specs.Lines.{Line}
use Rattle.repo_slice.specs.declared.outcomes.Outcome.{Outcome}
use Rattle.repo_slice.specs.declared.progress.Progress.{Progress}
use Rattle.repo_slice.specs.declared.progress.Progress.TheVariants.{Over, Waits}
use Rattle.repo_slice.specs.declared.stop.Halt.TheVariants as halts
use Rattle.repo_slice.specs.declared.wanting.Stage.{Stage}
use Rattle.repo_slice.specs.declared.wanting.Stage.TheVariants.{Sigs, Tips}
use Rattle.repo_slice.specs.Good.{line_roots}
use Rattle.repo_slice.specs.Outcomes.{Case, IsLater, IsNews}
use Rattle.repo_slice.specs.Parts.{IsEarly, IsHalt}
use Rattle.repo_slice.specs.Wanted.{IsWanted}

-- a remote gets through a stage, and its next outcome depends on what these roots reach
abbrev pub GetsThrough : ObjectMap → Case → Stage → Nid × Oid → List Root → Type 0
GetsThrough objects c Sigs p roots = IsNews objects c p.0 p.1 × (roots ≡ as_commit p.1 ∷ [])
GetsThrough objects c Tips p roots = (refs : List Line) × IsLater objects c p.0 p.1 refs × (roots ≡ line_roots refs)

-- a remote has this outcome, however many remotes stand before it, and does not get through the stage
abbrev pub IsOver : ObjectMap → Case → Stage → Nid × Oid → Outcome → Type 0
IsOver objects c stage p outcome = IsHalt objects c p.0 p.1 (halts.Outcome outcome) × (IsWanted objects c stage p.0 p.1 → ⊥)

-- a remote has come so far behind a stage, with its roots in their places among these
abbrev pub IsProgress : ObjectMap → Case → Stage → List Root → Nid × Oid → Progress → Type 0
IsProgress objects c stage roots p (Over outcome) = IsOver objects c stage p outcome
IsProgress objects c stage roots p (Waits from to) =
    (from ≤ to) × (to ≤ length roots) × GetsThrough objects c stage p (slice_range roots from to)

-- each remote has come so far, in order
abbrev pub AreProgress : ObjectMap → Case → Stage → List Root → List (Nid × Oid) → List Progress → Type 0
AreProgress objects c stage roots [] [] = Unit {0}
AreProgress objects c stage roots [] (x ∷ found) = ⊥
AreProgress objects c stage roots (p ∷ pairs) [] = ⊥
AreProgress objects c stage roots (p ∷ pairs) (x ∷ found) =
    IsProgress objects c stage roots p x × AreProgress objects c stage roots pairs found

-- the closure of what a remote that got through a stage depends on, or its outcome
abbrev pub IsReach : ObjectMap → Case → Stage → Nid × Oid → Result Closure Outcome → Type 0
IsReach objects c stage p (Ok closure) = (roots : List Root) × GetsThrough objects c stage p roots × IsClosure objects roots closure
IsReach objects c stage p (Err outcome) = IsOver objects c stage p outcome

-- the outcome is none that depends on how many remotes stand
abbrev pub IsEarlyReach : Result Closure Outcome → Type 0
IsEarlyReach (Ok closure) = Unit {0}
IsEarlyReach (Err outcome) = IsEarly (halts.Outcome outcome)

-- the same of what has come so far
abbrev pub IsEarlyProgress : Progress → Type 0
IsEarlyProgress (Over outcome) = IsEarly (halts.Outcome outcome)
IsEarlyProgress (Waits from to) = Unit {0}

-- and of each remote
abbrev pub AreEarly : List Progress → Type 0
AreEarly found = AllByRecursion IsEarlyProgress found
