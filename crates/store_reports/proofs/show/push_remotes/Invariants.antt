use Rattle.std.proofs.Common.{take}
use Rattle.keyring.specs.Contents.{Contents}
use Rattle.repo_slice.specs.Good.{IsGood}
use Rattle.repo_slice.specs.Slices.{objects_of, state_of}
use Rattle.store_reports.specs.Parts.{AddsRemotes}
use Rattle.store_reports.proofs.show.push_remotes.Given as goal

abbrev pub invariant-loop-node : goal.invariant-loop-node
invariant-loop-node l = (keyring : Contents) → IsGood (objects_of l.slice) keyring (state_of l.slice)
    → AddsRemotes (objects_of l.slice) (take l.node-index l.node-items) l.initial.text.items l.text.items
