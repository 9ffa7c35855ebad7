use Rattle.std.proofs.Common.{◌≡◌, ◌++◌, take}
use Rattle.std.specs.List.{flat_map}
use Rattle.report_texts.specs.Texts.{remote_line}
use Rattle.report_texts.proofs.job.push_remotes.Given as goal

abbrev pub invariant-loop-node : goal.invariant-loop-node
invariant-loop-node l =
    l.text.items ≡ l.initial.text.items ++ flat_map (remote_line l.advanced) (take l.node-index l.outcomes)
