use Rattle.std.proofs.Common.{take}
use Rattle.commit_graph.specs.Histories.{ListsCommit}
use Rattle.canonical_head.proofs.Rows.{IsKept}
use Rattle.canonical_head.proofs.plain.row.Given as goal

abbrev pub invariant-loop-tip : goal.invariant-loop-tip
invariant-loop-tip l = IsKept (ListsCommit l.history) (take l.tip-index l.tips) l.row
