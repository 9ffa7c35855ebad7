use Rattle.std.proofs.Common.{take, List}
use Rattle.commit_graph.specs.declared.root.Root.{Root}
use Rattle.commit_graph.specs.Objects.{ObjectMap}
use Rattle.commit_graph.specs.Many.{AreClosures}
use Rattle.commit_graph.proofs.JoinedClosures.{IsJoin}
use Rattle.commit_graph.proofs.many.joined.Given as goal

abbrev pub invariant-loop-closure : goal.invariant-loop-closure
invariant-loop-closure l = (m : ObjectMap) (roots : List Root) → AreClosures m roots (take l.closure-index l.closures) → IsJoin m roots l.missing l.unfit
