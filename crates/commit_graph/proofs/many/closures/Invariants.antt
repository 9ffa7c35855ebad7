use Rattle.std.proofs.Common.{take}
use Rattle.std.specs.Option.{ForSome}
use Rattle.commit_graph.specs.Many.{AreClosures}
use Rattle.commit_graph.proofs.many.closures.Given as goal

abbrev pub invariant-loop-root : goal.invariant-loop-root
invariant-loop-root g l = ForSome (g.O.Objects.content l.fn.objects) (λ m. AreClosures m (take l.root-index l.roots) l.answers.items)
