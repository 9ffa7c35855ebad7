use Rattle.commit_graph.proofs.Marks.{marked_iff}
use Rattle.commit_graph.proofs.PairOrder.{pair_total, pair_exact}
use Rattle.commit_graph.proofs.visited.Visited.contains.Goals as goal

pub returns : goal.returns
returns c = marked_iff pair_total pair_exact c.self.inside.marks c.self.inside.queue.items c.args.self.now c.args.pair _ c.contains.ensures c.self.view_is c.self.invariant
