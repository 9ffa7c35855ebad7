use Rattle.std.proofs.Common.{take}
use Rattle.commit_graph.proofs.NameSets.{IsTold}
use Rattle.commit_graph.proofs.reaching.add_names.Given as goal

abbrev pub invariant-loop-pair : goal.invariant-loop-pair
invariant-loop-pair l = IsTold l.fn.names l.names (take l.pair-index l.pairs)
