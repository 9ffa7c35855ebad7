use Rattle.std.specs.Prelude.{take}
use Rattle.slice_names.specs.Names.{AreTold}
use Rattle.slice_names.proofs.names.add_commits.Given as goal

abbrev pub invariant-loop-remote : goal.invariant-loop-remote
invariant-loop-remote l = AreTold l.fn.names l.names (take l.remote-index l.remotes)
