use Rattle.std.proofs.Common.{rules}
use Rattle.git_object.specs.Names.{name}
use Rattle.git_object.proofs.name.name_of.Goals as goal

pub returns : goal.returns
unfolding name
returns c = search rules
