use Rattle.std.proofs.Common.{map}
use Rattle.routing.proofs.ReadRepos.{AreRead, pair_of}
use Rattle.routing.proofs.repos.repos_in.Given as goal

abbrev pub invariant-loop-name : goal.invariant-loop-name
invariant-loop-name l = AreRead l.file (map pair_of l.members.entries) (map pair_of l.name-iterator) l.repos
