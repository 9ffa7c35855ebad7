use Rattle.git_object.proofs.OnePlace.{one_place}
use Rattle.git_object.proofs.laws.one_place.Goals as goal

pub returns : goal.returns
returns c = one_place
