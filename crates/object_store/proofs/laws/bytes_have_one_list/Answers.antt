use Rattle.object_store.proofs.OneList.{one_list}
use Rattle.object_store.proofs.laws.bytes_have_one_list.Goals as goal

pub returns : goal.returns
returns c = one_list
