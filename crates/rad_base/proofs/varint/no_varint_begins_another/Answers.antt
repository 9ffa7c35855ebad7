use Rattle.rad_base.proofs.Varints.{one_varint}
use Rattle.rad_base.proofs.varint.no_varint_begins_another.Goals as goal

pub returns : goal.returns
returns c = one_varint
