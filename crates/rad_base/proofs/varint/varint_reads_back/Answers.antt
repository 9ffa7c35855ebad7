use Rattle.rad_base.proofs.Varints.{varint_read}
use Rattle.rad_base.proofs.varint.varint_reads_back.Goals as goal

pub returns : goal.returns
returns c = varint_read
