use Rattle.std.proofs.Common.{sym, subst, arith}
use Rattle.rad_base.specs.Varint.{ReadsVarint}
use Rattle.rad_base.specs.declared.varint.Varint.{Varint}
use Rattle.rad_base.proofs.VarintReads.{reads}
use Rattle.rad_base.proofs.varint.read_varint.Goals as goal

pub returns-clause-reads : goal.returns-clause-reads
returns-clause-reads c =
    subst (λ (answer : Varint). ReadsVarint c.args.bytes.now answer) (sym c.front_number.ensures)
    (reads c.args.bytes.now (λ i. omega (arith, c.type_inv.bytes i)))
