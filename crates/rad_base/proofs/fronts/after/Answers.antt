use Rattle.rad_base.proofs.OneFront.{strips}
use Rattle.rad_base.proofs.fronts.after.Goals as goal

pub returns-clause-found : goal.returns-clause-found
returns-clause-found c = (strips c.args.bytes.now c.args.word.now c.strip_prefix.result c.strip_prefix.ensures.cases).found

pub returns-clause-none : goal.returns-clause-none
returns-clause-none c = (strips c.args.bytes.now c.args.word.now c.strip_prefix.result c.strip_prefix.ensures.cases).none
