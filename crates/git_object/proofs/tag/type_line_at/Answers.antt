use Rattle.git_object.proofs.Tags.{no_type}
use Rattle.git_object.proofs.tag.type_line_at.Goals as goal

pub returns-clause-none : goal.returns-clause-none
returns-clause-none c =
    no_type c.args.bytes.now c.in_default.ensures.none c.in_default-after.ensures.none c.in_default-after-2.ensures.none c.in_default-after-3.ensures.none
