use Rattle.rad_base.proofs.Conditions.{differ}
use Rattle.rad_node.proofs.Commanding.{count_parsed, parsed_count}
use Rattle.rad_node.proofs.command.commit_count.Goals as goal

pub returns-in-Err-clause-none : goal.returns-in-Err-clause-none
returns-in-Err-clause-none c = λ count h. cc (count_parsed c.args.word.now count c.parse.result h c.parse.ensures.value.0, c.in-Err.is)

pub returns-else-is_commit_count-clause-none : goal.returns-else-is_commit_count-clause-none
returns-else-is_commit_count-clause-none c = λ count h.
    differ c.is_commit_count.result
    (c.is_commit_count.ensures.1 (parsed_count c.args.word.now c.in-Ok.count count c.parse.result c.parse.ensures.value.0 c.in-Ok.is h))
    c.if-is_commit_count.false
