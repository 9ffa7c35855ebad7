use Rattle.rad_node.proofs.import.report_end.Goals as goal

pub returns-in-Done-clause-status : goal.returns-in-Done-clause-status
returns-in-Done-clause-status g c = rw c.in-Done.is (rw c.in-Done.is at c.report_job.ensures.end)
