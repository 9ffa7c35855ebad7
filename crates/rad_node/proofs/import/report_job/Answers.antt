use Rattle.rad_node.proofs.Importing.{job_report_end}
use Rattle.rad_node.proofs.import.report_job.Goals as goal

pub returns-in-Ok-clause-end : goal.returns-in-Ok-clause-end
returns-in-Ok-clause-end g c = job_report_end c.args.end.now c.is_refused.result _ c.give_report.result c.is_refused.ensures c.give_report.ensures.end
