use Rattle.fetch_stages.proofs.Importing.{imports_nothing}
use Rattle.fetch_stages.proofs.import.import_job.Goals as goal

pub returns-in_default-clause-job : goal.returns-in_default-clause-job
returns-in_default-clause-job g c =
    let keep = g.K.Keep in
    imports_nothing keep.made (keep.constants c.args.keep.now) (keep.end c.args.keep.now) keep.held c.args.keep.now
    (g.S.Source.left c.args.input.now)
