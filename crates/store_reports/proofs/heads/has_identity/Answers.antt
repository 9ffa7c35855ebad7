use Rattle.store_reports.proofs.Heading.{no_identity}
use Rattle.store_reports.proofs.heads.has_identity.Goals as goal

pub returns-in-None-clause-told : goal.returns-in-None-clause-told
returns-in-None-clause-told g c = λ items s. no_identity c.args.rid.now items (c.in-None.ensures items s)
