use Rattle.std.proofs.Common.{ap, ◌∙◌}
use Rattle.object_store.specs.declared.store.Store.{Store}
use Rattle.std.specs.Io.KnownBytes.{Consumes, IsAtEnd}
use Rattle.rad_base.specs.Faults.{Rose}
use Rattle.rad_node.specs.Transfers.{GivesBy}
use Rattle.rad_node.proofs.Importing.{imported}
use Rattle.rad_node.proofs.import.import_bundle.Goals as goal

pub returns-clause-imported : goal.returns-clause-imported
returns-clause-imported g c = λ files opened.
    let left = g.I.Source.left in
    let given = g.W.Sink.given in
    let run = c.run_job-end in
    let report = c.report_import-status in
    rw (c.close-disk.ensures.disk ∙ ap (λ (s : Store g.row.D.Denot). s.journal.disk) report.ensures.same) (imported g.D.Disk.reads_as g.D.Disk.images g.D.Disk.moment g.D.Disk.images_since c.args.store.journal.disk files run.result.1 (IsAtEnd (left run.new.input))
    (Rose (g.W.Sink.faults c.args.out.now) (g.W.Sink.faults report.new.out)) _ (Consumes (left c.args.input.now) (left run.new.input))
    (GivesBy report.result (given c.args.out.now) (given report.new.out)) report.result run.result.0
    (Rose (g.I.Source.faults c.args.input.now) (g.I.Source.faults run.new.input))
    (Rose (g.D.Disk.faults c.args.store.journal.disk) (g.D.Disk.faults run.result.1.journal.disk)) run.ensures.cause (run.ensures.run files opened)
    report.ensures.status report.ensures.gives)
