use Rattle.std.proofs.Common.{◌≡◌, false}
use Rattle.repo_slice.specs.Keeps.{LeavesOthers}
use Rattle.fetch_wire.specs.Judging.{is_over}
use Rattle.fetch_wire.specs.SectionReaders.{unit_of}
use Rattle.fetch_stages.specs.Sections.{KeepsLoan}
use Rattle.fetch_stages.proofs.Reading.{HasUsed}
use Rattle.fetch_stages.proofs.section.put_section.Given as goal

abbrev pub invariant-reading : goal.invariant-reading
invariant-reading g l = record {
  leaves : LeavesOthers g.K.Keep.constants g.K.Keep.loan g.K.Keep.faults g.K.Keep.held
      l.rid l.initial.keep l.keep;
  input : KeepsLoan g.S.Source.loan g.S.Source.faults l.initial.input.0 l.input.0;
  used : HasUsed g.K.Keep.made g.K.Keep.held l.rid (g.K.Keep.constants l.initial.keep).caller
      l.initial.keep l.keep l.fn.which l.limit l.left (g.S.Source.left l.initial.input.0)
      (g.S.Source.left l.input.0) l.initial.input.1 l.input.1 l.reader l.taken;
  going : is_over (unit_of l.reader) ≡ false;
}

abbrev pub decreases-reading : goal.decreases-reading
decreases-reading g l = l.left
