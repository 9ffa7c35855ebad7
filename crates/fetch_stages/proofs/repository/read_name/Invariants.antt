use Rattle.std.proofs.Common.{◌-◌, ◌≤◌, take}
use Rattle.rad_base.specs.Sizes.{HasBytes}
use Rattle.fetch_stages.specs.Pieces.{Uses}
use Rattle.fetch_stages.specs.Sections.{KeepsLoan}
use Rattle.fetch_stages.proofs.repository.read_name.Given as goal

abbrev pub invariant-reading : goal.invariant-reading
invariant-reading g l = record {
  loan : KeepsLoan g.S.Source.loan g.S.Source.faults l.initial.input.0 l.input.0;
  few : l.count ≤ 20;
  name : HasBytes 20 l.name;
  uses : Uses (g.S.Source.left l.initial.input.0) (g.S.Source.left l.input.0) l.initial.input.1 (take l.count l.name) l.input.1;
}

abbrev pub decreases-reading : goal.decreases-reading
decreases-reading g l = 20 - l.count
