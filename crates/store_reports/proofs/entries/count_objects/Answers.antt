use Rattle.store_reports.proofs.Pairs.{counts_from}
use Rattle.store_reports.specs.Reports.{CountsObjects}
use Rattle.std.proofs.Common.{ℕ, sym, subst}
use Rattle.store_reports.proofs.entries.count_objects.Goals as goal

pub returns : goal.returns
returns c = λ items e.
    subst (λ (n : ℕ). CountsObjects items n) (sym c.len.ensures.len)
    (counts_from c.args.entries.now items c.in_ok-pairs.pairs e c.in_ok-pairs.ensures c.len.ensures.ordered)
