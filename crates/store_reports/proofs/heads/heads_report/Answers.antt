use Rattle.std.proofs.Common.{List, sym, subst, ◌∙◌}
use Rattle.rad_base.specs.declared.names.Rid.{Rid}
use Rattle.report_texts.specs.Stored.{heads_text}
use Rattle.store_reports.specs.Reports.{AreRepositories}
use Rattle.store_reports.proofs.Adding.{from_empty}
use Rattle.store_reports.proofs.heads.heads_report.Goals as goal

pub returns-clause-report : goal.returns-clause-report
returns-clause-report g c = λ items s.
    let named : AreRepositories items c.in_ok-rids.rids = record { rising = c.in_ok-rids.ensures.rising; exact = c.in_ok-rids.ensures.names items s } in
    let lines = c.in_ok-push_heads.ensures.lines items s in
    record {
      rids = c.as_slice.result.now;
      named = subst (λ (xs : List Rid). AreRepositories items xs) (sym c.as_slice.ensures) named;
      lines = lines.some;
      each = lines.each;
      written = c.of.ensures ∙ from_empty _ c.new-text.result.items (heads_text lines.some) c.new-text.ensures.items lines.written;
    }
