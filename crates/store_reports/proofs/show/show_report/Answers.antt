use Rattle.std.proofs.Common.{List, sym, subst, ◌∙◌}
use Rattle.rad_base.specs.declared.names.Rid.{Rid}
use Rattle.report_texts.specs.Stored.{show_text}
use Rattle.store_reports.specs.Reports.{AreRepositories}
use Rattle.store_reports.proofs.Adding.{from_empty}
use Rattle.store_reports.proofs.Showing.{named_all}
use Rattle.store_reports.proofs.show.show_report.Goals as goal

pub returns : goal.returns
returns g c = λ items s.
    let named : AreRepositories items c.in_ok-rids.rids = record { rising = c.in_ok-rids.ensures.rising; exact = c.in_ok-rids.ensures.names items s } in
    let lines = c.in_ok-push_all.ensures items s (named_all items c.in_ok-rids.rids c.as_slice.result.now c.as_slice.ensures named) in
    record {
      rids = c.as_slice.result.now;
      named = subst (λ (xs : List Rid). AreRepositories items xs) (sym c.as_slice.ensures) named;
      shown = lines.some;
      each = lines.each;
      written = c.of.ensures ∙ from_empty _ c.new-text.result.items (show_text lines.some) c.new-text.ensures.items lines.written;
    }
