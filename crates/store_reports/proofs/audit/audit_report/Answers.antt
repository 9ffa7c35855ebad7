use Rattle.std.proofs.Common.{◌∙◌}
use Rattle.report_texts.specs.Stored.{audit_text}
use Rattle.store_reports.proofs.Adding.{from_empty}
use Rattle.store_reports.proofs.audit.audit_report.Goals as goal

pub returns : goal.returns
returns g c = λ items s. record {
  counts = c.in_ok-counts.counts;
  are = c.in_ok-counts.ensures items s;
  written = c.of.ensures ∙ from_empty _ c.new-text.result.items (audit_text c.in_ok-counts.counts) c.new-text.ensures.items c.in_ok-push_audit.ensures;
}
