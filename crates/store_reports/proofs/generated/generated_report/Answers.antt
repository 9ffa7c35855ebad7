use Rattle.std.proofs.Common.{◌≡◌, List, map, refl, ap, ◌∙◌}
use Rattle.std.specs.Prelude.{count_by}
use Rattle.repo_entries.specs.Items.{entry_of}
use Rattle.repo_entries.specs.declared.entry.Entry.{Entry}
use Rattle.report_texts.specs.Stored.{generated_text}
use Rattle.report_texts.specs.declared.counts.Generated.{Generated}
use Rattle.store_reports.specs.Parts.{is_durable}
use Rattle.store_reports.proofs.Adding.{from_empty}
use Rattle.store_reports.proofs.Pairs.{kept_are_durable}
use Rattle.store_reports.proofs.generated.generated_report.Goals as goal

pub returns-clause-report : goal.returns-clause-report
returns-clause-report g c = λ items s.
    let e : c.as_slice-entries.result.now ≡ map entry_of items = c.as_slice-entries.ensures ∙ ap (λ h. h.entries.items) c.history.ensures ∙ s.entries in
    let counts : Generated = record { commits = c.args.commits; objects = c.in_ok-count_objects_of.field-0; entries = c.count_kept.result } in
    record {
      counts = counts;
      made = refl;
      objects = c.in_ok-count_objects_of.ensures items e;
      entries = c.count_kept.ensures ∙ ap (λ (xs : List Entry). count_by is_durable xs) e ∙ kept_are_durable items;
      head = c.in_ok-head.head;
      found = c.in_ok-head.ensures.head items s;
      written = c.of.ensures ∙ from_empty _ c.new-text.result.items (generated_text counts c.in_ok-head.head) c.new-text.ensures.items c.in_ok-push_generated.ensures;
    }
