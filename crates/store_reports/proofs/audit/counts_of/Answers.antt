use Rattle.std.proofs.Common.{◌≡◌, List, length, map, ap, subst, ◌∙◌}
use Rattle.std.specs.Prelude.{count_by, sum_by}
use Rattle.announcements.specs.Held.{kept_in}
use Rattle.announcements.specs.Tables.{HasCount}
use Rattle.announcements.specs.declared.table.Table.{Table}
use Rattle.repo_entries.specs.Items.{entry_of}
use Rattle.repo_entries.specs.declared.entry.Entry.{Entry}
use Rattle.store_reports.specs.Parts.{is_durable}
use Rattle.store_reports.specs.Reports.{AreRepositories, remote_count}
use Rattle.store_reports.proofs.Pairs.{kept_are_durable}
use Rattle.store_reports.proofs.Showing.{named_all}
use Rattle.store_reports.proofs.audit.counts_of.Goals as goal

pub returns : goal.returns
returns g c = λ items s.
    let e : c.as_slice-entries.result.now ≡ map entry_of items = c.as_slice-entries.ensures ∙ ap (λ h. h.entries.items) c.history.ensures ∙ s.entries in
    let named : AreRepositories items c.in_ok-rids.rids = record { rising = c.in_ok-rids.ensures.rising; exact = c.in_ok-rids.ensures.names items s } in
    record {
      entries = c.count_kept.ensures ∙ ap (λ (xs : List Entry). count_by is_durable xs) e ∙ kept_are_durable items;
      rids = c.in_ok-rids.rids;
      named = named;
      repositories = ap length c.as_slice-named.ensures;
      remotes = c.count_remotes.ensures items s (named_all items c.in_ok-rids.rids c.as_slice-named.result.now c.as_slice-named.ensures named)
          ∙ ap (sum_by (remote_count items)) c.as_slice-named.ensures;
      objects = c.in_ok-count_objects.ensures items e;
      announcements = record {
        table = kept_in c.args.store.now.table;
        is = s.table;
        counted = subst (λ (table : Table). HasCount (kept_in table) c.len.result) c.table.ensures c.len.ensures;
      };
    }
