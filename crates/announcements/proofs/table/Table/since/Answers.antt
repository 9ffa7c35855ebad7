use Rattle.std.proofs.Common.{◌≡◌, ◌++◌, [], sym, ◌∙◌}
use Rattle.std.specs.Map.Iter.{deref_pair}
use Rattle.std.proofs.lemmas.List.{append-nil}
use Rattle.std.proofs.lemmas.Map.Iter.{rest_all}
use Rattle.announcements.proofs.Entries.{are_kept, kept_entries}
use Rattle.announcements.proofs.table.Table.since.Goals as goal

pub returns : goal.returns
returns c =
    let over : c.loop-key.key-iterator ≡ [] = rest_all deref_pair c.loop-key.key-iterator c.next.new.self c.next.result c.in-None.is c.next.ensures.steps in
    record {
      all = kept_entries c.args.self.now.places.entries;
      are = are_kept c.args.self.now.places c.iter-key-items.ensures.ordered;
      told = sym (append-nil c.loop-key.messages.items) ∙ (rw over at c.loop-key.invariant);
    }
