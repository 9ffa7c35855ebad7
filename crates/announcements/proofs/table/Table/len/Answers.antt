use Rattle.std.proofs.Common.{◌≡◌, ◌+◌, ◌≤◌, [], length, arith, sym, ◌∙◌}
use Rattle.std.specs.Map.Iter.{deref_pair}
use Rattle.std.proofs.lemmas.Map.Iter.{rest_all}
use Rattle.announcements.proofs.Entries.{are_kept, kept_entries}
use Rattle.announcements.proofs.Told.{few_kept}
use Rattle.announcements.proofs.table.Table.len.Goals as goal

pub overflow_add-count : goal.overflow_add-count
overflow_add-count c =
    let places = c.args.self.now.places.entries in
    omega (arith, few_kept places, c.iter-kept-items.ensures.fits, c.loop-kept.invariant)

pub returns : goal.returns
returns c =
    let over : c.loop-kept.kept-iterator ≡ [] = rest_all deref_pair c.loop-kept.kept-iterator c.next.new.self c.next.result c.in-None.is c.next.ensures.steps in
    let all : c.loop-kept.count + length (kept_entries []) ≡ length (kept_entries c.args.self.now.places.entries) = rw over at c.loop-kept.invariant in
    record {
      all = kept_entries c.args.self.now.places.entries;
      are = are_kept c.args.self.now.places c.iter-kept-items.ensures.ordered;
      counted = omega (arith, all);
    }
