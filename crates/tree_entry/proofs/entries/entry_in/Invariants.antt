use Rattle.std.specs.Prelude.{Contains}
use Rattle.rad_base.specs.declared.names.Oid.{Oid}
use Rattle.git_object.specs.Grammar.{Entry, SpellsTree}
use Rattle.git_object.specs.Reading.{entries_in}
use Rattle.git_object.specs.Views.{tree_entries_of}
use Rattle.tree_entry.specs.Entries.{IsAmong}
use Rattle.tree_entry.proofs.entries.entry_in.Given as goal

abbrev pub invariant-loop-entry : goal.invariant-loop-entry
invariant-loop-entry l = record {
  can : goal.iterator-loop-entry.can_next l.entry-iterator;
  finite : goal.iterator-loop-entry.is_finite l.entry-iterator;
  spells : SpellsTree (entries_in l.fn.bytes) l.fn.bytes;
  from : (entry : Entry) → Contains (tree_entries_of l.entry-iterator) entry → Contains (entries_in l.fn.bytes) entry;
  left : (oid : Oid) → IsAmong (entries_in l.fn.bytes) l.fn.kind l.fn.name oid → IsAmong (tree_entries_of l.entry-iterator) l.fn.kind l.fn.name oid;
}
