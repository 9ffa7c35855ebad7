use Rattle.std.proofs.Common.{map}
use Rattle.git_object.specs.Views.{entry_named, last_key}
use Rattle.git_object.proofs.Written.{IsWrittenTo}
use Rattle.git_object.proofs.writing.write_tree.Given as goal

abbrev pub invariant-loop-i : goal.invariant-loop-i
invariant-loop-i l = IsWrittenTo (map entry_named l.entries) l.i l.bytes.items (last_key l.before)
