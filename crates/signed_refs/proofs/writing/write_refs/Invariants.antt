use Rattle.std.proofs.Common.{◌≡◌, take}
use Rattle.signed_refs.specs.Lines.{refs_text}
use Rattle.signed_refs.proofs.writing.write_refs.Given as goal

abbrev pub invariant-loop-name : goal.invariant-loop-name
invariant-loop-name l = l.bytes.items ≡ refs_text (take l.name-index l.refs)
