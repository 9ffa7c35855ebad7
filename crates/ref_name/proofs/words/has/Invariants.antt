use Rattle.std.proofs.Common.{◌↔◌, length}
use Rattle.ref_name.specs.Rules.{Has}
use Rattle.ref_name.proofs.words.has.Given as goal

abbrev pub invariant-seeking : goal.invariant-seeking
invariant-seeking l = Has l.word l.bytes ↔ Has l.word l.rest

abbrev pub decreases-seeking : goal.decreases-seeking
decreases-seeking l = length l.rest
