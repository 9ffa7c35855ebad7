use Rattle.std.proofs.Common.{◌≡◌, length}
use Rattle.canonical_head.proofs.ShortWalks.{AreShort}
use Rattle.canonical_head.proofs.nearest.nearest_tips.Given as goal

abbrev pub invariant-loop-number : goal.invariant-loop-number
invariant-loop-number l = record {
  turns : length l.nearest ≡ l.number;
  short : AreShort l.ancestry.parents l.count l.nearest;
}
