use Rattle.std.proofs.Common.{arith}
use Rattle.canonical_head.proofs.search.follow.Goals as goal

pub extend-requires : goal.extend-requires
extend-requires c = λ number has.
    omega (arith, c.requires.inside c.args.number number (record { row = c.at.result.now; there = c.at.ensures; among = has }), c.requires.limit)
