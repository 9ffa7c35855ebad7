use Rattle.std.proofs.Common.{◌≡◌, List, take, subst, arith}
use Rattle.std.proofs.lemmas.List.{take_all}
use Rattle.rad_base.specs.declared.names.Oid.{Oid}
use Rattle.canonical_head.specs.Least.{IsLeastIn}
use Rattle.canonical_head.proofs.LeastNames.{least_more}
use Rattle.canonical_head.proofs.least.least.Goals as goal

pub loop-name-preserved : goal.loop-name-preserved
loop-name-preserved c =
    least_more c.args.names.now c.loop-name.name-index _ c.loop-name.best c.lesser.result c.loop-name-test.true c.lesser.ensures c.loop-name.invariant

pub returns : goal.returns
returns c =
    let whole : take c.loop-name.name-index c.args.names.now ≡ c.args.names.now = take_all c.loop-name.name-index c.args.names.now (omega arith) in
    subst (λ (xs : List Oid). IsLeastIn xs c.loop-name.best) whole c.loop-name.invariant
