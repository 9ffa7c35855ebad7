use Rattle.std.proofs.Common.{◌≡◌, List, take, subst, arith}
use Rattle.std.proofs.lemmas.List.{take_all, take_more}
use Rattle.rad_base.specs.declared.names.Rid.{Rid}
use Rattle.routing.proofs.AddedRoutes.{AddsAll, added_none, added_push}
use Rattle.routing.proofs.routes.Routes.add_all.Goals as goal

pub loop-rid-init : goal.loop-rid-init
loop-rid-init c = added_none c.args.self.now c.args.node

pub loop-rid-preserved : goal.loop-rid-preserved
loop-rid-preserved c =
    added_push c.args.self.now c.loop-rid.self c.add.new.self c.args.node _ _ _
    (take_more c.args.rids.now c.loop-rid.rid-index _ c.loop-rid-test.true)
    c.loop-rid.invariant c.in_ok-add.ensures

pub returns : goal.returns
returns c =
    let whole : take c.loop-rid.rid-index c.args.rids.now ≡ c.args.rids.now = take_all c.loop-rid.rid-index c.args.rids.now (omega arith) in
    subst (λ (xs : List Rid). AddsAll c.args.self.now c.args.node xs c.loop-rid.self) whole c.loop-rid.invariant
