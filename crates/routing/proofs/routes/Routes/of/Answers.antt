use Rattle.std.proofs.Common.{◌≡◌, ◌+◌, List, take, sym, subst, arith}
use Rattle.std.proofs.lemmas.List.{take_all, take_more}
use Rattle.announcements.specs.Held.{HaveInventories, kept_in}
use Rattle.rad_base.specs.declared.names.Nid.{Nid}
use Rattle.routing.specs.declared.routes.Routes.{Routes}
use Rattle.routing.proofs.AddedRoutes.{AreOf, of_all, of_push, of_same}
use Rattle.routing.proofs.routes.Routes.of.Goals as goal
use Rattle.routing.proofs.routes.Routes.of.Goals.{in-Some+in_ok-add_all, in_default}

pub loop-node-preserved : goal.loop-node-preserved
loop-node-preserved c =
    let table = kept_in c.args.table.now in
    let more = take_more c.as_slice-node-items.result.now c.loop-node.node-index _ c.loop-node-test.true in
    elim c.match-inventory.branch [
      | in-Some+in_ok-add_all w ↦
          subst (λ (r : Routes). AreOf table (take (c.loop-node.node-index + 1) c.as_slice-node-items.result.now) r) (sym w.routes-is)
          (of_push table _ _ _ w.in-Some.rids.now c.loop-node.routes w.add_all.new.self more (rw w.in-Some.is at (sym c.inventory.ensures))
          c.loop-node.invariant w.in_ok-add_all.ensures)
      | in_default w ↦
          subst (λ (r : Routes). AreOf table (take (c.loop-node.node-index + 1) c.as_slice-node-items.result.now) r) (sym w.routes-is)
          (of_same table _ _ _ c.loop-node.routes more (rw w.in_default.is at (sym c.inventory.ensures)) c.loop-node.invariant)
    ]

pub returns : goal.returns
returns c =
    let table = kept_in c.args.table.now in
    let nodes = c.as_slice-node-items.result.now in
    let whole : take c.loop-node.node-index nodes ≡ nodes = take_all c.loop-node.node-index nodes (omega arith) in
    of_all table nodes c.loop-node.routes
    (subst (HaveInventories table) (sym c.as_slice-node-items.ensures) c.in_ok-nodes.ensures)
    (subst (λ (ns : List Nid). AreOf table ns c.loop-node.routes) whole c.loop-node.invariant)
