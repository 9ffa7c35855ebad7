use Rattle.std.proofs.Common.{◌≡◌, [], List, sym, ap, subst, ◌∙◌}
use Rattle.std.specs.Option.{option_copied}
use Rattle.std.specs.Map.Iter.{deref}
use Rattle.std.proofs.lemmas.Map.Iter.{rest_all, rest_more}
use Rattle.routing.proofs.PairOrder.{Pair}
use Rattle.routing.proofs.Planning.{PlansSome, is_plan, plans_blocked, plans_link, plans_no_link, plans_no_node}
use Rattle.routing.proofs.planned.plan.Goals as goal

pub loop-rid-preserved-in-Continue-branch-2 : goal.loop-rid-preserved-in-Continue-branch-2
loop-rid-preserved-in-Continue-branch-2 c =
    let rest = rest_more deref c.loop-rid.rid-iterator c.next.new.self c.next.result c.in-Some.field-0 c.in-Some.is c.next.ensures.steps in
    plans_link c.args.rules.now c.in_ok-links.links c.args.routes.now.pairs.keys c.loop-rid.rid-iterator c.next.new.self c.in-Some.field-0.now c.in-Some-node.node
    c.in-Some-get.link.now c.loop-rid.planned.items c.add_planned.new.planned.items rest c.iter-rid-items.ensures.ordered c.in-Some-node.is
    (sym c.allows.ensures ∙ c.if-allows.true) (sym c.get.ensures.value ∙ ap option_copied c.in-Some-get.is) c.in_ok-add_planned.ensures c.loop-rid.invariant

pub loop-rid-preserved-in_default-get : goal.loop-rid-preserved-in_default-get
loop-rid-preserved-in_default-get c =
    let rest = rest_more deref c.loop-rid.rid-iterator c.next.new.self c.next.result c.in-Some.field-0 c.in-Some.is c.next.ensures.steps in
    plans_no_link c.args.rules.now c.in_ok-links.links c.args.routes.now.pairs.keys c.loop-rid.rid-iterator c.next.new.self c.in-Some.field-0.now c.in-Some-node.node
    c.loop-rid.planned.items rest c.in-Some-node.is (sym c.get.ensures.value ∙ ap option_copied c.in_default-get.is) c.loop-rid.invariant

pub loop-rid-preserved-else-allows : goal.loop-rid-preserved-else-allows
loop-rid-preserved-else-allows c =
    let rest = rest_more deref c.loop-rid.rid-iterator c.next.new.self c.next.result c.in-Some.field-0 c.in-Some.is c.next.ensures.steps in
    plans_blocked c.args.rules.now c.in_ok-links.links c.args.routes.now.pairs.keys c.loop-rid.rid-iterator c.next.new.self c.in-Some.field-0.now
    c.loop-rid.planned.items rest (sym c.allows.ensures ∙ c.if-allows.false) c.loop-rid.invariant

pub loop-rid-preserved : goal.loop-rid-preserved
loop-rid-preserved c =
    let rest = rest_more deref c.loop-rid.rid-iterator c.next.new.self c.next.result c.in-Some.field-0 c.in-Some.is c.next.ensures.steps in
    plans_no_node c.args.rules.now c.in_ok-links.links c.args.routes.now.pairs.keys c.loop-rid.rid-iterator c.next.new.self c.in-Some.field-0.now
    c.loop-rid.planned.items rest c.in_default.is c.loop-rid.invariant

pub returns : goal.returns
returns c =
    let over : c.loop-rid.rid-iterator ≡ [] = rest_all deref c.loop-rid.rid-iterator c.next.new.self c.next.result c.in-None.is c.next.ensures.steps in
    is_plan c.args.peers.now c.args.routes.now c.args.rules.now c.in_ok-links.links c.loop-rid.planned.items c.in_ok-links.ensures
    (subst (λ (rest : List Pair). PlansSome c.args.rules.now c.in_ok-links.links c.args.routes.now.pairs.keys rest c.loop-rid.planned.items) over c.loop-rid.invariant)
