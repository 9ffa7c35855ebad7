use Rattle.std.proofs.Common.{◌≡◌, Some, None, List, [], ◌∷◌, ◌++◌, refl, sym, ap, subst, ◌∙◌}
use Rattle.std.specs.Map.Iter.{deref}
use Rattle.std.proofs.lemmas.List.{append-nil}
use Rattle.std.proofs.lemmas.Map.Iter.{rest_all, rest_more}
use Rattle.rad_base.specs.declared.names.Nid.{Nid}
use Rattle.routing.specs.RoutesOf.{AreNodes}
use Rattle.routing.proofs.PairOrder.{Pair, one_pair}
use Rattle.routing.proofs.RidOrder.{from_not, other_name, same_name, to_not}
use Rattle.routing.proofs.RouteNodes.{ahead_more, ahead_none, ahead_other, are_nodes, nodes_ahead, pairs_from}
use Rattle.routing.proofs.routes.Routes.nodes.Goals as goal
use Rattle.routing.proofs.routes.Routes.nodes.Goals.{in-None, in-Some+then-ne}

pub loop-other-init : goal.loop-other-init
loop-other-init c =
    let start : c.into_iter-other-iterator.result ≡ pairs_from c.args.self.now c.args.rid.now =
    c.into_iter-other-iterator.ensures.into_iter_gives ∙ c.range-other-items.ensures.between tt in
    rw (c.new-nodes.ensures, start) refl

pub loop-other-preserved-in-Continue-1 : goal.loop-other-preserved-in-Continue-1
loop-other-preserved-in-Continue-1 c =
    let rid = c.args.rid.now in
    let all = nodes_ahead rid (pairs_from c.args.self.now rid) in
    let rest = rest_more deref c.loop-other.other-iterator c.next.new.self c.next.result c.in-Some.field-0 c.in-Some.is c.next.ensures.steps in
    let same : c.in-Some.field-0.now.0 ≡ rid = same_name c.in-Some.field-0.now.0 rid (from_not _ (sym c.if-ne.false ∙ c.ne.ensures)) in
    let pair : c.in-Some.field-0.now ≡ (rid, Some c.in-Some-node.node) = one_pair c.in-Some.field-0.now rid (Some c.in-Some-node.node) same c.in-Some-node.is in
    let at = subst (λ (pairs : List Pair). c.loop-other.nodes ++ nodes_ahead rid pairs ≡ all) (rest ∙ ap (λ (p : Pair). p ∷ c.next.new.self) pair) c.loop-other.invariant in
    subst (λ (nodes : List Nid). nodes ++ nodes_ahead rid c.next.new.self ≡ all) (sym c.in_ok-push.ensures.ok)
    (ahead_more rid c.in-Some-node.node c.loop-other.nodes all c.next.new.self at)

pub loop-other-preserved : goal.loop-other-preserved
loop-other-preserved c =
    let rid = c.args.rid.now in
    let all = nodes_ahead rid (pairs_from c.args.self.now rid) in
    let rest = rest_more deref c.loop-other.other-iterator c.next.new.self c.next.result c.in-Some.field-0 c.in-Some.is c.next.ensures.steps in
    let same : c.in-Some.field-0.now.0 ≡ rid = same_name c.in-Some.field-0.now.0 rid (from_not _ (sym c.if-ne.false ∙ c.ne.ensures)) in
    let pair : c.in-Some.field-0.now ≡ (rid, None) = one_pair c.in-Some.field-0.now rid None same c.in_default.is in
    let at = subst (λ (pairs : List Pair). c.loop-other.nodes ++ nodes_ahead rid pairs ≡ all) (rest ∙ ap (λ (p : Pair). p ∷ c.next.new.self) pair) c.loop-other.invariant in
    ahead_none rid c.loop-other.nodes all c.next.new.self at

pub returns : goal.returns
returns c =
    let rid = c.args.rid.now in
    let all = nodes_ahead rid (pairs_from c.args.self.now rid) in
    let is : c.loop-other.nodes ≡ all = elim c.match-next.branch [
      | in-None w ↦
          let over : c.loop-other.other-iterator ≡ [] = rest_all deref c.loop-other.other-iterator c.next.new.self c.next.result w.in-None.is c.next.ensures.steps in
          sym (append-nil c.loop-other.nodes) ∙ (rw over at c.loop-other.invariant)
      | in-Some+then-ne w ↦
          let pair = w.in-Some.field-0.now in
          let rest = rest_more deref c.loop-other.other-iterator c.next.new.self c.next.result w.in-Some.field-0 w.in-Some.is c.next.ensures.steps in
          ahead_other rid pair.0 pair.1 c.loop-other.nodes all c.next.new.self (other_name pair.0 rid (to_not _ (sym w.if-ne.true ∙ w.ne.ensures)))
          (subst (λ (pairs : List Pair). c.loop-other.nodes ++ nodes_ahead rid pairs ≡ all) rest c.loop-other.invariant)
    ] in
    subst (AreNodes c.args.self.now rid) (sym is) (are_nodes c.args.self.now rid c.range-other-items.ensures.ordered)
