use Rattle.std.proofs.Common.{◌≡◌, ◌+◌, ◌++◌, ◌∷◌, [], get_or, take, arith}
use Rattle.std.proofs.lemmas.List.{take_more}
use Rattle.rad_base.specs.declared.names.Nid.{Nid}
use Rattle.repo_slice.proofs.FollowedNodes.{any_more}
use Rattle.repo_slice.proofs.terms.set_of.Goals as goal

nobody : Nid
nobody = record { 0 = [] }

pub loop-node-preserved : goal.loop-node-preserved
unfolding nobody
loop-node-preserved c = λ q.
    let nodes = c.args.nodes.now in
    let i = c.loop-node.node-index in
    let node = get_or nodes i nobody in
    let more : take (i + 1) nodes ≡ take i nodes ++ node ∷ [] = take_more nodes i nobody (omega arith) in
    rw more (any_more (take i nodes) node q _ _ (c.loop-node.invariant q) (c.in_ok-insert.ensures.updates.0 q))
