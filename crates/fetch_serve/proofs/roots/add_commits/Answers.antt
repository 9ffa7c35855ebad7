use Rattle.std.proofs.Common.{[], refl, arith}
use Rattle.rad_base.specs.declared.names.Nid.{Nid}
use Rattle.fetch_serve.specs.Replies.{IsSigsRoot}
use Rattle.fetch_serve.specs.Showings.{showing}
use Rattle.fetch_serve.proofs.Adding.{adds_end, adds_step}
use Rattle.fetch_serve.proofs.roots.add_commits.Goals as goal

pub loop-node-preserved : goal.loop-node-preserved
loop-node-preserved c = λ m id.
    let none : Nid = record { 0 = [] } in
    adds_step (IsSigsRoot (showing m id c.args.remotes.now)) c.args.nodes.now c.args.nodes.now c.loop-node.node-index none c.args.roots.now.items c.loop-node.roots.items c.add_commit.new.roots.items
    refl (omega arith) (c.loop-node.invariant m id) (c.in_ok-add_commit.ensures m id)

pub returns : goal.returns
returns c = λ m id.
    adds_end (IsSigsRoot (showing m id c.args.remotes.now)) c.args.nodes.now c.args.nodes.now c.loop-node.node-index c.args.roots.now.items c.loop-node.roots.items
    refl (omega arith) (c.loop-node.invariant m id)
