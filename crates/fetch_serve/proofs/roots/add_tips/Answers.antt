use Rattle.std.proofs.Common.{[], refl, ◌∙◌, arith}
use Rattle.rad_base.specs.declared.names.Nid.{Nid}
use Rattle.fetch_serve.specs.Replies.{IsTipsRoot}
use Rattle.fetch_serve.specs.Showings.{showing}
use Rattle.fetch_serve.proofs.Adding.{adds_end, adds_step}
use Rattle.fetch_serve.proofs.roots.add_tips.Goals as goal

pub loop-node-preserved : goal.loop-node-preserved
loop-node-preserved g c =
    let inv = c.loop-node.invariant in
    let done = c.in_ok-add_tips_of.ensures in
    let none : Nid = record { 0 = [] } in
    record {
      kept = done.keeps.content ∙ inv.kept;
      beside = done.keeps.beside ∙ inv.beside;
      still = done.keeps.cause ∙ inv.still;
      told = λ m e id.
          adds_step (IsTipsRoot (showing m id c.args.remotes.now)) c.args.nodes.now c.args.nodes.now c.loop-node.node-index none c.args.roots.now.items c.loop-node.roots.items c.add_tips_of.new.roots.items
          refl (omega arith) (inv.told m e id) (done.told m (inv.kept ∙ e) id);
    }

pub returns-clause-told : goal.returns-clause-told
returns-clause-told g c = λ m e id.
    adds_end (IsTipsRoot (showing m id c.args.remotes.now)) c.args.nodes.now c.args.nodes.now c.loop-node.node-index c.args.roots.now.items c.loop-node.roots.items
    refl (omega arith) (c.loop-node.invariant.told m e id)
