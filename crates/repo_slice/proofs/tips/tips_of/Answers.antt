use Rattle.std.proofs.Common.{◌≡◌, ◌+◌, ◌++◌, ◌∷◌, [], get_or, take, ◌∙◌, arith}
use Rattle.std.proofs.lemmas.List.{take_more}
use Rattle.rad_base.specs.declared.names.Nid.{Nid}
use Rattle.repo_slice.proofs.Naming.{tips_turn}
use Rattle.repo_slice.proofs.tips.tips_of.Goals as goal

nobody : Nid
nobody = record { 0 = [] }

pub loop-node-preserved : goal.loop-node-preserved
unfolding nobody
loop-node-preserved g c =
    let nodes = c.args.nodes.now in
    let i = c.loop-node.node-index in
    let node = get_or nodes i nobody in
    let more : take (i + 1) nodes ≡ take i nodes ++ node ∷ [] = take_more nodes i nobody (omega arith) in
    let inv = c.loop-node.invariant in
    record {
      kept = c.in_ok-tip.ensures.keeps.content ∙ inv.kept;
      beside = c.in_ok-tip.ensures.keeps.beside ∙ inv.beside;
      still = c.in_ok-tip.ensures.keeps.cause ∙ inv.still;
      told = λ m e. rw (more, c.in_ok-add.ensures)
          (tips_turn m c.args.remotes.now c.args.name.now (take i nodes) c.loop-node.tips.items node c.in_ok-tip.tip (inv.told m e)
          (c.in_ok-tip.ensures.told m (inv.kept ∙ e)));
    }
