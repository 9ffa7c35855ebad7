use Rattle.std.proofs.Common.{◌≡◌, ◌+◌, ◌++◌, ◌∷◌, [], get_or, take, ◌∙◌, arith, length-append}
use Rattle.std.proofs.lemmas.List.{take_more}
use Rattle.rad_base.specs.declared.names.Nid.{Nid}
use Rattle.rad_base.specs.declared.names.Oid.{Oid}
use Rattle.repo_slice.specs.declared.wanting.Stage.TheVariants.{Sigs}
use Rattle.repo_slice.specs.Parts.{case_in}
use Rattle.repo_slice.proofs.Passes.{are_turn, early_push}
use Rattle.repo_slice.proofs.rounds.begin_all.Goals as goal

no_remote : Nid × Oid
no_remote = (record { 0 = [] }, record { 0 = [] })

pub loop-node-preserved : goal.loop-node-preserved
unfolding no_remote
loop-node-preserved g c =
    let pairs = c.as_slice-pairs.result.now in
    let i = c.loop-node.node-index in
    let p = get_or pairs i no_remote in
    let x = c.in_ok-progress.progress in
    let was = c.loop-node.found.items in
    let more : take (i + 1) pairs ≡ take i pairs ++ p ∷ [] = take_more pairs i no_remote (omega arith) in
    let inv = c.loop-node.invariant in
    record {
      kept = c.in_ok-progress.ensures.keeps.content ∙ inv.kept;
      beside = c.in_ok-progress.ensures.keeps.beside ∙ inv.beside;
      still = c.in_ok-progress.ensures.keeps.cause ∙ inv.still;
      told = λ m e. rw (more, c.in_ok-push.ensures.items)
          (are_turn m (case_in c.args.terms.now) Sigs c.loop-node.roots.items c.begin.new.roots.items (take i pairs) was p x
          c.in_ok-progress.ensures.grown (inv.told m e) (c.in_ok-progress.ensures.told m (inv.kept ∙ e)));
      early = rw c.in_ok-push.ensures.items (early_push was x inv.early c.in_ok-progress.ensures.early);
      long = rw c.in_ok-push.ensures.items (omega (arith, inv.long, length-append was (x ∷ [])));
    }
