use Rattle.std.proofs.Common.{◌≡◌, ◌+◌, ◌++◌, ◌<◌, ◌∷◌, [], List, length, get_or, take, sym, ap, subst, Some, ◌∙◌, arith, length-append}
use Rattle.std.proofs.lemmas.List.{take_all, take_more}
use Rattle.rad_base.specs.declared.names.Nid.{Nid}
use Rattle.rad_base.specs.declared.names.Oid.{Oid}
use Rattle.commit_graph.specs.declared.answer.Closure.{Closure}
use Rattle.commit_graph.specs.declared.root.Root.{Root}
use Rattle.commit_graph.specs.Many.{AreClosures}
use Rattle.repo_slice.specs.declared.progress.Progress.{Progress}
use Rattle.repo_slice.specs.declared.wanting.Stage.TheVariants.{Sigs, Tips}
use Rattle.repo_slice.specs.Parts.{case_in}
use Rattle.repo_slice.specs.Rounds.{AreProgress, IsEarlyProgress, IsProgress}
use Rattle.repo_slice.proofs.Passes.{are_turn, early_at, early_push, progress_at}
use Rattle.repo_slice.proofs.rounds.go_on_all.Goals as goal

no_remote : Nid × Oid
no_remote = (record { 0 = [] }, record { 0 = [] })

pub go_on-requires : goal.go_on-requires
unfolding no_remote
go_on-requires g c = λ m e.
    let case = case_in c.args.terms.now in
    let roots = c.args.news.now.roots.items in
    let found = c.args.news.now.found.items in
    let pairs = c.as_slice-pairs.result.now in
    let i = c.loop-i.i in
    let told : g.O.Objects.content c.args.objects.now ≡ Some m = sym c.loop-i.invariant.kept ∙ e in
    let answered : AreClosures m roots c.in_ok-answers.answers.items =
    subst (λ (l : List Root). AreClosures m l c.in_ok-answers.answers.items) c.deref.ensures.value (c.in_ok-answers.ensures.told m told) in
    let all : AreProgress m case Sigs roots pairs found =
    subst (λ (l : List (Nid × Oid)). AreProgress m case Sigs roots l found) (sym c.as_slice-pairs.ensures.items) (c.requires.told m told) in
    let here : IsProgress m case Sigs roots (get_or pairs i no_remote) (get_or found i c.index.result.now) =
    progress_at m case Sigs roots pairs found i no_remote c.index.result.now c.loop-i-test.true all in
    c.reach_of-reach.ensures.told m case Sigs roots (get_or pairs i no_remote)
    (subst (λ (l : List Closure). AreClosures m roots l) (sym c.deref-in-loop-i.ensures.value) answered)
    (subst (λ (x : Progress). IsProgress m case Sigs roots (get_or pairs i no_remote) x) (sym c.index.ensures) here)

pub loop-i-preserved : goal.loop-i-preserved
unfolding no_remote
loop-i-preserved g c =
    let case = case_in c.args.terms.now in
    let pairs = c.as_slice-pairs.result.now in
    let i = c.loop-i.i in
    let p = get_or pairs i no_remote in
    let x = c.in_ok-progress.progress in
    let was = c.loop-i.found.items in
    let more : take (i + 1) pairs ≡ take i pairs ++ p ∷ [] = take_more pairs i no_remote (omega arith) in
    let inv = c.loop-i.invariant in
    let before = c.args.news.now.found.items in
    let within : i < length before = omega (arith, c.loop-i-test.true, c.requires.long, ap length c.as_slice-pairs.ensures.items) in
    let begun : IsEarlyProgress c.index.result.now =
    subst (λ (y : Progress). IsEarlyProgress y) (sym c.index.ensures) (early_at before i c.index.result.now within c.requires.early) in
    record {
      kept = c.in_ok-progress.ensures.keeps.content ∙ inv.kept;
      beside = c.in_ok-progress.ensures.keeps.beside ∙ inv.beside;
      still = c.in_ok-progress.ensures.keeps.cause ∙ inv.still;
      told = λ m e. rw (more, c.in_ok-push.ensures.items)
          (are_turn m case Tips c.loop-i.roots.items c.go_on.new.roots.items (take i pairs) was p x
          c.in_ok-progress.ensures.grown (inv.told m e) (c.in_ok-progress.ensures.told m (inv.kept ∙ e)));
      early = rw c.in_ok-push.ensures.items (early_push was x inv.early (c.in_ok-progress.ensures.early (c.reach_of-reach.ensures.early begun)));
      long = rw c.in_ok-push.ensures.items (omega (arith, inv.long, length-append was (x ∷ [])));
    }

pub returns-clause-told : goal.returns-clause-told
returns-clause-told g c = λ m e.
    let pairs = c.as_slice-pairs.result.now in
    subst (λ (l : List (Nid × Oid)). AreProgress m (case_in c.args.terms.now) Tips c.loop-i.roots.items l c.loop-i.found.items)
    (take_all c.loop-i.i pairs (omega arith) ∙ c.as_slice-pairs.ensures.items) (c.loop-i.invariant.told m e)
