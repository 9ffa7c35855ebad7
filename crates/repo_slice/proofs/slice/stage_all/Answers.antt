use Rattle.std.proofs.Common.{◌≡◌, List, ◌+◌, ◌++◌, ◌∷◌, [], take, sym, ap, ◌∙◌, arith, append_assoc, ℕ}
use Rattle.std.proofs.lemmas.List.{take_more}
use Rattle.commit_graph.specs.InMemory.{objects_in}
use Rattle.commit_graph.specs.Objects.{Object}
use Rattle.commit_graph.proofs.Named.{puts_along}
use Rattle.repo_slice.proofs.slice.stage_all.Goals as goal

pub loop-i-preserved : goal.loop-i-preserved
loop-i-preserved c =
    let batch = c.args.batch.now in
    let i = c.loop-i.i in
    let x = c.index-batch-i.result in
    let old = c.args.objects.now.pending in
    let now = c.loop-i.objects.pending in
    let more : take (i + 1) batch ≡ take i batch ++ x ∷ [] =
    take_more batch i x (omega arith) ∙ ap (λ (y : Object). take i batch ++ y ∷ []) (sym c.index-batch-i.is) in
    record {
      there = c.in_ok-stage.ensures.there ∙ c.loop-i.invariant.there;
      pending = c.in_ok-stage.ensures.pending
          ∙ ap (λ (l : List ℕ). objects_in (now ++ (x.0, l) ∷ [])) c.as_slice.ensures
          ∙ puts_along now (old ++ take i batch) (x ∷ []) c.loop-i.invariant.pending
          ∙ ap objects_in (append_assoc old (take i batch) (x ∷ []) ∙ ap (λ (l : List Object). old ++ l) (sym more));
    }
