use Rattle.std.proofs.Common.{List, subst, arith}
use Rattle.std.proofs.lemmas.List.{take_all}
use Rattle.commit_graph.specs.declared.root.Root.{Root}
use Rattle.commit_graph.specs.Many.{AreClosures}
use Rattle.commit_graph.proofs.ManyRoots.{closures_more}
use Rattle.commit_graph.proofs.MarkedClosures.{closure_answered}
use Rattle.commit_graph.proofs.many.closures.Goals as goal

pub loop-root-preserved : goal.loop-root-preserved
loop-root-preserved g c = λ m e.
    closures_more m c.args.roots.now c.loop-root.answers.items c.push.new.self.items c.loop-root.root-index _ c.answer.result
    c.loop-root-test.true c.in_ok-push.ensures.items (c.loop-root.invariant m e)
    (closure_answered c.loop-root.root-index _ c.answer.result c.loop-root-test.true (g.met.O.Objects.named c.args.objects.now m e)
    (c.in_ok-web.ensures.told m e) c.in_ok-missing.ensures c.in_ok-unfit.ensures c.answer.ensures c.mark.ensures c.mark-in-loop-root.ensures)

pub returns-clause-told : goal.returns-clause-told
returns-clause-told g c = λ m e.
    subst (λ (roots : List Root). AreClosures m roots c.loop-root.answers.items)
    (take_all c.loop-root.root-index c.args.roots.now (omega arith)) (c.loop-root.invariant m e)
