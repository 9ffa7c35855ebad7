use Rattle.std.proofs.Common.{◌≡◌, List, [], ◌∷◌, take, sym, subst, arith}
use Rattle.std.proofs.lemmas.List.{take_all, take_more}
use Rattle.commit_graph.specs.declared.root.Root.{Root}
use Rattle.commit_graph.specs.declared.answer.Closure.{Closure}
use Rattle.commit_graph.specs.Closures.{IsClosure}
use Rattle.commit_graph.specs.Many.{AreClosures}
use Rattle.commit_graph.proofs.JoinedClosures.{IsJoin, join_answer, join_start, join_missing, join_bad, join_closed, last_closure}
use Rattle.commit_graph.proofs.many.joined.Goals as goal
use Rattle.commit_graph.proofs.many.joined.Goals.{in-Closed, in-Missing, in-BadObject}

pub loop-closure-init : goal.loop-closure-init
loop-closure-init c = λ m roots a. join_start m roots a

pub loop-closure-preserved : goal.loop-closure-preserved
loop-closure-preserved c = λ m roots a.
    let closures = c.args.closures.now in
    let i = c.loop-closure.closure-index in
    let l = last_closure m roots (take i closures) _ (subst (λ (xs : List Closure). AreClosures m roots xs) (take_more closures i _ c.loop-closure-test.true) a) in
    let h = c.loop-closure.invariant m l.front l.rest in
    let is = λ (answer : Closure). IsClosure m (l.root ∷ []) answer in
    subst (λ (rs : List Root). IsJoin m rs c.match-closure.missing c.match-closure.unfit) (sym l.are)
    (elim c.match-closure.branch [
      | in-Closed w ↦ join_closed m l.front l.root (subst is w.in-Closed.is l.is) w.missing-is w.unfit-is h
      | in-Missing w ↦ join_missing m l.front l.root _ _ (subst is w.in-Missing.is l.is) w.missing-is w.lesser.ensures h
      | in-BadObject w ↦ join_bad m l.front l.root _ _ (subst is w.in-BadObject.is l.is) w.missing-is w.unfit-is w.lesser-in-BadObject.ensures h
    ])

pub returns : goal.returns
returns c = λ m roots a.
    let closures = c.args.closures.now in
    let whole : take c.loop-closure.closure-index closures ≡ closures = take_all c.loop-closure.closure-index closures (omega arith) in
    let h = c.loop-closure.invariant m roots (subst (λ (xs : List Closure). AreClosures m roots xs) (sym whole) a) in
    subst (λ (answer : Closure). IsClosure m roots answer) (sym c.answer.ensures) (join_answer m roots c.loop-closure.missing c.loop-closure.unfit h)
