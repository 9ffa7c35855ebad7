use Rattle.std.proofs.Common.{◌≡◌, inl, inr, sym, subst, ◌∙◌, arith}
use Rattle.std.proofs.lemmas.Bool.{false≢true}
use Rattle.canonical_head.proofs.Marking.{HasBelow, below_none, below_push}
use Rattle.canonical_head.proofs.nearest.found_below.Goals as goal
use Rattle.canonical_head.proofs.nearest.found_below.Goals.{then-contains+in_ok-push, else-contains}

pub loop-number-init : goal.loop-number-init
loop-number-init c = below_none c.args.marked.now.found c.new-list.result.items c.new-list.ensures.items

pub loop-number-preserved : goal.loop-number-preserved
loop-number-preserved c =
    below_push c.args.marked.now.found c.loop-number.list.items c.if-contains.list.items c.loop-number.number
    (elim c.if-contains.branch [
      | then-contains+in_ok-push w ↦ inl (
        c.contains.ensures.0 w.if-contains.true,
        cc (w.list-is, w.in_ok-push.ensures.items),
      )
      | else-contains w ↦ inr (λ has. false≢true (sym w.if-contains.false ∙ c.contains.ensures.1 has), cc w.list-is)
    ])
    c.loop-number.invariant

pub returns : goal.returns
returns c =
    let last : c.loop-number.number ≡ c.args.limit = omega arith in
    subst (HasBelow c.args.marked.now.found c.loop-number.list.items) last c.loop-number.invariant
