use Rattle.std.proofs.Common.{◌≡◌, List, take, sym, subst, inl, inr, ap, ◌∙◌, arith}
use Rattle.std.proofs.lemmas.List.{take_all}
use Rattle.std.proofs.lemmas.Bool.{false≢true}
use Rattle.std.specs.BTreeSet.{BTreeSet, contains}
use Rattle.rad_base.specs.declared.names.Oid.{Oid}
use Rattle.rad_base.specs.Order.{oid_cmp}
use Rattle.commit_graph.specs.Histories.{ListsCommit}
use Rattle.canonical_head.proofs.Rows.{IsKept, kept_none, kept_more}
use Rattle.canonical_head.proofs.plain.row.Goals as goal
use Rattle.canonical_head.proofs.plain.row.Goals.{then-contains+in_ok-insert, else-contains}

pub loop-tip-init : goal.loop-tip-init
loop-tip-init c = kept_none (ListsCommit c.args.history.now) c.new-row.result c.new-row.ensures.empty

pub loop-tip-preserved : goal.loop-tip-preserved
loop-tip-preserved c =
    kept_more (ListsCommit c.args.history.now) c.args.tips.now c.loop-tip.tip-index _ c.loop-tip.row c.if-contains.row c.loop-tip-test.true c.loop-tip.invariant
    (elim c.if-contains.branch [
      | then-contains+in_ok-insert w ↦ inl (
        c.contains.ensures.0 w.if-contains.true,
        λ q. ap (λ (set : BTreeSet Oid). contains oid_cmp set q) w.row-is ∙ w.in_ok-insert.ensures.updates.0 q,
      )
      | else-contains w ↦ inr (λ has. false≢true (sym w.if-contains.false ∙ c.contains.ensures.1 has), w.row-is)
    ])

pub returns : goal.returns
returns c = λ old has.
    let whole : take c.loop-tip.tip-index c.args.tips.now ≡ c.args.tips.now = take_all c.loop-tip.tip-index c.args.tips.now (omega arith) in
    let kept = subst (λ (xs : List Oid). IsKept (ListsCommit c.args.history.now) xs c.loop-tip.row) whole c.loop-tip.invariant in
    (λ a. kept.only old a, λ b. kept.all old has b)
