use Rattle.std.proofs.Common.{◌≡◌, List, take, sym, subst, inl, inr, ap, ◌∙◌, arith}
use Rattle.std.proofs.lemmas.Bool.{false≢true}
use Rattle.std.proofs.lemmas.List.{take_all}
use Rattle.std.specs.BTreeSet.{BTreeSet, contains}
use Rattle.rad_base.proofs.Members.{contains_at}
use Rattle.rad_base.specs.declared.names.Oid.{Oid}
use Rattle.rad_base.specs.Order.{oid_cmp}
use Rattle.canonical_head.proofs.FoundTips.{found_tip, not_found_tip}
use Rattle.canonical_head.proofs.Rows.{IsKept, kept_more}
use Rattle.canonical_head.specs.Ancestries.{IsFoundTip}
use Rattle.canonical_head.proofs.table.row.Goals as goal
use Rattle.canonical_head.proofs.table.row.Goals.{then-contains+in_ok-insert, else-contains}

pub loop-number-preserved : goal.loop-number-preserved
loop-number-preserved c =
    let tips = c.args.tips.now in
    let found = c.args.marked.now.found in
    kept_more (IsFoundTip tips found) tips c.loop-number.number _ c.loop-number.row c.if-contains.row c.loop-number-test.true c.loop-number.invariant
    (elim c.if-contains.branch [
      | then-contains+in_ok-insert w ↦ inl (
        found_tip tips found c.loop-number.number _ c.loop-number-test.true (c.contains.ensures.0 w.if-contains.true),
        λ q. ap (λ (set : BTreeSet Oid). contains oid_cmp set q) w.row-is ∙ w.in_ok-insert.ensures.updates.0 q,
      )
      | else-contains w ↦ inr (
        not_found_tip tips found c.loop-number.number _ c.requires c.loop-number-test.true
            (λ has. false≢true (sym w.if-contains.false ∙ c.contains.ensures.1 has)),
        w.row-is,
      )
    ])

pub returns : goal.returns
returns c = λ oid.
    let tips = c.args.tips.now in
    let found = c.args.marked.now.found in
    let whole : take c.loop-number.number tips ≡ tips = take_all c.loop-number.number tips (omega arith) in
    let kept = subst (λ (xs : List Oid). IsKept (IsFoundTip tips found) xs c.loop-number.row) whole c.loop-number.invariant in
    (λ has. kept.only oid has, λ f. kept.all oid (contains_at tips f.0 oid f.1) f)
