use Rattle.std.proofs.Common.{◌≡◌, true, List, take, inl, inr, subst, sym, arith}
use Rattle.std.specs.List.{list_any}
use Rattle.std.specs.BTreeMap.{is_at}
use Rattle.std.proofs.lemmas.List.{take_all}
use Rattle.rad_base.specs.declared.names.Oid.{Oid}
use Rattle.rad_base.specs.Order.{oid_cmp}
use Rattle.commit_graph.specs.declared.root.Root.{Root}
use Rattle.commit_graph.specs.Closures.{HasName}
use Rattle.commit_graph.proofs.NameSets.{told_none, told_more, has_taken}
use Rattle.commit_graph.proofs.reaching.add_names.Goals as goal

pub loop-pair-init : goal.loop-pair-init
loop-pair-init c = told_none c.args.names.now

pub loop-pair-preserved : goal.loop-pair-preserved
loop-pair-preserved c =
    told_more c.args.names.now c.loop-pair.names c.insert.new.self c.args.pairs.now c.loop-pair.pair-index _ c.loop-pair-test.true c.in_ok-insert.ensures.updates.0 c.loop-pair.invariant

pub returns-in_err-insert-clause-only : goal.returns-in_err-insert-clause-only
returns-in_err-insert-clause-only c = λ oid h.
    let P : List Oid → Type 0 = λ keys. list_any (is_at (oid_cmp oid)) keys ≡ true in
    has_taken c.args.pairs.now c.loop-pair.pair-index oid ((c.loop-pair.invariant oid).0 (subst P c.in_err-insert.ensures.err h))

pub returns-in_err-insert-clause-kept : goal.returns-in_err-insert-clause-kept
returns-in_err-insert-clause-kept c = λ oid h.
    let P : List Oid → Type 0 = λ keys. list_any (is_at (oid_cmp oid)) keys ≡ true in
    subst P (sym c.in_err-insert.ensures.err) ((c.loop-pair.invariant oid).1 (inl h))

pub returns-clause-all : goal.returns-clause-all
returns-clause-all c = λ oid h.
    let whole : take c.loop-pair.pair-index c.args.pairs.now ≡ c.args.pairs.now = take_all c.loop-pair.pair-index c.args.pairs.now (omega arith) in
    (c.loop-pair.invariant oid).1 (inr (subst (λ (xs : List Root). HasName xs oid) (sym whole) h))

pub returns-clause-only : goal.returns-clause-only
returns-clause-only c = λ oid h. has_taken c.args.pairs.now c.loop-pair.pair-index oid ((c.loop-pair.invariant oid).0 h)

pub returns-clause-kept : goal.returns-clause-kept
returns-clause-kept c = λ oid h. (c.loop-pair.invariant oid).1 (inl h)
