use Rattle.std.proofs.Common.{◌≡◌, ℕ, ◌<◌, ◌↔◌, List, ◌++◌, ◌∷◌, [], take, length, Some, sym, subst, ap, ◌∙◌, arith}
use Rattle.std.proofs.lemmas.List.{take_all}
use Rattle.std.proofs.lemmas.Option.{slice_get-get_or}
use Rattle.std.specs.BTreeSet.{contains}
use Rattle.commit_graph.specs.Walks.{Reached}
use Rattle.std.specs.Prelude.{Contains, IsTrue, slice_get}
use Rattle.rad_base.specs.declared.names.Oid.{Oid}
use Rattle.rad_base.specs.Order.{oid_cmp}
use Rattle.canonical_head.proofs.FoundTips.{found_row}
use Rattle.canonical_head.proofs.ShortWalks.{found_alike}
use Rattle.canonical_head.proofs.Rows.{rows_added, rows_more}
use Rattle.canonical_head.specs.Ancestries.{IsFoundTip, IsNext}
use Rattle.canonical_head.specs.Tables.{AreRows}
use Rattle.canonical_head.proofs.table.rows_of.Goals as goal

pub loop-number-preserved : goal.loop-number-preserved
loop-number-preserved c = λ m tips h.
    let different = c.args.ancestry.now.tips.items in
    let number = c.loop-number.number in
    let tip = c.index.result.now in
    let below : number < length different = omega (arith, c.loop-number-test.true, c.args.ancestry.now.tips.ok.0) in
    let here : slice_get different number ≡ Some tip = slice_get-get_or different number tip below ∙ ap Some (sym c.index.ensures) in
    let row : (oid : Oid) → IsTrue (contains oid_cmp c.in_ok-row.row oid) ↔ IsFoundTip different c.in_ok-marked.marked.found oid =
    subst (λ (names : List Oid). (oid : Oid) → IsTrue (contains oid_cmp c.in_ok-row.row oid) ↔ IsFoundTip names c.in_ok-marked.marked.found oid) c.deref.ensures.value c.in_ok-row.ensures in
    let searched : (k : ℕ) → k < length different → Contains c.in_ok-marked.marked.found k ↔ Reached (IsNext c.args.ancestry.now.parents) (number ∷ []) k = λ k l.
    found_alike c.args.ancestry.now.parents (length different) c.in_ok-nearest.nearest c.in_ok-nearest.ensures c.in_ok-marked.marked.found number below c.in_ok-marked.ensures k l in
    rows_more m tips different number tip c.insert.new.self below
    (subst (λ (x : Oid). AreRows m tips (take number different ++ x ∷ []) c.insert.new.self) c.index.ensures
    (rows_added m tips (take number different) c.loop-number.rows c.insert.new.self tip c.in_ok-row.row c.in_ok-insert.ensures.updates.0
    (found_row m tips c.args.ancestry.now number tip c.in_ok-marked.marked.found c.in_ok-row.row h here searched row)
    (c.loop-number.invariant m tips h)))

pub returns : goal.returns
returns c = λ m tips h.
    let different = c.args.ancestry.now.tips.items in
    let whole : take c.loop-number.number different ≡ different = take_all c.loop-number.number different (omega (arith, c.args.ancestry.now.tips.ok.0)) in
    subst (λ (xs : List Oid). AreRows m tips xs c.loop-number.rows) whole (c.loop-number.invariant m tips h)
