use Rattle.std.proofs.Common.{◌≡◌, List, ap, subst, ◌∙◌, Some, None}
use Rattle.std.specs.Prelude.{filter}
use Rattle.rad_base.specs.declared.names.Oid.{Oid}
use Rattle.canonical_head.specs.Divergence.{IsDivergence}
use Rattle.canonical_head.specs.Least.{IsLeastIn}
use Rattle.canonical_head.specs.Tables.{candidates_in, is_top}
use Rattle.canonical_head.proofs.Candidates.{head_at, head_diverges, if_ok}
use Rattle.canonical_head.proofs.heads.head_by.Goals as goal

pub returns-in-Some-clause-told : goal.returns-in-Some-clause-told
returns-in-Some-clause-told c = λ m told.
    let table = c.args.table.now in
    let tips = c.args.tips.now in
    let found : c.deref.result.now ≡ candidates_in table tips c.args.threshold = c.deref.ensures.value ∙ c.in_ok-candidates.ensures in
    let tops : c.deref-2.result.now ≡ filter (is_top table (candidates_in table tips c.args.threshold)) (candidates_in table tips c.args.threshold) =
    c.deref-2.ensures.value ∙ c.in_ok-tops.ensures ∙ ap (λ (xs : List Oid). filter (is_top table xs) xs) found in
    head_at m tips c.args.threshold table told c.in-Some.oid
    (subst (λ (xs : List Oid). IsLeastIn xs (Some c.in-Some.oid)) tops c.in-Some.ensures)

pub returns-clause-told : goal.returns-clause-told
returns-clause-told c =
    let table = c.args.table.now in
    let tips = c.args.tips.now in
    let found : c.deref.result.now ≡ candidates_in table tips c.args.threshold = c.deref.ensures.value ∙ c.in_ok-candidates.ensures in
    let again : c.deref-in-None.result.now ≡ candidates_in table tips c.args.threshold = c.deref-in-None.ensures.value ∙ c.in_ok-candidates.ensures in
    let tops : c.deref-2.result.now ≡ filter (is_top table (candidates_in table tips c.args.threshold)) (candidates_in table tips c.args.threshold) =
    c.deref-2.ensures.value ∙ c.in_ok-tops.ensures ∙ ap (λ (xs : List Oid). filter (is_top table xs) xs) found in
    if_ok c.divergence.result c.divergence.ensures (λ head h m told.
    head_diverges m tips c.args.threshold table told head
    (subst (λ (xs : List Oid). IsLeastIn xs None) tops c.in-None.ensures)
    (subst (λ (xs : List Oid). IsDivergence table xs head) again h))
