use Rattle.std.proofs.Common.{◌≡◌, ◌++◌, [], ◌∷◌, List, sym, ap, subst, ◌∙◌, reverse, arith, length, length-append}
use Rattle.std.specs.Prelude.{Contains, map}
use Rattle.commit_graph.specs.declared.root.Root.{Root}
use Rattle.commit_graph.specs.Pairs.{as_commit, oid_of}
use Rattle.commit_graph.specs.Chains.{HasParents}
use Rattle.commit_graph.proofs.ChainLines.{line_turn, line_returns, line_chain, line_parents, line_within, line_within_more, one_item, no_item, not_there, added_new}
use Rattle.commit_graph.proofs.chains.chain.Goals as goal

pub returns-then-contains-clause-refused : goal.returns-then-contains-clause-refused
returns-then-contains-clause-refused g c = λ m e.
    line_returns (c.walking.invariant.line m e)
    (subst (λ (pair : Root). Contains c.walking.line pair) c.commit.ensures (c.contains.ensures.0 c.if-contains.true))

pub returns-in-empty-clause-told : goal.returns-in-empty-clause-told
returns-in-empty-clause-told g c = λ m e.
    let h = c.walking.invariant.line m e in
    let lacks : Contains c.walking.line (as_commit c.walking.oid) → ⊥ = not_there c.walking.line c.if-contains.false c.contains.ensures c.commit.ensures in
    let pushed : c.add.new.self ≡ c.walking.line ++ as_commit c.walking.oid ∷ [] = added_new c.in_ok-add.ensures.ok c.commit-in-walking.ensures lacks in
    let parents : HasParents m c.walking.oid c.in_ok-parents.parents.items = line_parents (c.requires m e) h (c.in_ok-parents.ensures.told m (c.walking.invariant.kept ∙ e)) in
    let none : c.in_ok-parents.parents.items ≡ [] = sym c.as_slice.ensures.value ∙ no_item c.as_slice.result.now c.in-empty.len_below in
    let names : c.of.result ≡ map oid_of (reverse c.add.new.self) =
    c.of.ensures ∙ c.in_ok-names_back-in-empty.ensures ∙ ap (λ (pairs : List Root). map oid_of (reverse pairs)) c.as_slice-in-empty.ensures in
    line_chain h pushed names (subst (HasParents m c.walking.oid) none parents)

pub returns-in_default-clause-refused : goal.returns-in_default-clause-refused
returns-in_default-clause-refused g c = λ m e.
    let h = c.walking.invariant.line m e in
    let parents : HasParents m c.walking.oid c.in_ok-parents.parents.items = line_parents (c.requires m e) h (c.in_ok-parents.ensures.told m (c.walking.invariant.kept ∙ e)) in
    record {
      line = h.commits;
      walked = h.walked;
      parents = c.as_slice.result.now;
      has = subst (HasParents m c.walking.oid) (sym c.as_slice.ensures.value) parents;
      several = c.in_default.len_at_least;
    }

pub walking-preserved : goal.walking-preserved
walking-preserved g c = record {
  kept = c.in_ok-parents.ensures.keeps.content ∙ c.walking.invariant.kept;
  beside = c.in_ok-parents.ensures.keeps.beside ∙ c.walking.invariant.beside;
  still = c.in_ok-parents.ensures.keeps.cause ∙ c.walking.invariant.still;
  looked = λ m e.
      let lacks : Contains c.walking.line (as_commit c.walking.oid) → ⊥ = not_there c.walking.line c.if-contains.false c.contains.ensures c.commit.ensures in
      let pushed : c.add.new.self ≡ c.walking.line ++ as_commit c.walking.oid ∷ [] = added_new c.in_ok-add.ensures.ok c.commit-in-walking.ensures lacks in
      omega (arith, c.walking.invariant.looked m e, c.in_ok-parents.ensures.looked, ap length pushed, length-append c.walking.line (as_commit c.walking.oid ∷ []));
  line = λ m e.
      let h = c.walking.invariant.line m e in
      let lacks : Contains c.walking.line (as_commit c.walking.oid) → ⊥ = not_there c.walking.line c.if-contains.false c.contains.ensures c.commit.ensures in
      let pushed : c.add.new.self ≡ c.walking.line ++ as_commit c.walking.oid ∷ [] = added_new c.in_ok-add.ensures.ok c.commit-in-walking.ensures lacks in
      let parents : HasParents m c.walking.oid c.in_ok-parents.parents.items = line_parents (c.requires m e) h (c.in_ok-parents.ensures.told m (c.walking.invariant.kept ∙ e)) in
      let one = one_item c.as_slice.result.now (record { 0 = [] }) c.in-len1.len_at_least c.in-len1.len_below in
      line_turn h lacks pushed (subst (HasParents m c.walking.oid) (sym c.as_slice.ensures.value ∙ one) parents);
}

pub returns-then-contains-clause-looked : goal.returns-then-contains-clause-looked
returns-then-contains-clause-looked g c = λ m e commits cover.
    omega (arith, c.walking.invariant.looked m e, line_within commits (c.walking.invariant.line m e) cover)

pub returns-in_err-add-clause-looked : goal.returns-in_err-add-clause-looked
returns-in_err-add-clause-looked g c = λ m e commits cover.
    omega (arith, c.walking.invariant.looked m e, line_within commits (c.walking.invariant.line m e) cover)

pub returns-in_err-parents-clause-looked : goal.returns-in_err-parents-clause-looked
returns-in_err-parents-clause-looked g c = λ m e commits cover.
    let lacks : Contains c.walking.line (as_commit c.walking.oid) → ⊥ = not_there c.walking.line c.if-contains.false c.contains.ensures c.commit.ensures in
    omega (arith, c.walking.invariant.looked m e, c.in_err-parents.ensures.looked, line_within_more commits (c.walking.invariant.line m e) lacks cover)

pub returns-in-empty-clause-looked : goal.returns-in-empty-clause-looked
returns-in-empty-clause-looked g c = λ m e commits cover.
    let lacks : Contains c.walking.line (as_commit c.walking.oid) → ⊥ = not_there c.walking.line c.if-contains.false c.contains.ensures c.commit.ensures in
    omega (arith, c.walking.invariant.looked m e, c.in_ok-parents.ensures.looked, line_within_more commits (c.walking.invariant.line m e) lacks cover)

pub returns-in_err-names_back-in-empty-clause-looked : goal.returns-in_err-names_back-in-empty-clause-looked
returns-in_err-names_back-in-empty-clause-looked g c = λ m e commits cover.
    let lacks : Contains c.walking.line (as_commit c.walking.oid) → ⊥ = not_there c.walking.line c.if-contains.false c.contains.ensures c.commit.ensures in
    omega (arith, c.walking.invariant.looked m e, c.in_ok-parents.ensures.looked, line_within_more commits (c.walking.invariant.line m e) lacks cover)

pub returns-in_default-clause-looked : goal.returns-in_default-clause-looked
returns-in_default-clause-looked g c = λ m e commits cover.
    let lacks : Contains c.walking.line (as_commit c.walking.oid) → ⊥ = not_there c.walking.line c.if-contains.false c.contains.ensures c.commit.ensures in
    omega (arith, c.walking.invariant.looked m e, c.in_ok-parents.ensures.looked, line_within_more commits (c.walking.invariant.line m e) lacks cover)
