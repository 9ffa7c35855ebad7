-- What the table says of candidates is what histories say, and the head that follows.
use Rattle.std.proofs.Common.{◌≡◌, ℕ, Bool, true, false, not, List, [], ◌∷◌, ◌↔◌, Some, None, Result, Ok, Err, refl, sym, subst, inl, inr, ◌⊎◌, ⊎_elim, nat_le, arith}
use Rattle.std.specs.Prelude.{Contains, filter, IfOk}
use Rattle.std.specs.List.{list_any, list_all}
use Rattle.std.proofs.lemmas.Bool.{false≢true, and_parts, and_from, leb-true, le-leb, or_cases, or_left, or_right}
use Rattle.rad_base.specs.declared.names.Oid.{Oid}
use Rattle.rad_base.proofs.Members.{contains_nothing, contains_head, contains_tail, contains_cases, filter_has, filter_from}
use Rattle.commit_graph.specs.Objects.{ObjectMap}
use Rattle.commit_graph.specs.Histories.{InHistory}
use Rattle.commit_graph.specs.Closures.{IsLeast, HasNone}
use Rattle.commit_graph.proofs.HistoryWalks.{history_itself, history_along}
use Rattle.canonical_head.specs.declared.answer.Head.{Head}
use Rattle.canonical_head.specs.declared.answer.Head.TheVariants.{At, NoQuorum, Diverging, NoBranch}
use Rattle.canonical_head.specs.declared.table.Table.{Table}
use Rattle.canonical_head.specs.Heads.{HasVotes, IsCandidate, IsTop, IsBeside, IsRival, HasRival, IsHead}
use Rattle.canonical_head.specs.Least.{IsLeastIn}
use Rattle.canonical_head.specs.Tables.{IsTable, tells, votes_in, candidates_in, is_top, is_beside, has_rival}
use Rattle.canonical_head.specs.Divergence.{IsDivergence}
use Rattle.canonical_head.proofs.Comparing.{above_or_beside}
use Rattle.canonical_head.proofs.Counts.{counts_by, counts_same}

all_pass : {X : Type 0} (p : X → Bool) (xs : List X) → list_all p xs ≡ true → (x : X) → Contains xs x → p x ≡ true
all_pass p [] h x c = absurd (contains_nothing x c)
all_pass {X} p (y ∷ ys) h x c =
    let parts = and_parts (p y) (list_all p ys) h in
    ⊎_elim (λ e. subst (λ (z : X). p z ≡ true) e parts.0) (λ d. all_pass p ys parts.1 x d) (contains_cases y ys x c)

pass_all : {X : Type 0} (p : X → Bool) (xs : List X) → ((x : X) → Contains xs x → p x ≡ true) → list_all p xs ≡ true
pass_all p [] h = refl
pass_all p (y ∷ ys) h = and_from (p y) (list_all p ys) (h y (contains_head y ys)) (pass_all p ys (λ x c. h x (contains_tail y ys x c)))

any_passes : {X : Type 0} (p : X → Bool) (xs : List X) → list_any p xs ≡ true → (x : X) × Contains xs x × (p x ≡ true)
any_passes p [] h = cc h
any_passes {X} p (y ∷ ys) h =
    ⊎_elim
    (λ a. (y, contains_head y ys, a))
    (λ b. let r = any_passes p ys b in (r.0, contains_tail y ys r.0 r.1, r.2))
    (or_cases (p y) (list_any p ys) h)

passes_any : {X : Type 0} (p : X → Bool) (xs : List X) (x : X) → Contains xs x → p x ≡ true → list_any p xs ≡ true
passes_any p [] x c h = absurd (contains_nothing x c)
passes_any {X} p (y ∷ ys) x c h =
    ⊎_elim
    (λ e. or_left (p y) (list_any p ys) (subst (λ (z : X). p z ≡ true) (sym e) h))
    (λ d. or_right (p y) (list_any p ys) (passes_any p ys x d h))
    (contains_cases y ys x c)

not_not : (a : Bool) → not a ≡ true → a ≡ true → ⊥
not_not true h e = cc h
not_not false h e = cc e

not_yes : (a : Bool) → (a ≡ true → ⊥) → not a ≡ true
not_yes true h = absurd (h refl)
not_yes false h = refl

decided : {P : Type 0} (a : Bool) → (a ≡ true) ↔ P → P ⊎ (P → ⊥)
decided true h = inl (h.0 refl)
decided false h = inr (λ p. false≢true (h.1 p))

-- no name is on an empty list
least_none : (names : List Oid) (oid : Oid) → names ≡ [] → Contains names oid → ⊥
least_none names oid e c = contains_nothing oid (subst (λ (xs : List Oid). Contains xs oid) e c)

-- the least of a list is the least of which P holds, where the list has just these
least_holds : (P : Oid → Type 0) (names : List Oid) (oid : Oid) → ((other : Oid) → Contains names other ↔ P other) → IsLeast (Contains names) oid → IsLeast P oid
least_holds P names oid all h = record {
  holds = (all oid).0 h.holds;
  least = λ other p below. h.least other ((all other).1 p) below;
}

module _ (m : ObjectMap) (tips : List Oid) (threshold : ℕ) (table : Table) (told : IsTable m tips table) where
  abbrev candidates : List Oid
  candidates = candidates_in table tips threshold

  votes_are : (oid : Oid) → Contains tips oid → HasVotes m tips oid (votes_in table tips oid)
  votes_are oid c = counts_by (λ (tip : Oid). InHistory m oid tip) (λ tip. tells table oid tip) tips (λ tip d. told oid tip c d)

  candidate_tip : (oid : Oid) → Contains candidates oid → Contains tips oid
  candidate_tip oid c = (filter_from (λ (name : Oid). nat_le threshold (votes_in table tips name)) tips oid c).0

  candidates_are : (oid : Oid) → Contains candidates oid ↔ IsCandidate m tips threshold oid
  candidates_are oid =
      let enough = λ (name : Oid). nat_le threshold (votes_in table tips name) in (
        λ c. let r = filter_from enough tips oid c in (r.0, (votes_in table tips oid, votes_are oid r.0, leb-true threshold (votes_in table tips oid) r.1)),
        λ h. filter_has enough tips oid h.0
            (let same : h.1.0 ≡ votes_in table tips oid = counts_same (λ (tip : Oid). InHistory m oid tip) tips h.1.0 (votes_in table tips oid) h.1.1 (votes_are oid h.0) in
            le-leb threshold (votes_in table tips oid) (omega (arith, same, h.1.2))),
      )

  tops_are : (oid : Oid) → Contains (filter (is_top table candidates) candidates) oid ↔ IsTop m tips threshold oid
  tops_are oid = (
    λ c. let r = filter_from (is_top table candidates) candidates oid c in (
      (candidates_are oid).0 r.0,
      λ other h. let d = (candidates_are other).1 h in
          (told other oid (candidate_tip other d) (candidate_tip oid r.0)).0 (all_pass (λ (name : Oid). tells table name oid) candidates r.1 other d),
    ),
    λ h. let c = (candidates_are oid).1 h.0 in
        filter_has (is_top table candidates) candidates oid c
        (pass_all (λ (name : Oid). tells table name oid) candidates (λ other d.
        (told other oid (candidate_tip other d) (candidate_tip oid c)).1 (h.1 other ((candidates_are other).0 d)))),
  )

  beside_is : (a b : Oid) → Contains tips a → Contains tips b → (is_beside table a b ≡ true) ↔ IsBeside m a b
  beside_is a b c d = (
    λ h. let parts = and_parts (not (tells table a b)) (not (tells table b a)) h in (
      λ r. not_not (tells table a b) parts.0 ((told a b c d).1 r),
      λ r. not_not (tells table b a) parts.1 ((told b a d c).1 r),
    ),
    λ h. and_from (not (tells table a b)) (not (tells table b a))
        (not_yes (tells table a b) (λ t. h.0 ((told a b c d).0 t)))
        (not_yes (tells table b a) (λ t. h.1 ((told b a d c).0 t))),
  )

  rivals_are : (oid : Oid) → Contains tips oid → (other : Oid) → Contains (filter (is_beside table oid) candidates) other ↔ IsRival m tips threshold oid other
  rivals_are oid at other = (
    λ c. let r = filter_from (is_beside table oid) candidates other c in
        ((candidates_are other).0 r.0, (beside_is oid other at (candidate_tip other r.0)).0 r.1),
    λ h. let d = (candidates_are other).1 h.0 in
        filter_has (is_beside table oid) candidates other d ((beside_is oid other at (candidate_tip other d)).1 h.1),
  )

  rivaled_are : (oid : Oid) → Contains (filter (has_rival table candidates) candidates) oid ↔ HasRival m tips threshold oid
  rivaled_are oid = (
    λ c. let r = filter_from (has_rival table candidates) candidates oid c in
        let p = any_passes (is_beside table oid) candidates r.1 in
        ((candidates_are oid).0 r.0, (p.0, ((candidates_are p.0).0 p.1, (beside_is oid p.0 (candidate_tip oid r.0) (candidate_tip p.0 p.1)).0 p.2))),
    λ h. let c = (candidates_are oid).1 h.0 in
        let d = (candidates_are h.1.0).1 h.1.1.0 in
        filter_has (has_rival table candidates) candidates oid c
        (passes_any (is_beside table oid) candidates h.1.0 d ((beside_is oid h.1.0 (candidate_tip oid c) (candidate_tip h.1.0 d)).1 h.1.1.1)),
  )

  -- where there is a candidate, one is above all, or two are beside each other
  some_top_or_rival : (first : Oid) (later : List Oid) → candidates ≡ first ∷ later → HasNone (IsTop m tips threshold) → HasNone (HasRival m tips threshold) → ⊥
  some_top_or_rival first later e no_top no_rival =
      let here = λ (oid : Oid) (c : Contains (first ∷ later) oid). subst (λ (xs : List Oid). Contains xs oid) (sym e) c in
      let at = λ (oid : Oid) (c : Contains (first ∷ later) oid). candidate_tip oid (here oid c) in
      ⊎_elim
      (λ a. no_top a.top (
        (candidates_are a.top).0 (here a.top a.among),
        λ other h. a.above other (subst (λ (xs : List Oid). Contains xs other) e ((candidates_are other).1 h)),
      ))
      (λ b. no_rival b.one (
        (candidates_are b.one).0 (here b.one b.one_in),
        (b.other, ((candidates_are b.other).0 (here b.other b.other_in), b.beside)),
      ))
      (above_or_beside (InHistory m) (history_itself m) (λ x y z. history_along m x y z) first later
      (λ x y c d. decided (tells table x y) (told x y (at x c) (at y d))))

  no_candidate : (names : List Oid) → candidates ≡ names → HasNone (IsTop m tips threshold) → HasNone (HasRival m tips threshold) → HasNone (IsCandidate m tips threshold)
  no_candidate [] e no_top no_rival oid h = least_none candidates oid e ((candidates_are oid).1 h)
  no_candidate (x ∷ xs) e no_top no_rival oid h = some_top_or_rival x xs e no_top no_rival

  none_top : IsLeastIn (filter (is_top table candidates) candidates) None → HasNone (IsTop m tips threshold)
  none_top e = λ oid h. least_none _ oid e ((tops_are oid).1 h)

  -- the least that has all others in its history
  pub head_at : (oid : Oid) → IsLeastIn (filter (is_top table candidates) candidates) (Some oid) → IsHead m tips threshold (At oid)
  head_at oid h = least_holds (IsTop m tips threshold) _ oid tops_are h

  -- none has all others in its history: the least with a rival and its least rival, or no candidate
  pub head_diverges : (head : Head) → IsLeastIn (filter (is_top table candidates) candidates) None → IsDivergence table candidates head → IsHead m tips threshold head
  head_diverges NoQuorum t (inl e) = no_candidate candidates refl (none_top t) (λ oid h. least_none _ oid e ((rivaled_are oid).1 h))
  head_diverges NoQuorum t (inr (a, (h, e))) =
      let first = least_holds (HasRival m tips threshold) _ a rivaled_are h in
      absurd (least_none _ first.holds.1.0 e ((rivals_are a first.holds.0.0 first.holds.1.0).1 first.holds.1.1))
  head_diverges (Diverging a b) t (h, k) =
      let first = least_holds (HasRival m tips threshold) _ a rivaled_are h in
      (none_top t, first, least_holds (IsRival m tips threshold a) _ b (rivals_are a first.holds.0.0) k)
  head_diverges (At oid) t h = absurd h
  head_diverges NoBranch t h = absurd h

-- what holds of an answer holds of what follows from it
pub if_ok : {T E : Type 0} {P Q : T → Type 0} (result : Result T E) → IfOk result P → ((x : T) → P x → Q x) → IfOk result Q
if_ok (Ok x) h f = f x h
if_ok (Err e) h f = tt
