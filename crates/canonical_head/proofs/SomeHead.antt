-- Where the histories of the tips are decided there is a head.
use Rattle.std.proofs.Common.{◌≡◌, ℕ, ◌+◌, List, [], ◌∷◌, Option, Some, None, refl, sym, subst, inl, inr, ◌⊎◌, ⊎_elim, arith}
use Rattle.std.specs.Prelude.{Contains}
use Rattle.std.specs.declared.cmp.Ordering.{Ordering}
use Rattle.std.specs.declared.cmp.Ordering.TheVariants.{Less, Equal, Greater}
use Rattle.std.proofs.lemmas.Bool.{cases_lt}
use Rattle.rad_base.specs.declared.names.Oid.{Oid}
use Rattle.rad_base.specs.Order.{oid_cmp}
use Rattle.rad_base.proofs.Members.{contains_nothing, contains_head, contains_tail, contains_cases}
use Rattle.commit_graph.specs.Objects.{ObjectMap}
use Rattle.commit_graph.specs.Histories.{InHistory}
use Rattle.commit_graph.specs.Closures.{IsLeast, HasNone}
use Rattle.commit_graph.specs.Looks.{IsLesser}
use Rattle.commit_graph.proofs.HistoryWalks.{history_itself, history_along}
use Rattle.commit_graph.proofs.LeastNames.{LeastSoFar, least_lower}
use Rattle.canonical_head.specs.declared.answer.Head.{Head}
use Rattle.canonical_head.specs.declared.answer.Head.TheVariants.{At, NoQuorum, Diverging}
use Rattle.canonical_head.specs.Heads.{Counts, HasRival, HasVotes, IsBeside, IsCandidate, IsHead, IsRival, IsTop}
use Rattle.canonical_head.proofs.Comparing.{above_or_beside}
use Rattle.canonical_head.proofs.Counts.{counts_same}

-- it holds, or it does not
abbrev pub Decided : Type 0 → Type 0
Decided P = P ⊎ (P → ⊥)

-- what is decided of each of some items is counted
counted : {X : Type 0} (P : X → Type 0) (xs : List X) → ((x : X) → Contains xs x → Decided (P x))
    → (n : ℕ) × Counts P xs n
counted P [] d = (0, refl)
counted P (x ∷ xs) d =
    let rest = counted P xs (λ y c. d y (contains_tail x xs y c)) in
    ⊎_elim (λ p. (rest.0 + 1, inl (p, (rest.0, refl, rest.1)))) (λ no. (rest.0, inr (no, rest.1))) (d x (contains_head x xs))

-- and holds of one of them, or of none
some_or_none : {X : Type 0} (P : X → Type 0) (xs : List X)
    → ((x : X) → Contains xs x → Decided (P x))
    → ((x : X) × Contains xs x × P x) ⊎ ((x : X) → Contains xs x → P x → ⊥)
some_or_none P [] d = inr (λ x c p. contains_nothing x c)
some_or_none {X} P (x ∷ xs) d =
    ⊎_elim
    (λ p. inl (x, contains_head x xs, p))
    (λ no. ⊎_elim
    (λ s. inl (s.0, contains_tail x xs s.0 s.1, s.2))
    (λ none. inr (λ y c p. ⊎_elim (λ e. no (subst P (sym e) p)) (λ a. none y a p) (contains_cases x xs y c)))
    (some_or_none P xs (λ y c. d y (contains_tail x xs y c))))
    (d x (contains_head x xs))

-- a name of the list, of which P holds
abbrev Both : List Oid → (Oid → Type 0) → Oid → Type 0
Both names P oid = Contains names oid × P oid

lesser_there : (best : Option Oid) (x : Oid) → (next : Oid) × IsLesser best x next
lesser_there None x = (x, refl)
lesser_there (Some best) x = by_order (oid_cmp x best) refl
  where
    by_order : (o : Ordering) → oid_cmp x best ≡ o → (next : Oid) × IsLesser (Some best) x next
    by_order Less e = (x, inl (e, refl))
    by_order Equal e = (best, inr (λ h. absurd (cc (e, h)), refl))
    by_order Greater e = (best, inr (λ h. absurd (cc (e, h)), refl))

-- with one name more, of which it does not hold
least_without : (names : List Oid) (P : Oid → Type 0) (x : Oid) (best : Option Oid) → (P x → ⊥)
    → LeastSoFar (Both names P) best → LeastSoFar (Both (x ∷ names) P) best
least_without names P x None never h = λ oid b.
    ⊎_elim (λ e. never (subst P (sym e) b.1)) (λ a. h oid (a, b.1)) (contains_cases x names oid b.0)
least_without names P x (Some best) never h = record {
  holds = (contains_tail x names best h.holds.0, h.holds.1);
  least = λ oid b below.
      ⊎_elim (λ e. never (subst P (sym e) b.1)) (λ a. h.least oid (a, b.1) below) (contains_cases x names oid b.0);
}

-- the least name of the list of which P holds, if there is one
least_among : (names : List Oid) (P : Oid → Type 0)
    → ((oid : Oid) → Contains names oid → Decided (P oid))
    → (best : Option Oid) × LeastSoFar (Both names P) best
least_among [] P d = (None, λ oid b. contains_nothing oid b.0)
least_among (x ∷ names) P d =
    let rest = least_among names P (λ y c. d y (contains_tail x names y c)) in
    ⊎_elim
    (λ p. let next = lesser_there rest.0 x in (
      Some next.0,
      least_lower (Both names P) (Both (x ∷ names) P) x rest.0 next.0 (λ oid b. (contains_tail x names oid b.0, b.1))
          (λ oid b. ⊎_elim (λ e. inr e) (λ a. inl (a, b.1)) (contains_cases x names oid b.0)) (contains_head x names, p) next.1 rest.1,
    ))
    (λ no. (rest.0, least_without names P x rest.0 no rest.1))
    (d x (contains_head x names))

least_of : (names : List Oid) (P : Oid → Type 0) (best : Option Oid)
    → ((oid : Oid) → P oid → Contains names oid) → LeastSoFar (Both names P) best
    → ((oid : Oid) × IsLeast P oid) ⊎ HasNone P
least_of names P None inside h = inr (λ oid p. h oid (inside oid p, p))
least_of names P (Some best) inside h = inl (
  best,
  record {
    holds = h.holds.1;
    least = λ oid p. h.least oid (inside oid p, p);
  },
)

-- the least name of which P holds, or there is none
least_or_none : (names : List Oid) (P : Oid → Type 0)
    → ((oid : Oid) → Contains names oid → Decided (P oid))
    → ((oid : Oid) → P oid → Contains names oid) → ((oid : Oid) × IsLeast P oid) ⊎ HasNone P
least_or_none names P d inside = let l = least_among names P d in least_of names P l.0 inside l.1

-- the names of the list of which P holds
chosen : (names : List Oid) (P : Oid → Type 0)
    → ((oid : Oid) → Contains names oid → Decided (P oid))
    → (list : List Oid) × ((oid : Oid) → Contains list oid → Both names P oid) × ((oid : Oid) → Both names P oid → Contains list oid)
chosen [] P d = ([], (λ oid c. absurd (contains_nothing oid c)), (λ oid b. b.0))
chosen (x ∷ names) P d =
    let rest = chosen names P (λ y c. d y (contains_tail x names y c)) in
    ⊎_elim
    (λ p. (
      x ∷ rest.0,
      (λ oid c. ⊎_elim
          (λ e. (subst (Contains (x ∷ names)) e (contains_head x names), subst P e p))
          (λ a. let b = rest.1 oid a in (contains_tail x names oid b.0, b.1))
          (contains_cases x rest.0 oid c)),
      (λ oid b. ⊎_elim
          (λ e. subst (Contains (x ∷ rest.0)) e (contains_head x rest.0))
          (λ a. contains_tail x rest.0 oid (rest.2 oid (a, b.1)))
          (contains_cases x names oid b.0)),
    ))
    (λ no. (
      rest.0,
      (λ oid c. let b = rest.1 oid c in (contains_tail x names oid b.0, b.1)),
      (λ oid b. ⊎_elim (λ e. absurd (no (subst P (sym e) b.1))) (λ a. rest.2 oid (a, b.1)) (contains_cases x names oid b.0)),
    ))
    (d x (contains_head x names))

module _ (m : ObjectMap) (tips : List Oid) (threshold : ℕ)
    (decide : (a b : Oid) → Contains tips a → Contains tips b → Decided (InHistory m a b)) where
  votes : (oid : Oid) → Contains tips oid → (n : ℕ) × HasVotes m tips oid n
  votes oid c = counted (λ (tip : Oid). InHistory m oid tip) tips (λ tip d. decide oid tip c d)

  candidate : (oid : Oid) → Contains tips oid → Decided (IsCandidate m tips threshold oid)
  candidate oid c =
      let v = votes oid c in
      ⊎_elim
      (λ few. inr (λ h.
      let same : h.1.0 ≡ v.0 = counts_same (λ (tip : Oid). InHistory m oid tip) tips h.1.0 v.0 h.1.1 v.1 in
      absurd (omega (arith, few, same, h.1.2))))
      (λ enough. inl (c, (v.0, v.1, enough)))
      (cases_lt v.0 threshold)

  candidate_tip : (oid : Oid) → IsCandidate m tips threshold oid → Contains tips oid
  candidate_tip oid h = h.0

  -- the candidates
  candidates : (list : List Oid) × ((oid : Oid) → Contains list oid → Both tips (IsCandidate m tips threshold) oid)
      × ((oid : Oid) → Both tips (IsCandidate m tips threshold) oid → Contains list oid)
  candidates = chosen tips (IsCandidate m tips threshold) candidate

  -- a candidate that does not lie in the history of this one
  IsOutside : Oid → Oid → Type 0
  IsOutside oid other = IsCandidate m tips threshold other × (InHistory m other oid → ⊥)

  outside : (oid other : Oid) → Contains tips oid → Contains tips other → Decided (IsOutside oid other)
  unfolding IsOutside
  outside oid other c d =
      ⊎_elim
      (λ h. ⊎_elim (λ r. inr (λ o. o.1 r)) (λ no. inl (h, no)) (decide other oid d c))
      (λ no. inr (λ o. no o.0))
      (candidate other d)

  top : (oid : Oid) → Contains tips oid → Decided (IsTop m tips threshold oid)
  unfolding IsOutside
  top oid c =
      ⊎_elim
      (λ h. ⊎_elim
      (λ o. inr (λ t. o.2.1 (t.1 o.0 o.2.0)))
      (λ none. inl (h, λ other k. ⊎_elim (λ r. r) (λ no. absurd (none other k.0 (k, no))) (decide other oid k.0 c)))
      (some_or_none (IsOutside oid) tips (λ other d. outside oid other c d)))
      (λ no. inr (λ t. no t.0))
      (candidate oid c)

  beside : (a b : Oid) → Contains tips a → Contains tips b → Decided (IsBeside m a b)
  beside a b c d =
      ⊎_elim
      (λ r. inr (λ h. h.0 r))
      (λ no. ⊎_elim (λ r. inr (λ h. h.1 r)) (λ nor. inl (no, nor)) (decide b a d c))
      (decide a b c d)

  rival : (oid other : Oid) → Contains tips oid → Contains tips other → Decided (IsRival m tips threshold oid other)
  rival oid other c d =
      ⊎_elim
      (λ h. ⊎_elim (λ b. inl (h, b)) (λ no. inr (λ r. no r.1)) (beside oid other c d))
      (λ no. inr (λ r. no r.0))
      (candidate other d)

  rivaled : (oid : Oid) → Contains tips oid → Decided (HasRival m tips threshold oid)
  rivaled oid c =
      ⊎_elim
      (λ h. ⊎_elim
      (λ s. inl (h, (s.0, s.2)))
      (λ none. inr (λ r. none r.1.0 r.1.1.0.0 r.1.1))
      (some_or_none (IsRival m tips threshold oid) tips (λ other d. rival oid other c d)))
      (λ no. inr (λ r. no r.0))
      (candidate oid c)

  -- where none is above all others and none has a rival, there is no candidate
  none_of : (list : List Oid) → ((oid : Oid) → Contains list oid → Both tips (IsCandidate m tips threshold) oid)
      → ((oid : Oid) → Both tips (IsCandidate m tips threshold) oid → Contains list oid)
      → HasNone (IsTop m tips threshold) → HasNone (HasRival m tips threshold) → HasNone (IsCandidate m tips threshold)
  none_of [] are all no_top no_rival = λ oid h. contains_nothing oid (all oid (h.0, h))
  none_of (first ∷ later) are all no_top no_rival = λ oid h.
      ⊎_elim
      (λ a. no_top a.top ((are a.top a.among).1, λ other k. a.above other (all other (k.0, k))))
      (λ b. no_rival b.one ((are b.one b.one_in).1, (b.other, ((are b.other b.other_in).1, b.beside))))
      (above_or_beside (InHistory m) (history_itself m) (λ x y z. history_along m x y z) first later
      (λ x y c d. decide x y (are x c).0 (are y d).0))

  -- there is a head
  pub some_head : (head : Head) × IsHead m tips threshold head
  some_head =
      ⊎_elim
      (λ t. (At t.0, t.1))
      (λ no_top. ⊎_elim
      (λ r. ⊎_elim
      (λ s. (Diverging r.0 s.0, (no_top, r.1, s.1)))
      (λ none. absurd (none r.1.holds.1.0 r.1.holds.1.1))
      (least_or_none tips (IsRival m tips threshold r.0) (λ other d. rival r.0 other r.1.holds.0.0 d) (λ other k. k.0.0)))
      (λ no_rival. (NoQuorum, none_of candidates.0 candidates.1 candidates.2 no_top no_rival))
      (least_or_none tips (HasRival m tips threshold) rivaled (λ oid h. h.0.0)))
      (least_or_none tips (IsTop m tips threshold) top (λ oid h. h.0.0))
