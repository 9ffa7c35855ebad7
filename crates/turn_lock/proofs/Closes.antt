-- The table at its end.
use Rattle.std.proofs.Common.{◌≡◌, ◌≢◌, ℕ, ◌+◌, ◌<◌, ◌^◌, false, ltb, List, [], ◌∷◌, ◌++◌, All, map, Option, Some, unwrap_or, slice_index, sym, refl, ap, ◌∙◌, subst, arith}
use Rattle.std.specs.List.{sum_by}
use Rattle.std.specs.Prelude.{Contains}
use Rattle.std.specs.Option.{IsSome}
use Rattle.std.proofs.lemmas.List.Elements.{All-nil, All-cons, All-head, All-tail}
use mathlib.Core.Logic.{dite}
use mathlib.Core.Option.{some, some-injective}
use native.Mathlib.Decide.{ℕ_discrete}
use lib.ListN.{get_elem?}
use Rattle.atomic_table.specs.Table.{State, Final, Seen}
use Rattle.turn_lock.specs.declared.view.View.{View}
use Rattle.turn_lock.specs.declared.view.Made.{Made}
use Rattle.turn_lock.specs.Views.{HasAllNumbers, one_if, made_lists, numbers_of, times, spent_view}
use Rattle.turn_lock.specs.Rule.{IsInTurn}
use Rattle.turn_lock.specs.Steps.{Fits}
use Rattle.turn_lock.proofs.Sums.{two_at_most_sum, at_most_sum, alone_sum, at_index}
use Rattle.turn_lock.proofs.Numbers.{below_counts, counted_stands}
use Rattle.turn_lock.proofs.Looks.{home_fits}

module _ {T E C : Type 0} (list : T → List E) (constants : T → C) (caller : E → ℕ) (base : List E) (fixed : C) where
  abbrev V : Type 0
  V = View E C

  abbrev Rule : State (Option T) V → Type 0
  Rule = IsInTurn list constants caller base fixed

  -- the entries behind base have callers whose numbers the view has
  abbrev pub AddedBy : V → T → Type 0
  AddedBy v x = (added : List E) × (base ++ added ≡ list x) × All (λ e. Contains (map (λ m. m.number) (made_lists v)) (caller e)) added

  -- where a view's share and numbers are all there are, the others are spent
  others_spent : (s : State (Option T) V) (r : Rule s) (id : ℕ) (v : V) → get_elem? s.views id ≡ some v → v.share + numbers_of v ≡ 2 ^ 62
      → (j : ℕ) (u : V) → j ≢ id → get_elem? s.views j ≡ some u → u ≡ spent_view
  others_spent s r id v at all j u far a =
      let two = two_at_most_sum (λ (u : V). u.share) s.views j id u v far a at in
      let own = at_most_sum numbers_of s.views id v at in
      let shares = r.shares in let numbers = r.numbers in r.spent j u a (omega arith)

  -- the numbers that callers of entries have are the view's
  added_by : (s : State (Option T) V) (r : Rule s) (id : ℕ) (v : V) → get_elem? s.views id ≡ some v → ((j : ℕ) (u : V) → j ≢ id → get_elem? s.views j ≡ some u → u ≡ spent_view)
      → (xs : List E) → All (λ e. 0 < caller e) xs → All (λ e. caller e < slice_index s.words 3) xs → All (λ e. Contains (map (λ m. m.number) (made_lists v)) (caller e)) xs
  added_by s r id v at others [] pos below = All-nil (λ (e : E). Contains (map (λ (m : Made E). m.number) (made_lists v)) (caller e))
  added_by s r id v at others (e ∷ xs) pos below =
      let n : ℕ = caller e in
      let some_number = All-head (λ (e : E). 0 < caller e) e xs pos in
      let given = All-head (λ (e : E). caller e < slice_index s.words 3) e xs below in
      let alone : sum_by (times n) s.views ≡ times n v = alone_sum (times n) s.views id v at (λ j u far a. ap (λ (y : V). times n y) (others j u far a)) in
      let once = r.once n some_number in
      let one = below_counts n (slice_index s.words 3) given in
      All-cons (λ (e : E). Contains (map (λ (m : Made E). m.number) (made_lists v)) (caller e)) e xs (counted_stands n (made_lists v) (omega arith))
      (added_by s r id v at others xs (All-tail (λ (e : E). 0 < caller e) e xs pos) (All-tail (λ (e : E). caller e < slice_index s.words 3) e xs below))

  -- the numbers that were given are the view's
  all_numbers : (s : State (Option T) V) (r : Rule s) (id : ℕ) (v : V) → get_elem? s.views id ≡ some v → ((j : ℕ) (u : V) → j ≢ id → get_elem? s.views j ≡ some u → u ≡ spent_view) → HasAllNumbers v
  all_numbers s r id v at others n pos =
      let here : sum_by (times n) s.views ≡ times n v = alone_sum (times n) s.views id v at (λ j u far a. ap (λ (y : V). times n y) (others j u far a)) in
      let all : sum_by numbers_of s.views ≡ numbers_of v = alone_sum numbers_of s.views id v at (λ j u far a. ap (λ (y : V). numbers_of y) (others j u far a)) in
      let next : slice_index s.words 3 ≡ numbers_of v + 1 = sym r.numbers ∙ ap (λ (k : ℕ). k + 1) all in
      sym here ∙ (r.once n pos ∙ ap (λ (k : ℕ). one_if (ltb n k)) next)

  -- the slot then has the value, whose list is what the view has seen
  pub closes : (ws : List ℕ) (xs : List (Option T)) (id : ℕ) (v : V) → Final (Seen Rule id v) ws xs → 0 < v.share → v.called ≡ false → v.share + numbers_of v ≡ 2 ^ 62
      → (x : T) × (get_elem? xs 0 ≡ some (Some x)) × (list x ≡ v.seen) × Fits list constants caller v x × AddedBy v x × HasAllNumbers v
  closes ws xs id v end live idle all =
      let s = end.0 in
      let r = end.1.0 in
      let at = end.1.1 in
      let k = r.each id v at live in
      let others = others_spent s r id v at all in
      let none_called : (j : ℕ) (u : V) → get_elem? s.views j ≡ some u → u.called ≡ false = λ j u a. dite (ℕ_discrete j id)
      (λ is. ap (λ (y : V). y.called) (sym (at_index s.views id v u at (subst (λ (z : ℕ). get_elem? s.views z ≡ some u) is a))) ∙ idle)
      (λ far. ap (λ (y : V). y.called) (others j u far a)) in
      let home = r.at_home none_called in
      let x : T = home.0 in
      let best = r.longest in
      let whole : v.seen ≡ r.whole = dite (ℕ_discrete best.0 id)
      (λ is. ap (λ (y : V). y.seen) (at_index s.views id v best.1 at (subst (λ (z : ℕ). get_elem? s.views z ≡ some best.1) is best.2)) ∙ best.4)
      (λ far. absurd (let spent = ap (λ (y : V). y.share) (others best.0 best.1 far best.2) in let some_share = best.3 in omega arith)) in (
        x,
        end.4 0 (Some x) home.1,
        home.2 ∙ sym whole,
        home_fits list constants caller base fixed v x k home.2 home.3,
        (r.added, r.grown ∙ sym home.2, added_by s r id v at others r.added r.behind (callers_of r)),
        all_numbers s r id v at others,
      )
    where
      callers_of : {s : State (Option T) V} (r : Rule s) → All (λ e. caller e < slice_index s.words 3) r.added
      callers_of {s} r = behind_all r.added base (subst (λ (l : List E). All (λ e. caller e < slice_index s.words 3) l) (sym r.grown) r.callers)
        where
          behind_all : (ys xs : List E) → All (λ e. caller e < slice_index s.words 3) (xs ++ ys) → All (λ e. caller e < slice_index s.words 3) ys
          behind_all ys [] all = all
          behind_all ys (z ∷ zs) all = behind_all ys zs (All-tail (λ (e : E). caller e < slice_index s.words 3) z (zs ++ ys) all)

  -- what was in the slot is a value
  pub closes_some : (ws : List ℕ) (xs : List (Option T)) (id : ℕ) (v : V) → Final (Seen Rule id v) ws xs → 0 < v.share → v.called ≡ false → v.share + numbers_of v ≡ 2 ^ 62
      → (o : Option T) → get_elem? xs 0 ≡ some o → IsSome o
  closes_some ws xs id v end live idle all o at =
      let last = closes ws xs id v end live idle all in subst (λ (o : Option T). IsSome o) (some-injective (Some last.0) o (sym last.1 ∙ at)) refl

  -- with the list that the view has seen
  pub closes_with : (ws : List ℕ) (xs : List (Option T)) (id : ℕ) (v : V) → Final (Seen Rule id v) ws xs → 0 < v.share → v.called ≡ false → v.share + numbers_of v ≡ 2 ^ 62
      → (y : T) → get_elem? xs 0 ≡ some (Some y) → (list y ≡ v.seen) × Fits list constants caller v y × AddedBy v y × HasAllNumbers v
  closes_with ws xs id v end live idle all y at =
      let last = closes ws xs id v end live idle all in
      let same : last.0 ≡ y = ap (λ (o : Option T). unwrap_or o last.0) (some-injective (Some last.0) (Some y) (sym last.1 ∙ at)) in
      subst (λ (x : T). (list x ≡ v.seen) × Fits list constants caller v x × AddedBy v x × HasAllNumbers v) same (last.2, last.3, last.4, last.5)
