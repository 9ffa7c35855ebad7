-- Two passes are made one.
use Rattle.std.proofs.Common.{◌≡◌, ◌≢◌, ◌⊎◌, inl, inr, ℕ, ◌+◌, ◌<◌, Bool, true, false, ltb, if◌then◌else◌, List, All, length, set, Option, None, Some, sym, refl, ap, ◌∙◌, subst, arith}
use Rattle.std.specs.List.{sum_by}
use Rattle.std.proofs.lemmas.Bool.{ltb-true, ltb-false}
use Rattle.std.proofs.lemmas.List.Elements.{All-append}
use mathlib.Core.Logic.{dite}
use mathlib.Core.Option.{some}
use mathlib.Core.List.{IsPrefix}
use native.Mathlib.Decide.{ℕ_discrete}
use lib.ListN.{get_elem?}
use Rattle.atomic_table.specs.Table.{State, Joins}
use Rattle.atomic_table.proofs.Lists.{set_else}
use Rattle.rad_base.proofs.Prefixes.{prefix_length, prefix_whole}
use Rattle.turn_lock.specs.declared.view.View.{View}
use Rattle.turn_lock.specs.declared.view.Made.{Made}
use Rattle.turn_lock.specs.Views.{one_if_some, made_by, made_lists, longer, shorter, numbers_of, times, spent_view, both_of}
use Rattle.turn_lock.specs.Rule.{Knows, IsInTurn}
use Rattle.turn_lock.proofs.Sums.{sum_set, each_set, unique_set, at_index, here}
use Rattle.turn_lock.proofs.Numbers.{both_lists, times_both, numbers_both}
use Rattle.turn_lock.proofs.Keeps.{none_some, each_same}

module _ {E : Type 0} where
  -- of two beginnings of a list, one of them whole, the longer is whole
  longer_whole : (xs ys whole : List E) → IsPrefix xs whole → IsPrefix ys whole → (xs ≡ whole) ⊎ (ys ≡ whole) → longer xs ys ≡ whole
  longer_whole xs ys whole p q which = go (ltb (length xs) (length ys)) refl which
    where
      go : (b : Bool) → ltb (length xs) (length ys) ≡ b → (xs ≡ whole) ⊎ (ys ≡ whole) → (if b then ys else xs) ≡ whole
      go true e (inl is) = let less = ltb-true (length xs) (length ys) e in let most = prefix_length ys whole q in let same = ap length is in absurd (omega arith)
      go true e (inr is) = is
      go false e (inl is) = is
      go false e (inr is) = let le = ltb-false (length xs) (length ys) e in let same = ap length is in prefix_whole xs whole p (omega arith)

  -- what both lists have, the longer and the shorter have
  longer_has : (P : List E → Type 0) (xs ys : List E) → P xs → P ys → P (longer xs ys) × P (shorter xs ys)
  longer_has P xs ys p q = go (ltb (length xs) (length ys))
    where
      go : (b : Bool) → P (if b then ys else xs) × P (if b then xs else ys)
      go true = (q, p)
      go false = (p, q)

module _ {E C : Type 0} where
  -- what two views know, the view made of both knows
  both_knows : (caller : E → ℕ) (fixed : C) (whole : List E) (served drawn : ℕ) (v w : View E C) → Knows caller fixed whole served drawn v → Knows caller fixed whole served drawn w
      → Knows caller fixed whole served drawn (both_of v w)
  both_knows caller fixed whole served drawn v w k l =
      let Right : Made E → Type 0 = λ m. (0 < m.number) × (made_by caller m.number whole ≡ m.entries) in
      let begins = longer_has (λ (xs : List E). IsPrefix xs whole) v.seen w.seen k.seen l.seen in record {
        constants = k.constants;
        seen = begins.0;
        told = begins.1;
        ticket = k.ticket;
        called = λ c. ((k.called c).0, longer_whole v.seen w.seen whole k.seen l.seen (inl (k.called c).1));
        made = subst (λ (ms : List (Made E)). All Right ms) (sym (both_lists v w)) (All-append Right (made_lists v) (made_lists w) k.made l.made);
        unnamed = k.unnamed;
      }

module _ {T E C : Type 0} (list : T → List E) (constants : T → C) (caller : E → ℕ) (base : List E) (fixed : C) where
  abbrev V : Type 0
  V = View E C

  abbrev Rule : State (Option T) V → Type 0
  Rule = IsInTurn list constants caller base fixed

  -- the longest list is still seen once two views are one
  longest_after : (s : State (Option T) V) (r : Rule s) (id other : ℕ) (v w : V) → get_elem? s.views id ≡ some v → other ≢ id → get_elem? s.views other ≡ some w → 0 < v.share → 0 < w.share
      → (i : ℕ) × (u : V) × (get_elem? (set (set s.views id (both_of v w)) other spent_view) i ≡ some u) × (0 < u.share) × (u.seen ≡ r.whole)
  longest_after s r id other v w at far there live live' =
      let both : V = both_of v w in
      let k = r.each id v at live in
      let l = r.each other w there live' in
      let best = r.longest in
      let stands : get_elem? (set (set s.views id both) other spent_view) id ≡ some both = set_else (set s.views id both) other id spent_view (λ same. far (sym same)) ∙ here s.views id v both at in
      let found : (v.seen ≡ r.whole) ⊎ (w.seen ≡ r.whole) → (i : ℕ) × (u : V) × (get_elem? (set (set s.views id both) other spent_view) i ≡ some u) × (0 < u.share) × (u.seen ≡ r.whole) =
      λ which. (id, both, stands, omega arith, longer_whole v.seen w.seen r.whole k.seen l.seen which) in
      dite (ℕ_discrete best.0 id)
      (λ is. found (inl (ap (λ (u : V). u.seen) (at_index s.views id v best.1 at (subst (λ (z : ℕ). get_elem? s.views z ≡ some best.1) is best.2)) ∙ best.4)))
      (λ apart. dite (ℕ_discrete best.0 other)
      (λ is. found (inr (ap (λ (u : V). u.seen) (at_index s.views other w best.1 there (subst (λ (z : ℕ). get_elem? s.views z ≡ some best.1) is best.2)) ∙ best.4)))
      (λ away. (best.0, best.1, set_else (set s.views id both) other best.0 spent_view away ∙ (set_else s.views id best.0 both apart ∙ best.2), best.3, best.4)))

  -- a join keeps the rule
  pub joins : (id other : ℕ) (v w : V) → 0 < v.share → 0 < w.share → w.ticket ≡ None → w.called ≡ false → Joins Rule id v other w (both_of v w) spent_view
  joins id other v w live live' no_ticket idle s r at far at' =
      let both : V = both_of v w in
      let vs : List V = set s.views id both in
      let there : get_elem? s.views other ≡ some w = sym (set_else s.views id other both far) ∙ at' in
      let sums : (f : V → ℕ) → f both ≡ f v + f w → f spent_view ≡ 0 → sum_by f (set vs other spent_view) ≡ sum_by f s.views = λ f add zero_left.
      (let a = sum_set f s.views id v both at in let b = sum_set f vs other w spent_view at' in omega arith) in record {
        wide = r.wide;
        deep = r.deep;
        whole = r.whole;
        added = r.added;
        grown = r.grown;
        counted = r.counted;
        longest = longest_after s r id other v w at far there live live';
        drawn = r.drawn;
        served = r.served;
        drawn_word = r.drawn_word;
        served_word = r.served_word;
        waiting = (let z : one_if_some w.ticket ≡ 0 = ap one_if_some no_ticket in let a = sums (λ (u : V). one_if_some u.ticket) (omega arith) refl in let b = r.waiting in omega arith);
        apart = unique_set (λ (u : V) t. u.ticket ≡ Some t) vs other spent_view
            (unique_set (λ (u : V) t. u.ticket ≡ Some t) s.views id both r.apart (λ j u t away a mine theirs. away (r.apart j id u v t a at theirs mine)))
            (λ j u t _ a mine theirs. none_some t mine);
        at_home = λ all. r.at_home (each_same s.views id v both at (each_same vs other w spent_view at' all idle) refl);
        each = each_set (λ j u. 0 < u.share → Knows caller fixed r.whole r.served r.drawn u) vs other spent_view (λ none_left. absurd (omega arith))
            (λ j u _. each_set (λ j u. 0 < u.share → Knows caller fixed r.whole r.served r.drawn u) s.views id both
            (λ _. both_knows caller fixed r.whole r.served r.drawn v w (r.each id v at live) (r.each other w there live')) (λ j u _ a l. r.each j u a l) j u);
        spent = each_set (λ j u. u.share ≡ 0 → u ≡ spent_view) vs other spent_view (λ _. refl)
            (λ j u _. each_set (λ j u. u.share ≡ 0 → u ≡ spent_view) s.views id both (λ z. absurd (omega arith)) (λ j u _ a. r.spent j u a) j u);
        once = λ n pos. sums (times n) (times_both n v w) refl ∙ r.once n pos;
        numbers = ap (λ (z : ℕ). z + 1) (sums numbers_of (numbers_both v w) refl) ∙ r.numbers;
        callers = r.callers;
        behind = r.behind;
        shares = (let a = sums (λ (u : V). u.share) refl refl in let b = r.shares in omega arith);
      }
