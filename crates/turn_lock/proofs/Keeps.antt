-- What the rule of the turns gives of each view.
use Rattle.std.proofs.Common.{◌≡◌, ◌≢◌, ℕ, ◌+◌, ◌%◌, ◌<◌, ◌≤◌, ◌^◌, Bool, true, false, ltb, List, set, Option, None, Some, slice_index, sym, ap, ◌∙◌, subst, arith}
use Rattle.std.proofs.lemmas.Bool.{false≢true, false_from_ne_true}
use Rattle.std.proofs.Math.Nat.{add-mod, mod-mod}
use mathlib.Core.Logic.{dite}
use mathlib.Core.Option.{some}
use native.Mathlib.Decide.{ℕ_discrete}
use lib.ListN.{get_elem?}
use Rattle.atomic_table.specs.Table.{State}
use Rattle.turn_lock.specs.declared.view.View.{View}
use Rattle.turn_lock.specs.Views.{one_if_some, times}
use Rattle.turn_lock.specs.Rule.{IsInTurn}
use Rattle.turn_lock.proofs.Sums.{at_most_sum, two_at_most_sum, sum_le, at_index, each_back, here}
use Rattle.turn_lock.proofs.Numbers.{one_if_at_most, counts_below}

pub not_both : (b : Bool) → b ≡ false → b ≡ true → ⊥
not_both b off on = absurd (false≢true (sym off ∙ on))

pub none_some : (t : ℕ) → None ≡ Some t → ⊥
none_some t e = absurd cc

pub below_other : (a b : ℕ) → a ≤ b → b ≢ a → a + 1 ≤ b
below_other a b le far = dite (ℕ_discrete b a) (λ is. absurd (far is)) (λ other. omega arith)

-- a word that goes up by one, where it is a number modulo n
pub up_one : (word count n : ℕ) → word ≡ count % n → (word + 1) % n ≡ (count + 1) % n
up_one word count n e = subst (λ (z : ℕ). (z + 1) % n ≡ (count + 1) % n) (sym e) (again count n)
  where
    again : (a m : ℕ) → (a % m + 1) % m ≡ (a + 1) % m
    again a m = add-mod (a % m) 1 m ∙ (ap (λ (z : ℕ). (z + 1 % m) % m) (mod-mod a m) ∙ sym (add-mod a 1 m))

at_most_one : (o : Option ℕ) → one_if_some o ≤ 1
at_most_one None = omega arith
at_most_one (Some n) = omega arith

module _ {T E C : Type 0} {list : T → List E} {constants : T → C} {caller : E → ℕ} {base : List E} {fixed : C} {s : State (Option T) (View E C)} where
  -- the ticket of each view was drawn
  pub below_drawn : (r : IsInTurn list constants caller base fixed s) (j : ℕ) (u : View E C) → get_elem? s.views j ≡ some u → (t : ℕ) → u.ticket ≡ Some t → t < r.drawn
  below_drawn r j u a t e = dite (ℕ_discrete u.share 0)
      (λ none_left. absurd (none_some t (sym (ap (λ (x : View E C). x.ticket) (r.spent j u a none_left)) ∙ e)))
      (λ some_left. ((r.each j u a (omega arith)).ticket t e).1)

  -- fewer wait than there are shares
  pub few_wait : (r : IsInTurn list constants caller base fixed s) → r.drawn ≤ r.served + 2 ^ 62
  few_wait r =
      let each : (j : ℕ) (u : View E C) → get_elem? s.views j ≡ some u → one_if_some u.ticket ≤ u.share = λ j u a. dite (ℕ_discrete u.share 0)
      (λ none_left. let e : one_if_some u.ticket ≡ 0 = ap (λ (x : View E C). one_if_some x.ticket) (r.spent j u a none_left) in omega arith)
      (λ some_left. let l = at_most_one u.ticket in omega arith) in
      let t = sum_le (λ (u : View E C). one_if_some u.ticket) (λ (u : View E C). u.share) s.views each in
      let a = r.shares in let b = r.numbers in let c = r.waiting in omega arith

  -- no view is called while the ticket that is served is that of a view which is not
  pub none_called : (r : IsInTurn list constants caller base fixed s) (id : ℕ) (v : View E C) → get_elem? s.views id ≡ some v → v.called ≡ false → v.ticket ≡ Some r.served
      → (j : ℕ) (u : View E C) → get_elem? s.views j ≡ some u → u.called ≡ false
  none_called r id v at idle mine j u a = false_from_ne_true u.called (λ called. dite (ℕ_discrete u.share 0)
      (λ none_left. not_both u.called (ap (λ (x : View E C). x.called) (r.spent j u a none_left)) called)
      (λ some_left.
      let now = (r.each j u a (omega arith)).called called in
      let same : j ≡ id = r.apart j id u v r.served a at now.0 mine in
      let one : v ≡ u = at_index s.views id v u at (subst (λ (z : ℕ). get_elem? s.views z ≡ some u) same a) in
      not_both v.called idle (ap (λ (x : View E C). x.called) one ∙ called)))

  -- a number that stands in a view was given
  pub number_given : (r : IsInTurn list constants caller base fixed s) (i n : ℕ) (v : View E C) → get_elem? s.views i ≡ some v → 0 < n → 0 < times n v → n < slice_index s.words 3
  number_given r i n v at pos stands =
      let most = at_most_sum (times n) s.views i v at in let once = r.once n pos in counts_below n (slice_index s.words 3) (omega arith)

  -- and stands there once
  pub number_once : (r : IsInTurn list constants caller base fixed s) (i n : ℕ) (v : View E C) → get_elem? s.views i ≡ some v → 0 < n → times n v ≤ 1
  number_once r i n v at pos =
      let most = at_most_sum (times n) s.views i v at in let once = r.once n pos in let one = one_if_at_most (ltb n (slice_index s.words 3)) in omega arith

  -- and in no other view
  pub number_alone : (r : IsInTurn list constants caller base fixed s) (i j n : ℕ) (v u : View E C) → get_elem? s.views i ≡ some v → get_elem? s.views j ≡ some u → j ≢ i → 0 < n → 0 < times n v → times n u ≡ 0
  number_alone r i j n v u at a far pos stands =
      let most = two_at_most_sum (times n) s.views j i u v far a at in let once = r.once n pos in let one = one_if_at_most (ltb n (slice_index s.words 3)) in omega arith

-- where no view is called after a change that leaves one view as it is in this, none was before
pub each_same : {E C : Type 0} (vs : List (View E C)) (id : ℕ) (v w : View E C) → get_elem? vs id ≡ some v → ((j : ℕ) (u : View E C) → get_elem? (set vs id w) j ≡ some u → u.called ≡ false) → v.called ≡ w.called
    → (j : ℕ) (u : View E C) → get_elem? vs j ≡ some u → u.called ≡ false
each_same {E} {C} vs id v w at all same = each_back (λ (u : View E C). u.called ≡ false) vs id v w at (same ∙ all id w (here vs id v w at)) all
