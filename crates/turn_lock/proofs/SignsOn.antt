-- A number is drawn.
use Rattle.std.proofs.Common.{◌≡◌, ◌≢◌, ℕ, ◌+◌, ◌-◌, ◌%◌, ◌<◌, ◌≤◌, ◌^◌, ltb, List, ◌++◌, All, get_or, set, length-set, get_or-set_other, get_or-set_same, Option, Some, sym, refl, ap, ◌∙◌, subst, arith}
use Rattle.std.proofs.lemmas.List.Elements.{All-cons, All-weaker}
use Rattle.std.proofs.Math.Nat.{mod-eq_of_lt}
use mathlib.Core.Option.{none}
use Rattle.atomic_table.specs.Table.{State, Me, step, keeps, Allows}
use Rattle.turn_lock.specs.declared.view.View.{View}
use Rattle.turn_lock.specs.declared.view.Made.{Made}
use Rattle.turn_lock.specs.Views.{one_if, one_if_some, made_by, numbers_of, times, spent_view}
use Rattle.turn_lock.specs.Rule.{Knows, IsInTurn}
use Rattle.turn_lock.specs.Steps.{signed}
use Rattle.turn_lock.proofs.Sums.{sum_set, same_sum, at_most_sum, each_set, unique_set, still}
use Rattle.turn_lock.proofs.Numbers.{none_by, own_of, none_of, times_signed, numbers_signed, next_counts}
use Rattle.turn_lock.proofs.Keeps.{each_same}

module _ {T E C : Type 0} (list : T → List E) (constants : T → C) (caller : E → ℕ) (base : List E) (fixed : C) where
  abbrev V : Type 0
  V = View E C

  abbrev Rule : State (Option T) V → Type 0
  Rule = IsInTurn list constants caller base fixed

  -- what a view knows once it has a number that no entry has
  signed_knows : {whole : List E} {served drawn : ℕ} (names share : ℕ) (v : V) → v.number ≡ 0 → 0 < names → All (λ e. caller e < names) whole → Knows caller fixed whole served drawn v
      → Knows caller fixed whole served drawn (record v { number = names; share = share })
  signed_knows {whole} names share v unnamed pos fresh k =
      let Right : Made E → Type 0 = λ m. (0 < m.number) × (made_by caller m.number whole ≡ m.entries) in
      let w : V = record v { number = names; share = share } in record {
        constants = k.constants;
        seen = k.seen;
        told = k.told;
        ticket = k.ticket;
        called = k.called;
        made = subst (λ (ms : List (Made E)). All Right (ms ++ v.joined)) (sym (own_of w pos))
            (All-cons Right (record { number = names; entries = v.made }) v.joined (pos, none_by caller names whole fresh ∙ sym (k.unnamed unnamed))
            (subst (λ (ms : List (Made E)). All Right (ms ++ v.joined)) (none_of v unnamed) k.made));
        unnamed = λ z. absurd (omega arith);
      }

  -- signing on keeps the rule, and the pass has the number that was drawn
  pub signs_on : (slots id : ℕ) (me : Me (Option T) V) → 2 ≤ me.0.share → me.0.number ≡ 0
      → Allows Rule slots id me 3 (λ n. (n + 1) % 2 ^ 64) (signed (step slots 3 1 0 none) me)
  signs_on slots id me room unnamed s r deep at small =
      let v : V = me.0 in
      let k = r.each id v at (omega arith) in
      let names : ℕ = get_or s.words 3 0 in
      let w : V = record v { number = names; share = v.share - 1 } in
      let few = at_most_sum (λ (u : V). u.share) s.views id v at in
      let total = r.shares in
      let numbered = r.numbers in
      let wide = r.wide in
      let n : ℕ = (names + 1) % 2 ^ 64 in
      let up : n ≡ names + 1 = mod-eq_of_lt (omega arith) in
      let others : (j : ℕ) → j ≢ 3 → get_or (set s.words 3 n) j 0 ≡ get_or s.words j 0 = λ j far. get_or-set_other s.words 3 j n 0 far in
      let now : get_or (set s.words 3 n) 3 0 ≡ names + 1 = get_or-set_same s.words 3 n 0 (omega arith) ∙ up in (
        w,
        keeps,
        tt,
        record {
          wide = length-set s.words 3 n ∙ wide;
          deep = r.deep;
          whole = r.whole;
          added = r.added;
          grown = r.grown;
          counted = others 2 (λ e. omega arith) ∙ r.counted;
          longest = (let l = r.longest in let t = still (λ (u : V). (0 < u.share) × (u.seen ≡ r.whole)) s.views id v w at (λ q. (omega arith, q.1)) l.0 (l.1, l.2, (l.3, l.4)) in (l.0, t.0, t.1, t.2.0, t.2.1));
          drawn = r.drawn;
          served = r.served;
          drawn_word = others 0 (λ e. omega arith) ∙ r.drawn_word;
          served_word = others 1 (λ e. omega arith) ∙ r.served_word;
          waiting = (let a = same_sum (λ (u : V). one_if_some u.ticket) s.views id v w at refl in let b = r.waiting in omega arith);
          apart = unique_set (λ (u : V) t. u.ticket ≡ Some t) s.views id w r.apart (λ j u t far a mine theirs. far (r.apart j id u v t a at theirs mine));
          at_home = λ all. r.at_home (each_same s.views id v w at all refl);
          each = each_set (λ j u. 0 < u.share → Knows caller fixed r.whole r.served r.drawn u) s.views id w
              (λ _. signed_knows names (v.share - 1) v unnamed (omega arith) r.callers k) (λ j u _ a l. r.each j u a l);
          spent = each_set (λ j u. u.share ≡ 0 → u ≡ spent_view) s.views id w (λ z. absurd (omega arith)) (λ j u _ a. r.spent j u a);
          once = λ m pos. (
              let a = sum_set (times m) s.views id v w at in
              let b = times_signed m names (v.share - 1) v unnamed (omega arith) in
              let c = r.once m pos in
              let d = next_counts m names in
              let e = ap (λ (z : ℕ). one_if (ltb m z)) now in omega arith);
          numbers = (let a = sum_set numbers_of s.views id v w at in let b = numbers_signed names (v.share - 1) v unnamed (omega arith) in omega arith);
          callers = subst (λ (z : ℕ). All (λ e. caller e < z) r.whole) (sym now) (All-weaker (λ (e : E). caller e < names) (λ (e : E). caller e < names + 1) (λ e l. omega arith) r.whole r.callers);
          behind = r.behind;
          shares = (let a = sum_set (λ (u : V). u.share) s.views id v w at in omega arith);
        },
        (omega arith, refl),
      )
