-- A ticket is drawn.
use Rattle.std.proofs.Common.{◌≡◌, ◌≢◌, ℕ, ◌+◌, ◌%◌, ◌<◌, ◌^◌, false, ltb, List, All, get_or, set, length-set, get_or-set_other, get_or-set_same, Option, None, Some, unwrap_or, sym, refl, ap, ◌∙◌, subst, arith}
use Rattle.std.specs.List.{sum_by}
use mathlib.Core.Option.{none}
use Rattle.atomic_table.specs.Table.{Me, step, keeps, Allows}
use Rattle.turn_lock.specs.declared.view.View.{View}
use Rattle.turn_lock.specs.Views.{one_if, one_if_some, numbers_of, times, spent_view}
use Rattle.turn_lock.specs.Rule.{Knows, IsInTurn}
use Rattle.turn_lock.specs.Steps.{drew}
use Rattle.turn_lock.proofs.Sums.{sum_set, same_sum, each_set, unique_set, each_back, still}
use Rattle.turn_lock.proofs.Keeps.{not_both, below_drawn, up_one}

module _ {T E C : Type 0} (list : T → List E) (constants : T → C) (caller : E → ℕ) (base : List E) (fixed : C) where
  abbrev V : Type 0
  V = View E C

  -- drawing keeps the rule, and the pass has the ticket that was drawn
  pub draws : (slots id : ℕ) (me : Me (Option T) V) → 0 < me.0.share → me.0.ticket ≡ None → me.0.called ≡ false
      → Allows (IsInTurn list constants caller base fixed) slots id me 0 (λ n. (n + 1) % 2 ^ 64) (drew (step slots 0 1 0 none) me)
  draws slots id me live none_drawn idle s r deep at small =
      let v : V = me.0 in let w : V = record v { ticket = Some r.drawn } in
      let n : ℕ = (get_or s.words 0 0 + 1) % 2 ^ 64 in
      let wide = r.wide in
      let others : (j : ℕ) → j ≢ 0 → get_or (set s.words 0 n) j 0 ≡ get_or s.words j 0 = λ j far. get_or-set_other s.words 0 j n 0 far in
      let names = others 3 (λ e. omega arith) in
      let one : sum_by (λ (u : V). one_if_some u.ticket) (set s.views id w) ≡ sum_by (λ (u : V). one_if_some u.ticket) s.views + 1 =
      let t = sum_set (λ (u : V). one_if_some u.ticket) s.views id v w at in let z : one_if_some v.ticket ≡ 0 = ap one_if_some none_drawn in omega arith in
      let k = r.each id v at live in
      let ahead = r.waiting in (
        w,
        keeps,
        tt,
        record {
          wide = length-set s.words 0 n ∙ wide;
          deep = r.deep;
          whole = r.whole;
          added = r.added;
          grown = r.grown;
          counted = others 2 (λ e. omega arith) ∙ r.counted;
          longest = (let l = r.longest in let t = still (λ (u : V). (0 < u.share) × (u.seen ≡ r.whole)) s.views id v w at (λ q. q) l.0 (l.1, l.2, (l.3, l.4)) in (l.0, t.0, t.1, t.2.0, t.2.1));
          drawn = r.drawn + 1;
          served = r.served;
          drawn_word = get_or-set_same s.words 0 n 0 (omega arith) ∙ up_one (get_or s.words 0 0) r.drawn (2 ^ 64) r.drawn_word;
          served_word = others 1 (λ e. omega arith) ∙ r.served_word;
          waiting = omega arith;
          apart = unique_set (λ (u : V) t. u.ticket ≡ Some t) s.views id w r.apart
              (λ j u t _ a mine theirs. let same : r.drawn ≡ t = ap (λ (o : Option ℕ). unwrap_or o 0) mine in let below = below_drawn r j u a t theirs in omega arith);
          at_home = λ all. r.at_home (each_back (λ (u : V). u.called ≡ false) s.views id v w at idle all);
          each = each_set (λ j u. 0 < u.share → Knows caller fixed r.whole r.served (r.drawn + 1) u) s.views id w
              (λ _. record {
                constants = k.constants;
                seen = k.seen;
                told = k.told;
                ticket = λ t e. (let same : r.drawn ≡ t = ap (λ (o : Option ℕ). unwrap_or o 0) e in (omega arith, omega arith));
                called = λ c. absurd (not_both v.called idle c);
                made = k.made;
                unnamed = k.unnamed;
              })
              (λ j u _ a l. let o = r.each j u a l in record {
                constants = o.constants;
                seen = o.seen;
                told = o.told;
                ticket = λ t e. (let q = o.ticket t e in let q1 = q.1 in (q.0, omega arith));
                called = o.called;
                made = o.made;
                unnamed = o.unnamed;
              });
          spent = each_set (λ j u. u.share ≡ 0 → u ≡ spent_view) s.views id w (λ z. absurd (omega arith)) (λ j u _ a. r.spent j u a);
          once = λ n' pos. same_sum (times n') s.views id v w at refl ∙ (r.once n' pos ∙ ap (λ (z : ℕ). one_if (ltb n' z)) (sym names));
          numbers = ap (λ (z : ℕ). z + 1) (same_sum numbers_of s.views id v w at refl) ∙ (r.numbers ∙ sym names);
          callers = subst (λ (z : ℕ). All (λ e. caller e < z) r.whole) (sym names) r.callers;
          behind = r.behind;
          shares = (let a = same_sum (λ (u : V). u.share) s.views id v w at refl in let c = r.shares in omega arith);
        },
        (r.drawn, r.drawn_word, refl),
      )
