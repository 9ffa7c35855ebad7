-- The next ticket is served.
use Rattle.std.proofs.Common.{◌≡◌, ◌≢◌, ℕ, ◌+◌, ◌%◌, ◌<◌, ◌^◌, true, false, ltb, List, [], ◌∷◌, All, get_or, set, length-set, get_or-set_other, get_or-set_same, Option, None, Some, unwrap_or, sym, refl, ap, ◌∙◌, subst, arith}
use Rattle.std.proofs.lemmas.Bool.{false≢true}
use mathlib.Core.Option.{none, some}
use mathlib.Core.Option as maybe
use Rattle.atomic_table.specs.Table.{State, Me, step, gives, put_back, rest, Allows}
use Rattle.atomic_table.proofs.Lists.{set_here}
use Rattle.turn_lock.specs.declared.view.View.{View}
use Rattle.turn_lock.specs.Views.{one_if, one_if_some, numbers_of, times, spent_view}
use Rattle.turn_lock.specs.Rule.{Knows, IsInTurn}
use Rattle.turn_lock.specs.Steps.{passed_on}
use Rattle.turn_lock.proofs.Sums.{sum_set, same_sum, each_set, unique_set, here}
use Rattle.turn_lock.proofs.Keeps.{none_some, below_other, up_one}

module _ {T E C : Type 0} (list : T → List E) (constants : T → C) (caller : E → ℕ) (base : List E) (fixed : C) where
  abbrev V : Type 0
  V = View E C

  abbrev Rule : State (Option T) V → Type 0
  Rule = IsInTurn list constants caller base fixed

  -- passing on keeps the rule: the value x goes back into the slot, and the pass has no ticket
  pub passes_on : (slots id : ℕ) (me : Me (Option T) V) (x : T) → 0 < me.0.share → me.0.called ≡ true → me.1 ≡ (0, Some x) ∷ [] → list x ≡ me.0.seen → me.0.constants ≡ Some (constants x)
      → Allows Rule slots id me 1 (λ n. (n + 1) % 2 ^ 64) (passed_on (step slots 1 1 0 none) me)
  passes_on slots id me x live called out seen same s r deep at small =
      let v : V = me.0 in
      let k = r.each id v at live in
      let now = k.called called in
      let w : V = record v { ticket = None; called = false } in
      let n : ℕ = (get_or s.words 1 0 + 1) % 2 ^ 64 in
      let others : (j : ℕ) → j ≢ 1 → get_or (set s.words 1 n) j 0 ≡ get_or s.words j 0 = λ j far. get_or-set_other s.words 1 j n 0 far in
      let wide = r.wide in
      let deep' = r.deep in
      let names = others 3 (λ e. omega arith) in
      let fix : constants x ≡ fixed = ap (λ (o : Option C). unwrap_or o (constants x)) (sym same ∙ k.constants) in (
        w,
        gives,
        tt,
        subst (λ (hs : List (maybe.Option (Option T))). Rule record { words = set s.words 1 n; homes = hs; views = set s.views id w }) (sym (ap (put_back s.homes) out)) record {
          wide = length-set s.words 1 n ∙ wide;
          deep = length-set s.homes 0 (some (Some x)) ∙ r.deep;
          whole = r.whole;
          added = r.added;
          grown = r.grown;
          counted = others 2 (λ e. omega arith) ∙ r.counted;
          longest = (id, w, here s.views id v w at, live, now.1);
          drawn = r.drawn;
          served = r.served + 1;
          drawn_word = others 0 (λ e. omega arith) ∙ r.drawn_word;
          served_word = get_or-set_same s.words 1 n 0 (omega arith) ∙ up_one (get_or s.words 1 0) r.served (2 ^ 64) r.served_word;
          waiting = (let a = sum_set (λ (u : V). one_if_some u.ticket) s.views id v w at in let one : one_if_some v.ticket ≡ 1 = ap one_if_some now.0 in let b = r.waiting in omega arith);
          apart = unique_set (λ (u : V) t. u.ticket ≡ Some t) s.views id w r.apart (λ j u t far a mine theirs. none_some t mine);
          at_home = λ _. (x, set_here s.homes 0 (some (Some x)) (omega arith), seen ∙ now.1, fix);
          each = each_set (λ j u. 0 < u.share → Knows caller fixed r.whole (r.served + 1) r.drawn u) s.views id w
              (λ _. record {
                constants = k.constants;
                seen = k.seen;
                told = k.told;
                ticket = λ t e. absurd (none_some t e);
                called = λ c. absurd (false≢true c);
                made = k.made;
                unnamed = k.unnamed;
              })
              (λ j u far a l. let o = r.each j u a l in record {
                constants = o.constants;
                seen = o.seen;
                told = o.told;
                ticket = λ t e. (
                    let q = o.ticket t e in
                    let q0 = q.0 in
                    let apart : t ≢ r.served = λ is. far (r.apart j id u v t a at e (now.0 ∙ ap Some (sym is))) in
                    (below_other r.served t q0 apart, q.1));
                called = λ c. absurd (far (r.apart j id u v r.served a at (o.called c).0 now.0));
                made = o.made;
                unnamed = o.unnamed;
              });
          spent = each_set (λ j u. u.share ≡ 0 → u ≡ spent_view) s.views id w (λ z. absurd (omega arith)) (λ j u _ a. r.spent j u a);
          once = λ m pos. same_sum (times m) s.views id v w at refl ∙ (r.once m pos ∙ ap (λ (z : ℕ). one_if (ltb m z)) (sym names));
          numbers = ap (λ (z : ℕ). z + 1) (same_sum numbers_of s.views id v w at refl) ∙ (r.numbers ∙ sym names);
          callers = subst (λ (z : ℕ). All (λ e. caller e < z) r.whole) (sym names) r.callers;
          behind = r.behind;
          shares = (let a = same_sum (λ (u : V). u.share) s.views id v w at refl in let b = r.shares in omega arith);
        },
        (λ i. (w, rest (out i))),
      )
