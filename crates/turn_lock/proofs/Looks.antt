-- The ticket that is served is looked at.
use Rattle.std.proofs.Common.{◌≡◌, ℕ, ◌+◌, ◌%◌, ◌<◌, ◌^◌, true, false, List, get_or, set, length-set, Option, Some, unwrap_or, sym, refl, ap, ◌∙◌, subst, arith}
use Rattle.std.proofs.lemmas.List.{set-get_or}
use Rattle.std.proofs.lemmas.List.Elements.{All-weaker}
use mathlib.Core.Logic.{dite}
use mathlib.Core.Option.{none, some}
use mathlib.Core.List.{IsPrefix}
use native.Mathlib.Decide.{ℕ_discrete}
use lib.ListN.{get_elem?}
use Rattle.atomic_table.specs.Table.{State, Me, step, keeps, takes, Allows}
use Rattle.atomic_table.proofs.Lists.{set_again, one_turn}
use Rattle.rad_base.proofs.Prefixes.{prefix_self}
use Rattle.turn_lock.specs.declared.view.View.{View}
use Rattle.turn_lock.specs.declared.view.Made.{Made}
use Rattle.turn_lock.specs.Views.{one_if_some, made_by, made_lists, numbers_of, times, spent_view}
use Rattle.turn_lock.specs.Rule.{Knows, IsInTurn}
use Rattle.turn_lock.specs.Steps.{Fits, looked}
use Rattle.turn_lock.proofs.Sums.{same_sum, each_set, unique_set, here}
use Rattle.turn_lock.proofs.Keeps.{not_both, few_wait, none_called}

module _ {T E C : Type 0} (list : T → List E) (constants : T → C) (caller : E → ℕ) (base : List E) (fixed : C) where
  abbrev V : Type 0
  V = View E C

  abbrev Rule : State (Option T) V → Type 0
  Rule = IsInTurn list constants caller base fixed

  -- the value that is at home fits what a view knows
  pub home_fits : {whole : List E} {served drawn : ℕ} (v : V) (x : T) → Knows caller fixed whole served drawn v → list x ≡ whole → constants x ≡ fixed → Fits list constants caller v x
  home_fits {whole} v x k same fix = (
    subst (λ (l : List E). IsPrefix v.seen l) (sym same) k.seen,
    k.constants ∙ ap Some (sym fix),
    All-weaker (λ (m : Made E). (0 < m.number) × (made_by caller m.number whole ≡ m.entries)) (λ (m : Made E). made_by caller m.number (list x) ≡ m.entries) (λ m has. ap (λ (l : List E). made_by caller m.number l) same ∙ has.1) (made_lists v) k.made,
  )

  -- the rule after the view v is called, and has taken the value x
  called_after : (s : State (Option T) V) (r : Rule s) (id : ℕ) (v : V) (x : T) → get_elem? s.views id ≡ some v → 0 < v.share → v.ticket ≡ Some r.served → list x ≡ r.whole
      → Rule record { words = s.words; homes = set s.homes 0 none; views = set s.views id (record v { called = true; seen = list x }) }
  called_after s r id v x at live mine same =
      let k = r.each id v at live in
      let w : V = record v { called = true; seen = list x } in record {
        wide = r.wide;
        deep = length-set s.homes 0 none ∙ r.deep;
        whole = r.whole;
        added = r.added;
        grown = r.grown;
        counted = r.counted;
        longest = (id, w, here s.views id v w at, live, same);
        drawn = r.drawn;
        served = r.served;
        drawn_word = r.drawn_word;
        served_word = r.served_word;
        waiting = (let a = same_sum (λ (u : V). one_if_some u.ticket) s.views id v w at refl in let b = r.waiting in omega arith);
        apart = unique_set (λ (u : V) n. u.ticket ≡ Some n) s.views id w r.apart (λ j u n far a my theirs. far (r.apart j id u v n a at theirs my));
        at_home = λ all. absurd (not_both true (all id w (here s.views id v w at)) refl);
        each = each_set (λ j u. 0 < u.share → Knows caller fixed r.whole r.served r.drawn u) s.views id w
            (λ _. record {
              constants = k.constants;
              seen = subst (λ (l : List E). IsPrefix l r.whole) (sym same) (prefix_self r.whole);
              told = k.told;
              ticket = k.ticket;
              called = λ _. (mine, same);
              made = k.made;
              unnamed = k.unnamed;
            })
            (λ j u _ a l. r.each j u a l);
        spent = each_set (λ j u. u.share ≡ 0 → u ≡ spent_view) s.views id w (λ z. absurd (omega arith)) (λ j u _ a. r.spent j u a);
        once = λ n pos. same_sum (times n) s.views id v w at refl ∙ r.once n pos;
        numbers = ap (λ (z : ℕ). z + 1) (same_sum numbers_of s.views id v w at refl) ∙ r.numbers;
        callers = r.callers;
        behind = r.behind;
        shares = (let a = same_sum (λ (u : V). u.share) s.views id v w at refl in let b = r.shares in omega arith);
      }

  -- looking keeps the rule, and gives the value to the view whose ticket is served
  pub looks : (slots id t : ℕ) (me : Me (Option T) V) → 0 < me.0.share → me.0.ticket ≡ Some t → me.0.called ≡ false
      → Allows Rule slots id me 1 (λ n. n) (looked list constants caller (step slots 1 0 0 none) me)
  looks slots id t me live drawn idle s r deep at small =
      let v : V = me.0 in
      let k = r.each id v at live in
      let q = k.ticket t drawn in
      let most = few_wait r in
      let found : ℕ = get_or s.words 1 0 in
      let back : set s.words 1 found ≡ s.words = set-get_or s.words 1 0 in
      dite (ℕ_discrete found (t % 2 ^ 64))
      (λ hit.
      let q0 = q.0 in let q1 = q.1 in
      let same : r.served ≡ t = one_turn r.served t (2 ^ 64) q0 (omega arith) (sym r.served_word ∙ hit) in
      let mine : v.ticket ≡ Some r.served = drawn ∙ ap Some (sym same) in
      let home = r.at_home (none_called r id v at idle mine) in
      let x : T = home.0 in
      let w : V = record v { called = true; seen = list x } in (
        w,
        takes 0 (Some x),
        home.1,
        subst (λ (ws : List ℕ). Rule record { words = ws; homes = set s.homes 0 none; views = set s.views id w }) (sym back) (called_after s r id v x at live mine home.2),
        (λ t' e. let one : t ≡ t' = ap (λ (o : Option ℕ). unwrap_or o 0) (sym drawn ∙ e) in (
          (λ _. (x, refl, home_fits v x k home.2 home.3)),
          (λ far. absurd (far (hit ∙ ap (λ (z : ℕ). z % 2 ^ 64) one))),
        )),
      ))
      (λ miss. (
        v,
        keeps,
        tt,
        subst (λ (ws : List ℕ). Rule record { words = ws; homes = s.homes; views = set s.views id v }) (sym back)
            (subst (λ (vs : List V). Rule record { words = s.words; homes = s.homes; views = vs }) (sym (set_again s.views id v at)) r),
        (λ t' e. let one : t ≡ t' = ap (λ (o : Option ℕ). unwrap_or o 0) (sym drawn ∙ e) in (
          (λ is. absurd (miss (is ∙ ap (λ (z : ℕ). z % 2 ^ 64) (sym one)))),
          (λ _. refl),
        )),
      ))
