-- One more entry is counted.
use Rattle.std.proofs.Common.{◌≡◌, ◌≢◌, ℕ, ◌+◌, ◌%◌, ◌<◌, ◌^◌, Bool, true, false, ltb, List, [], ◌∷◌, ◌++◌, All, length, get_or, set, length-set, get_or-set_other, get_or-set_same, Option, Some, unwrap_or, sym, refl, ap, ◌∙◌, subst, arith, append_assoc, length-append}
use Rattle.std.proofs.lemmas.List.Elements.{All-cons, All-head, All-tail, All-push}
use Rattle.std.proofs.Math.Nat.{mod-eq_of_lt}
use mathlib.Core.Option.{none}
use mathlib.Core.List.{IsPrefix}
use Rattle.atomic_table.specs.Table.{State, Me, step, keeps, Allows}
use Rattle.rad_base.proofs.Prefixes.{prefix_self, prefix_append, prefix_along}
use Rattle.turn_lock.specs.declared.view.View.{View}
use Rattle.turn_lock.specs.declared.view.Made.{Made}
use Rattle.turn_lock.specs.Views.{one_if, one_if_some, made_by, made_lists, numbers_of, times, spent_view}
use Rattle.turn_lock.specs.Rule.{Knows, IsInTurn}
use Rattle.turn_lock.specs.Steps.{added}
use Rattle.turn_lock.proofs.Sums.{same_sum, each_set, unique_set, here}
use Rattle.turn_lock.proofs.Numbers.{times_in, made_by_other, made_by_one, others_kept, own_of, times_own, times_more, numbers_more}
use Rattle.turn_lock.proofs.Keeps.{not_both, number_given, number_once, number_alone}

module _ {E C : Type 0} (caller : E → ℕ) (fixed : C) (whole : List E) (served drawn : ℕ) (e : E) where
  abbrev Right : List E → Made E → Type 0
  Right xs m = (0 < m.number) × (made_by caller m.number xs ≡ m.entries)

  still_right : (n : ℕ) → caller e ≡ n → (m : Made E) → m.number ≢ n → Right whole m → Right (whole ++ e ∷ []) m
  still_right n same m far has = (has.0, made_by_other caller m.number whole e (λ is. far (sym is ∙ same)) ∙ has.1)

  -- what a view knows when an entry of a number that is none of its own was added
  other_knows : (n : ℕ) (u : View E C) → caller e ≡ n → times n u ≡ 0 → u.called ≡ false → Knows caller fixed whole served drawn u → Knows caller fixed (whole ++ e ∷ []) served drawn u
  other_knows n u same lacks idle k = record {
    constants = k.constants;
    seen = prefix_along u.seen whole (whole ++ e ∷ []) k.seen (prefix_append whole (e ∷ []));
    told = prefix_along u.told whole (whole ++ e ∷ []) k.told (prefix_append whole (e ∷ []));
    ticket = k.ticket;
    called = λ c. absurd (not_both u.called idle c);
    made = others_kept (Right whole) (Right (whole ++ e ∷ [])) n (still_right n same) (made_lists u) lacks k.made;
    unnamed = k.unnamed;
  }

  -- what the called view knows when an entry of its number was added
  own_knows : (v : View E C) → 0 < v.number → caller e ≡ v.number → times v.number v ≡ 1 → v.seen ≡ whole → Knows caller fixed whole served drawn v
      → Knows caller fixed (whole ++ e ∷ []) served drawn (record v { seen = v.seen ++ e ∷ []; made = v.made ++ e ∷ [] })
  own_knows v pos same once all k =
      let w : View E C = record v { seen = v.seen ++ e ∷ []; made = v.made ++ e ∷ [] } in
      let longer : v.seen ++ e ∷ [] ≡ whole ++ e ∷ [] = ap (λ (l : List E). l ++ e ∷ []) all in
      let lists : All (Right whole) (record { number = v.number; entries = v.made } ∷ v.joined) = subst (λ (ms : List (Made E)). All (Right whole) (ms ++ v.joined)) (own_of v pos) k.made in
      let own = (All-head (Right whole) (record { number = v.number; entries = v.made }) v.joined lists).1 in
      let lacks : times_in v.number v.joined ≡ 0 = (let t = times_own v pos in omega arith) in record {
        constants = k.constants;
        seen = subst (λ (l : List E). IsPrefix l (whole ++ e ∷ [])) (sym longer) (prefix_self (whole ++ e ∷ []));
        told = prefix_along v.told whole (whole ++ e ∷ []) k.told (prefix_append whole (e ∷ []));
        ticket = k.ticket;
        called = λ c. ((k.called c).0, longer);
        made = subst (λ (ms : List (Made E)). All (Right (whole ++ e ∷ [])) (ms ++ v.joined)) (sym (own_of w pos))
            (All-cons (Right (whole ++ e ∷ [])) (record { number = v.number; entries = v.made ++ e ∷ [] }) v.joined
            (pos, made_by_one caller v.number whole e same ∙ ap (λ (l : List E). l ++ e ∷ []) own)
            (others_kept (Right whole) (Right (whole ++ e ∷ [])) v.number (still_right v.number same) v.joined lacks (All-tail (Right whole) (record { number = v.number; entries = v.made }) v.joined lists)));
        unnamed = λ z. absurd (omega arith);
      }

module _ {T E C : Type 0} (list : T → List E) (constants : T → C) (caller : E → ℕ) (base : List E) (fixed : C) where
  abbrev V : Type 0
  V = View E C

  abbrev Rule : State (Option T) V → Type 0
  Rule = IsInTurn list constants caller base fixed

  abbrev slot_value : T → List (ℕ × Option T) → T
  slot_value d [] = d
  slot_value d (p ∷ ps) = unwrap_or p.1 d

  -- counting the next entry e of the value x, which is back, keeps the rule, and the pass has seen and made it
  pub adds : (slots id : ℕ) (me : Me (Option T) V) (x : T) (e : E) (more : List E) → 0 < me.0.share → me.0.called ≡ true → me.1 ≡ (0, Some x) ∷ [] → me.0.seen ++ e ∷ more ≡ list x → length (list x) < 2 ^ 63
      → 0 < me.0.number → caller e ≡ me.0.number → Allows Rule slots id me 2 (λ n. (n + 1) % 2 ^ 64) (added list (step slots 2 1 0 none) me)
  adds slots id me x e more live called out next short pos same s r deep at small =
      let v : V = me.0 in
      let k = r.each id v at live in
      let now = k.called called in
      let w : V = record v { seen = v.seen ++ e ∷ []; made = v.made ++ e ∷ [] } in
      let n : ℕ = (get_or s.words 2 0 + 1) % 2 ^ 64 in
      let wide = r.wide in
      let others : (j : ℕ) → j ≢ 2 → get_or (set s.words 2 n) j 0 ≡ get_or s.words j 0 = λ j far. get_or-set_other s.words 2 j n 0 far in
      let names = others 3 (λ e. omega arith) in
      let stands : 0 < times v.number v = (let t = times_own v pos in omega arith) in
      let once : times v.number v ≡ 1 = (let t = number_once r id v.number v at pos in omega arith) in
      let whole' : List E = r.whole ++ e ∷ [] in
      let lengths : length r.added < 2 ^ 63 =
      (let a = ap length next in let b = length-append v.seen (e ∷ more) in let c = ap length now.1 in let d = ap length r.grown in let f = length-append base r.added in omega arith) in
      let count = r.counted in
      let up : n ≡ get_or s.words 2 0 + 1 = mod-eq_of_lt (omega arith) in
      let behind' = r.behind in (
        w,
        keeps,
        tt,
        record {
          wide = length-set s.words 2 n ∙ wide;
          deep = r.deep;
          whole = whole';
          added = r.added ++ e ∷ [];
          grown = sym (append_assoc base r.added (e ∷ [])) ∙ ap (λ (l : List E). l ++ e ∷ []) r.grown;
          counted = get_or-set_same s.words 2 n 0 (omega arith) ∙ (let l = length-append r.added (e ∷ []) in omega arith);
          longest = (id, w, here s.views id v w at, live, ap (λ (l : List E). l ++ e ∷ []) now.1);
          drawn = r.drawn;
          served = r.served;
          drawn_word = others 0 (λ e. omega arith) ∙ r.drawn_word;
          served_word = others 1 (λ e. omega arith) ∙ r.served_word;
          waiting = (let a = same_sum (λ (u : V). one_if_some u.ticket) s.views id v w at refl in let b = r.waiting in omega arith);
          apart = unique_set (λ (u : V) t. u.ticket ≡ Some t) s.views id w r.apart (λ j u t far a mine theirs. far (r.apart j id u v t a at theirs mine));
          at_home = λ all. absurd (not_both v.called (all id w (here s.views id v w at)) called);
          each = each_set (λ j u. 0 < u.share → Knows caller fixed whole' r.served r.drawn u) s.views id w
              (λ _. own_knows caller fixed r.whole r.served r.drawn e v pos same once now.1 k)
              (λ j u far a l. let o = r.each j u a l in
              other_knows caller fixed r.whole r.served r.drawn e v.number u same (number_alone r id j v.number v u at a far pos stands)
              (false_unless u.called (λ c. far (r.apart j id u v r.served a at (o.called c).0 now.0))) o);
          spent = each_set (λ j u. u.share ≡ 0 → u ≡ spent_view) s.views id w (λ z. absurd (omega arith)) (λ j u _ a. r.spent j u a);
          once = λ m pos'. same_sum (times m) s.views id v w at (times_more m v (v.seen ++ e ∷ []) (v.made ++ e ∷ []) pos) ∙ (r.once m pos' ∙ ap (λ (z : ℕ). one_if (ltb m z)) (sym names));
          numbers = ap (λ (z : ℕ). z + 1) (same_sum numbers_of s.views id v w at (numbers_more v (v.seen ++ e ∷ []) (v.made ++ e ∷ []))) ∙ (r.numbers ∙ sym names);
          callers = subst (λ (z : ℕ). All (λ e. caller e < z) whole') (sym names)
              (All-push (λ (e : E). caller e < get_or s.words 3 0) r.whole e r.callers (let given = number_given r id v.number v at pos stands in omega arith));
          behind = All-push (λ (e : E). 0 < caller e) r.added e r.behind (omega arith);
          shares = (let a = same_sum (λ (u : V). u.share) s.views id v w at refl in let b = r.shares in omega arith);
        },
        (e, refl, λ y out'. subst (λ (z : T). IsPrefix (v.seen ++ e ∷ []) (list z)) (ap (slot_value x) (sym out ∙ out')) (more, append_assoc v.seen (e ∷ []) more ∙ next)),
      )
    where
      false_unless : (b : Bool) → (b ≡ true → ⊥) → b ≡ false
      false_unless false never = refl
      false_unless true never = absurd (never refl)
