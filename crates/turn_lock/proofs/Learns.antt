-- What a joined pass had seen is found to begin what is seen.
use Rattle.std.proofs.Common.{◌≡◌, ℕ, ◌+◌, ◌<◌, List, [], set, Option, Some, sym, refl, ap, ◌∙◌, subst, arith}
use Rattle.std.proofs.lemmas.List.{set-get_or}
use mathlib.Core.Option.{none, some}
use lib.ListN.{get_elem?}
use Rattle.atomic_table.specs.Table.{State, Me, step, keeps, Allows}
use Rattle.rad_base.proofs.Prefixes.{prefix_shorter}
use Rattle.turn_lock.specs.declared.view.View.{View}
use Rattle.turn_lock.specs.Views.{one_if_some, numbers_of, times, spent_view}
use Rattle.turn_lock.specs.Rule.{Knows, IsInTurn}
use Rattle.turn_lock.specs.Steps.{learned}
use Rattle.turn_lock.proofs.Sums.{same_sum, each_set, unique_set, still}
use Rattle.turn_lock.proofs.Keeps.{each_same}

module _ {T E C : Type 0} (list : T → List E) (constants : T → C) (caller : E → ℕ) (base : List E) (fixed : C) where
  abbrev V : Type 0
  V = View E C

  abbrev Rule : State (Option T) V → Type 0
  Rule = IsInTurn list constants caller base fixed

  -- the rule after the view v forgets what it was told
  told_after : (s : State (Option T) V) (r : Rule s) (id : ℕ) (v : V) → get_elem? s.views id ≡ some v → 0 < v.share
      → Rule record { words = s.words; homes = s.homes; views = set s.views id (record v { told = [] }) }
  told_after s r id v at live =
      let k = r.each id v at live in
      let w : V = record v { told = [] } in record {
        wide = r.wide;
        deep = r.deep;
        whole = r.whole;
        added = r.added;
        grown = r.grown;
        counted = r.counted;
        longest = (let l = r.longest in let t = still (λ (u : V). (0 < u.share) × (u.seen ≡ r.whole)) s.views id v w at (λ q. q) l.0 (l.1, l.2, (l.3, l.4)) in (l.0, t.0, t.1, t.2.0, t.2.1));
        drawn = r.drawn;
        served = r.served;
        drawn_word = r.drawn_word;
        served_word = r.served_word;
        waiting = (let a = same_sum (λ (u : V). one_if_some u.ticket) s.views id v w at refl in let b = r.waiting in omega arith);
        apart = unique_set (λ (u : V) n. u.ticket ≡ Some n) s.views id w r.apart (λ j u n far a my theirs. far (r.apart j id u v n a at theirs my));
        at_home = λ all. r.at_home (each_same s.views id v w at all refl);
        each = each_set (λ j u. 0 < u.share → Knows caller fixed r.whole r.served r.drawn u) s.views id w
            (λ _. record { constants = k.constants; seen = k.seen; told = (r.whole, refl); ticket = k.ticket; called = k.called; made = k.made; unnamed = k.unnamed })
            (λ j u _ a l. r.each j u a l);
        spent = each_set (λ j u. u.share ≡ 0 → u ≡ spent_view) s.views id w (λ z. absurd (omega arith)) (λ j u _ a. r.spent j u a);
        once = λ n pos. same_sum (times n) s.views id v w at refl ∙ r.once n pos;
        numbers = ap (λ (z : ℕ). z + 1) (same_sum numbers_of s.views id v w at refl) ∙ r.numbers;
        callers = r.callers;
        behind = r.behind;
        shares = (let a = same_sum (λ (u : V). u.share) s.views id v w at refl in let b = r.shares in omega arith);
      }

  -- a look at the count keeps the rule. Both lists begin the whole, so the shorter begins the longer
  pub learns : (slots id : ℕ) (me : Me (Option T) V) → 0 < me.0.share → Allows Rule slots id me 2 (λ n. n) (learned (step slots 2 0 0 none) me)
  learns slots id me live s r deep at small =
      let v : V = me.0 in
      let k = r.each id v at live in (
        record v { told = [] },
        keeps,
        tt,
        subst (λ (ws : List ℕ). Rule record { words = ws; homes = s.homes; views = set s.views id (record v { told = [] }) }) (sym (set-get_or s.words 2 0)) (told_after s r id v at live),
        (refl, λ le. prefix_shorter v.told v.seen r.whole k.told k.seen le),
      )
