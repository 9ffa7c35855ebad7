-- A pass is cut in two.
use Rattle.std.proofs.Common.{◌≡◌, ℕ, ◌<◌, List, [], ◌∷◌, set, Some, refl, ap, ◌∙◌, ⊎_elim, arith}
use Rattle.std.proofs.lemmas.Bool.{false≢true}
use Rattle.std.proofs.lemmas.List.Sums.{sum_by_push}
use Rattle.std.proofs.lemmas.List.Elements.{All-nil}
use mathlib.Core.Option.{some}
use lib.ListN.{get_elem?}
use Rattle.atomic_table.specs.Table.{Splits}
use Rattle.atomic_table.proofs.Lists.{at_longer, at_snoc}
use Rattle.turn_lock.specs.declared.view.View.{View}
use Rattle.turn_lock.specs.declared.view.Made.{Made}
use Rattle.turn_lock.specs.Views.{one_if_some, made_by, numbers_of, times, spent_view, rest_of, part_of}
use Rattle.turn_lock.specs.Rule.{Knows, IsInTurn}
use Rattle.turn_lock.proofs.Sums.{sum_set, same_sum, each_set, each_snoc, unique_set, still}
use Rattle.turn_lock.proofs.Keeps.{none_some, each_same}

module _ {T E C : Type 0} (list : T → List E) (constants : T → C) (caller : E → ℕ) (base : List E) (fixed : C) where
  abbrev V : Type 0
  V = View E C

  -- what is cut off knows what was seen
  part_knows : {whole : List E} {served drawn : ℕ} (part : ℕ) (v : V) → Knows caller fixed whole served drawn v → Knows caller fixed whole served drawn (part_of part v)
  part_knows {whole} part v k = record {
    constants = k.constants;
    seen = k.seen;
    told = (whole, refl);
    ticket = λ t e. absurd (none_some t e);
    called = λ c. absurd (false≢true c);
    made = All-nil (λ (m : Made E). (0 < m.number) × (made_by caller m.number whole ≡ m.entries));
    unnamed = λ _. refl;
  }

  -- the rest knows what the whole did
  rest_knows : {whole : List E} {served drawn : ℕ} (part : ℕ) (v : V) → Knows caller fixed whole served drawn v → Knows caller fixed whole served drawn (rest_of part v)
  rest_knows part v k = record { constants = k.constants; seen = k.seen; told = k.told; ticket = k.ticket; called = k.called; made = k.made; unnamed = k.unnamed }

  -- a cut keeps the rule
  pub splits : (id part : ℕ) (v : V) → 0 < part → part < v.share → Splits (IsInTurn list constants caller base fixed) id v (rest_of part v) (part_of part v)
  splits id part v positive less s r at =
      let left : V = rest_of part v in
      let right : V = part_of part v in
      let vs : List V = set s.views id left in
      let k = r.each id v at (omega arith) in record {
        wide = r.wide;
        deep = r.deep;
        whole = r.whole;
        added = r.added;
        grown = r.grown;
        counted = r.counted;
        longest = (let l = r.longest in let t = still (λ (u : V). (0 < u.share) × (u.seen ≡ r.whole)) s.views id v left at (λ q. (omega arith, q.1)) l.0 (l.1, l.2, (l.3, l.4)) in
            (l.0, t.0, at_longer vs (right ∷ []) l.0 t.0 t.1, t.2.0, t.2.1));
        drawn = r.drawn;
        served = r.served;
        drawn_word = r.drawn_word;
        served_word = r.served_word;
        waiting = (let a = sum_set (λ (u : V). one_if_some u.ticket) s.views id v left at in let b = r.waiting in omega (arith, sum_by_push (λ (u : V). one_if_some u.ticket) vs right));
        apart = λ i j u y t a b p q. ⊎_elim
            (λ (a' : get_elem? vs i ≡ some u). ⊎_elim
            (λ (b' : get_elem? vs j ≡ some y). unique_set (λ (z : V) n. z.ticket ≡ Some n) s.views id left r.apart (λ n z m far c mine theirs. far (r.apart n id z v m c at theirs mine)) i j u y t a' b' p q)
            (λ (e : right ≡ y). absurd (none_some t (ap (λ (z : V). z.ticket) e ∙ q))) (at_snoc vs right y j b))
            (λ (e : right ≡ u). absurd (none_some t (ap (λ (z : V). z.ticket) e ∙ p))) (at_snoc vs right u i a);
        at_home = λ all. r.at_home (each_same s.views id v left at (λ j u a. all j u (at_longer vs (right ∷ []) j u a)) refl);
        each = each_snoc (λ j u. 0 < u.share → Knows caller fixed r.whole r.served r.drawn u) vs right (λ j l. part_knows part v k)
            (each_set (λ j u. 0 < u.share → Knows caller fixed r.whole r.served r.drawn u) s.views id left (λ _. rest_knows part v k) (λ j u _ a l. r.each j u a l));
        spent = each_snoc (λ j u. u.share ≡ 0 → u ≡ spent_view) vs right (λ j z. absurd (omega arith))
            (each_set (λ j u. u.share ≡ 0 → u ≡ spent_view) s.views id left (λ z. absurd (omega arith)) (λ j u _ a. r.spent j u a));
        once = λ n pos. sum_by_push (times n) vs right ∙ (let a = same_sum (times n) s.views id v left at refl in let b = r.once n pos in omega arith);
        numbers = (let a = same_sum numbers_of s.views id v left at refl in let b = r.numbers in omega (arith, sum_by_push numbers_of vs right));
        callers = r.callers;
        behind = r.behind;
        shares = (let a = sum_set (λ (u : V). u.share) s.views id v left at in let b = r.shares in omega (arith, sum_by_push (λ (u : V). u.share) vs right));
      }
