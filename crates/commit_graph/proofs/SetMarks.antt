-- Marks that are set where there are none.
use Rattle.std.proofs.Common.{◌≡◌, ℕ, ◌+◌, ◌<◌, length, take, get_or, Bool, true, false, cond, Option, Some, None, List, [], ◌∷◌, ◌++◌, refl, sym, ap, subst, inl, inr, ⊎_elim, ◌∙◌, append-nil, append_assoc}
use Rattle.std.specs.Prelude.{Contains}
use Rattle.std.specs.Option.{is_some}
use Rattle.std.specs.BTreeMap.{is_at}
use Rattle.std.proofs.lemmas.Bool.{cases_Bool}
use Rattle.std.proofs.lemmas.List.{take_more}
use Rattle.std.proofs.lemmas.List.Elements.{Contains-push, Contains-push_cases, Contains-append_left, Contains-append_right, Contains-append_cases}
use Rattle.std.proofs.lemmas.Map.Views.{tells_apart}
use Rattle.std.proofs.lemmas.Cmp.{eq_by_cmp_equiv}
use Rattle.rad_base.specs.declared.names.Oid.{Oid}
use Rattle.rad_base.proofs.Members.{contains_nothing}
use Rattle.rad_base.proofs.Options.{not_nothing, some_is}
use Rattle.commit_graph.specs.declared.root.Root.{Root}
use Rattle.commit_graph.specs.declared.marked.Marks.{Marks}
use Rattle.commit_graph.specs.Marking.{mark_in, queue_in, MarksAll}
use Rattle.commit_graph.proofs.PairOrder.{pair_cmp, pair_exact, pair_total}

has_value : (o : Option Oid) → is_some o ≡ true → (x : Oid) × (o ≡ Some x)
has_value (Some x) e = (x, refl)
has_value None e = cc e

has_none : (o : Option Oid) → is_some o ≡ false → o ≡ None
has_none (Some x) e = cc e
has_none None e = refl

-- the pair has a mark
pub marks_there : (old : Marks) (pair : Root) (oid : Oid) → is_some (mark_in old pair) ≡ true → MarksAll old (pair ∷ []) oid old
marks_there old pair oid e = record {
  kept = λ p o h. h;
  all = λ p c. ⊎_elim
      (λ a. absurd (contains_nothing p a))
      (λ a. let m = has_value (mark_in old pair) e in (m.0, subst (λ (x : Root). mark_in old x ≡ Some m.0) a m.1))
      (Contains-push_cases [] pair p c);
  only = λ p o h. inl h;
  more = [];
  queued = sym (append-nil (queue_in old));
  added = λ p c. absurd (contains_nothing p c);
  each = λ p o h. inl h;
}

module _ (old new : Marks) (pair : Root) (oid : Oid) (fresh : is_some (mark_in old pair) ≡ false)
    (names : (q : Root) → mark_in new q ≡ cond (is_at (pair_cmp pair) q) (Some oid) (mark_in old q))
    (queue : queue_in new ≡ queue_in old ++ pair ∷ []) where
  is_pair : (q : Root) → is_at (pair_cmp pair) q ≡ true → pair ≡ q
  is_pair q b = tells_apart pair_exact pair q b

  at_pair : (q : Root) → is_at (pair_cmp pair) q ≡ true → mark_in new q ≡ Some oid
  at_pair q b = names q ∙ ap (λ (t : Bool). cond t (Some oid) (mark_in old q)) b

  off_pair : (q : Root) → is_at (pair_cmp pair) q ≡ false → mark_in new q ≡ mark_in old q
  off_pair q b = names q ∙ ap (λ (t : Bool). cond t (Some oid) (mark_in old q)) b

  none_at : (q : Root) → is_at (pair_cmp pair) q ≡ true → mark_in old q ≡ None
  none_at q b = subst (λ (x : Root). mark_in old x ≡ None) (is_pair q b) (has_none (mark_in old pair) fresh)

  new_at : (q : Root) → pair ≡ q → mark_in new q ≡ Some oid
  new_at q a = subst (λ (x : Root). mark_in new x ≡ Some oid) a (at_pair pair ((eq_by_cmp_equiv pair_total).refl pair))

  pub marks_added : MarksAll old (pair ∷ []) oid new
  marks_added = record {
    kept = λ p o h. ⊎_elim (λ b. absurd (not_nothing h (none_at p b))) (λ b. off_pair p b ∙ h) (cases_Bool (is_at (pair_cmp pair) p));
    all = λ p c. ⊎_elim (λ a. absurd (contains_nothing p a)) (λ a. (oid, new_at p a)) (Contains-push_cases [] pair p c);
    only = λ p o h. ⊎_elim
        (λ b. inr (subst (λ (x : Root). Contains (pair ∷ []) x) (is_pair p b) (Contains-push [] pair), some_is o oid (sym h ∙ at_pair p b)))
        (λ b. inl (sym (off_pair p b) ∙ h)) (cases_Bool (is_at (pair_cmp pair) p));
    more = pair ∷ [];
    queued = queue;
    added = λ p c. ⊎_elim (λ a. absurd (contains_nothing p a)) (λ a. new_at p a) (Contains-push_cases [] pair p c);
    each = λ p o h. ⊎_elim
        (λ b. inr (subst (λ (x : Root). Contains (pair ∷ []) x) (is_pair p b) (Contains-push [] pair)))
        (λ b. inl (sym (off_pair p b) ∙ h)) (cases_Bool (is_at (pair_cmp pair) p));
  }

-- nothing is marked
pub marks_none : (old : Marks) (oid : Oid) → MarksAll old [] oid old
marks_none old oid = record {
  kept = λ p o h. h;
  all = λ p c. absurd (contains_nothing p c);
  only = λ p o h. inl h;
  more = [];
  queued = sym (append-nil (queue_in old));
  added = λ p c. absurd (contains_nothing p c);
  each = λ p o h. inl h;
}

-- one more pair is marked
marks_push : (old cur new : Marks) (pairs : List Root) (x : Root) (oid : Oid)
    → MarksAll old pairs oid cur → MarksAll cur (x ∷ []) oid new → MarksAll old (pairs ++ x ∷ []) oid new
marks_push old cur new pairs x oid h g = record {
  kept = λ p o e. g.kept p o (h.kept p o e);
  all = λ p c. ⊎_elim (λ a. let m = h.all p a in (m.0, g.kept p m.0 m.1)) (λ a. g.all p a) (Contains-append_cases pairs (x ∷ []) p c);
  only = λ p o e. ⊎_elim
      (λ a. ⊎_elim (λ b. inl b) (λ b. inr (Contains-append_left pairs (x ∷ []) p b.0, b.1)) (h.only p o a))
      (λ a. inr (Contains-append_right pairs (x ∷ []) p a.0, a.1)) (g.only p o e);
  more = h.more ++ g.more;
  queued = g.queued ∙ ap (λ (ys : List Root). ys ++ g.more) h.queued ∙ append_assoc (queue_in old) h.more g.more;
  added = λ p c. ⊎_elim (λ a. g.kept p oid (h.added p a)) (λ a. g.added p a) (Contains-append_cases h.more g.more p c);
  each = λ p o e. ⊎_elim
      (λ a. ⊎_elim (λ b. inl b) (λ b. inr (Contains-append_left h.more g.more p b)) (h.each p o a))
      (λ a. inr (Contains-append_right h.more g.more p a)) (g.each p o e);
}

-- one turn of a loop over the pairs
pub marks_more : (old cur new : Marks) (pairs : List Root) (i : ℕ) (d : Root) (oid : Oid) → i < length pairs → MarksAll old (take i pairs) oid cur
    → MarksAll cur (get_or pairs i d ∷ []) oid new → MarksAll old (take (i + 1) pairs) oid new
marks_more old cur new pairs i d oid l h g =
    subst (λ (ys : List Root). MarksAll old ys oid new) (sym (take_more pairs i d l)) (marks_push old cur new (take i pairs) (get_or pairs i d) oid h g)
