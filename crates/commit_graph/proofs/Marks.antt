-- Marks beside a list without repeats.
use Rattle.std.proofs.Common.{◌≡◌, Bool, true, false, cond, ◌||◌, List, [], ◌∷◌, ◌++◌, refl, sym, ap, subst, inl, inr, ⊎_elim, ◌∙◌}
use Rattle.std.specs.Prelude.{Contains, not, ◌↔◌, ◌≢◌}
use Rattle.std.specs.declared.cmp.Ordering.{Ordering}
use Rattle.std.specs.Ordering.{eq_by_cmp}
use Rattle.std.specs.Cmp.{IsTotalOrder}
use Rattle.std.proofs.lemmas.Cmp.{eq_by_cmp_equiv}
use Rattle.std.specs.List.{list_any, IsDistinct, AllByRecursion}
use Rattle.std.specs.BTreeSet.{BTreeSet, contains, Updates, IsEmpty}
use Rattle.std.proofs.lemmas.Bool.{cases_Bool, false≢true}
use Rattle.std.proofs.lemmas.List.Folds.{list_any-append}
use Rattle.std.proofs.lemmas.Map.Keys.{IsDistinct-push}
use Rattle.std.proofs.lemmas.Map.Lookups.{CmpEqualImpliesEq}
use Rattle.std.proofs.lemmas.Map.Views.{Contains-from_any, list_any-from_Contains, tells_apart}
use Rattle.rad_base.specs.Lists.{AllDiffer}
use Rattle.commit_graph.specs.Lists.{IsMarked, Adds}

pub marked_none : {X : Type 0} (cmp : X → X → Ordering) (marks : BTreeSet X) (items : List X)
    → IsEmpty marks → items ≡ [] → IsMarked cmp marks items
unfolding IsDistinct
marked_none cmp marks items e f = record {
  same = λ x. rw (e, f) refl;
  distinct = rw f tt;
}

or_cond : (a b : Bool) → cond a true b ≡ (b || (a || false))
or_cond true true = refl
or_cond true false = refl
or_cond false true = refl
or_cond false false = refl

pub marked_push : {X : Type 0} {cmp : X → X → Ordering} → IsTotalOrder cmp
    → (marks marks' : BTreeSet X) (items : List X) (x : X) → Updates cmp marks marks' x true
    → contains cmp marks x ≡ false → IsMarked cmp marks items
    → IsMarked cmp marks' (items ++ x ∷ [])
marked_push {X} {cmp} o marks marks' items x u fresh h = record {
  same = λ q. u.0 q ∙ ap (cond (eq_by_cmp cmp x q) true) (h.same q) ∙ or_cond (eq_by_cmp cmp x q) (list_any (eq_by_cmp cmp q) items)
      ∙ ap (λ b. list_any (eq_by_cmp cmp q) items || (b || false)) ((eq_by_cmp_equiv o).symm x q)
      ∙ sym (list_any-append (eq_by_cmp cmp q) items (x ∷ []));
  distinct = IsDistinct-push (eq_by_cmp_equiv o) items x h.distinct (sym (h.same x) ∙ fresh);
}

differ_each : {X : Type 0} (eq : X → X → Bool) → ((y : X) → eq y y ≡ true) → (x : X) (xs : List X)
    → AllByRecursion (λ y. eq x y ≡ false) xs → AllByRecursion (λ y. x ≢ y) xs
differ_each eq itself x [] h = tt
differ_each {X} eq itself x (y ∷ ys) h = (
  λ e. false≢true (sym h.0 ∙ subst (λ (z : X). eq x z ≡ true) e (itself x)),
  differ_each eq itself x ys h.1,
)

-- items that are apart by their order differ
pub marked_differ : {X : Type 0} {cmp : X → X → Ordering} → IsTotalOrder cmp → (items : List X)
    → IsDistinct (eq_by_cmp cmp) items → AllDiffer items
unfolding IsDistinct
marked_differ o [] h = tt
marked_differ {X} {cmp} o (x ∷ xs) h = (differ_each (eq_by_cmp cmp) (eq_by_cmp_equiv o).refl x xs h.0, marked_differ o xs h.1)

-- a mark that was new and was taken back leaves the marks as they were
pub marked_back : {X : Type 0} {cmp : X → X → Ordering} → CmpEqualImpliesEq cmp
    → (marks marks' marks'' : BTreeSet X) (items : List X) (x : X) → Updates cmp marks marks' x true
    → Updates cmp marks' marks'' x false → contains cmp marks x ≡ false → IsMarked cmp marks items
    → IsMarked cmp marks'' items
marked_back {X} {cmp} exact marks marks' marks'' items x u v fresh h = record {
  same = λ q. v.0 q ∙ ⊎_elim
      (λ b. ap (λ (t : Bool). cond t false (contains cmp marks' q)) b ∙ sym fresh ∙ ap (contains cmp marks) (tells_apart exact x q b) ∙ h.same q)
      (λ b. ap (λ (t : Bool). cond t false (contains cmp marks' q)) b ∙ u.0 q ∙ ap (λ (t : Bool). cond t true (contains cmp marks q)) b ∙ h.same q)
      (cases_Bool (eq_by_cmp cmp x q));
  distinct = h.distinct;
}

-- what was not added anew was there
pub not_new : (there added : Bool) → added ≡ not there → added ≡ false → there ≡ true
not_new true added e f = refl
not_new false added e f = cc (e, f)

-- what was added anew was not there
pub new_fresh : (there added : Bool) → added ≡ not there → added ≡ true → there ≡ false
new_fresh true added e f = cc (e, f)
new_fresh false added e f = refl

pub marked_has : {X : Type 0} {cmp : X → X → Ordering} → CmpEqualImpliesEq cmp
    → (marks : BTreeSet X) (items : List X) (x : X) → contains cmp marks x ≡ true
    → IsMarked cmp marks items → Contains items x
marked_has {X} {cmp} exact marks items x e h = Contains-from_any (tells_apart exact) x items (sym (h.same x) ∙ e)

pub marked_lacks : {X : Type 0} {cmp : X → X → Ordering} → IsTotalOrder cmp
    → (marks : BTreeSet X) (items : List X) (x : X) → contains cmp marks x ≡ false
    → IsMarked cmp marks items → Contains items x → ⊥
marked_lacks {X} {cmp} o marks items x e h k = false≢true (sym e ∙ h.same x ∙ list_any-from_Contains (eq_by_cmp_equiv o) x items k)

pub adds_old : {X : Type 0} {items old new : List X} {x : X} → items ≡ old → new ≡ old
    → Contains items x → Adds old x new
adds_old {X} {items} {old} {new} {x} e f h = inl (subst (λ (xs : List X). Contains xs x) e h, f)

pub adds_new : {X : Type 0} {items old new : List X} {x : X} → items ≡ old → new ≡ items ++ x ∷ []
    → (Contains items x → ⊥) → Adds old x new
adds_new {X} {items} {old} {new} {x} e f h =
    inr (subst (λ (xs : List X). Contains xs x → ⊥) e h, f ∙ ap (λ (xs : List X). xs ++ x ∷ []) e)

pub marked_iff : {X : Type 0} {cmp : X → X → Ordering} → IsTotalOrder cmp → CmpEqualImpliesEq cmp
    → (marks : BTreeSet X) (items shown : List X) (x : X) (r : Bool) → r ≡ contains cmp marks x
    → items ≡ shown → IsMarked cmp marks items → (r ≡ true) ↔ Contains shown x
marked_iff {X} {cmp} o exact marks items shown x r e f h = (
  λ t. subst (λ (xs : List X). Contains xs x) f (marked_has exact marks items x (sym e ∙ t) h),
  λ k. e ∙ h.same x ∙ list_any-from_Contains (eq_by_cmp_equiv o) x items (subst (λ (xs : List X). Contains xs x) (sym f) k),
)
