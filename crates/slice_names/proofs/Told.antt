-- Sets that are told the commits of remotes, and their names in order.
use Rattle.std.proofs.Common.{◌≡◌, ℕ, ◌+◌, ◌<◌, Bool, true, cond, List, [], ◌∷◌, ◌++◌, length, take, get_or, sym, ap, subst, inl, inr, ◌⊎◌, ⊎_elim, ◌∙◌, Option, Some, None}
use Rattle.std.specs.Prelude.{Contains, IsTrue, ◌↔◌}
use Rattle.std.specs.BTreeSet.{BTreeSet, contains}
use Rattle.std.specs.BTreeMap.{is_at}
use Rattle.std.specs.List.Sorted.{IsStrictlySortedBy}
use Rattle.std.proofs.lemmas.Bool.{cases_Bool}
use Rattle.std.proofs.lemmas.List.{take_more}
use Rattle.std.proofs.lemmas.List.Elements.{Contains-append_left, Contains-push, Contains-push_cases}
use Rattle.std.proofs.lemmas.Map.Views.{btree_set_contains_iff, tells_apart}
use Rattle.rad_base.specs.declared.names.Nid.{Nid}
use Rattle.rad_base.specs.declared.names.Oid.{Oid}
use Rattle.rad_base.specs.Order.{oid_cmp}
use Rattle.rad_base.proofs.NameOrder.{oid_exact, oid_total, equals_itself}
use Rattle.rad_base.proofs.Options.{some_is}
use Rattle.rad_base.proofs.Members.{contains_nothing}
use Rattle.repo_slice.specs.Keeps.{AreRisingNames}
use Rattle.slice_names.specs.Names.{AreTold}

-- nothing was told
pub told_none : (old : BTreeSet Oid) → AreTold old old []
told_none old oid = (λ h. inl h, λ h. ⊎_elim (λ a. a) (λ a. absurd (contains_nothing (a.0, oid) a.1)) h)

told_push : (old now new : BTreeSet Oid) (xs : List (Nid × Oid)) (x : Nid × Oid)
    → ((q : Oid) → contains oid_cmp new q ≡ cond (is_at (oid_cmp x.1) q) true (contains oid_cmp now q))
    → AreTold old now xs → AreTold old new (xs ++ x ∷ [])
told_push old now new xs x u h oid = (
  λ k. ⊎_elim
      (λ b. inr (x.0, subst (λ (o : Oid). Contains (xs ++ x ∷ []) (x.0, o)) (tells_apart oid_exact x.1 oid b) (Contains-push xs x)))
      (λ b. ⊎_elim (λ a. inl a) (λ a. inr (a.0, Contains-append_left xs (x ∷ []) (a.0, oid) a.1))
      ((h oid).0 (sym (u oid ∙ ap (λ (t : Bool). cond t true (contains oid_cmp now oid)) b) ∙ k)))
      (cases_Bool (is_at (oid_cmp x.1) oid)),
  λ k. ⊎_elim
      (λ b. u oid ∙ ap (λ (t : Bool). cond t true (contains oid_cmp now oid)) b)
      (λ b. u oid ∙ ap (λ (t : Bool). cond t true (contains oid_cmp now oid)) b ∙ (h oid).1 (⊎_elim (λ a. inl a)
      (λ a. ⊎_elim (λ c. inr (a.0, c))
      (λ c. let same : is_at (oid_cmp x.1) oid ≡ true = subst (λ (z : Oid). is_at (oid_cmp x.1) z ≡ true) (ap (λ (r : Nid × Oid). r.1) c) (equals_itself x.1.0) in
      absurd (cc (same, b)))
      (Contains-push_cases xs x (a.0, oid) a.1)) k))
      (cases_Bool (is_at (oid_cmp x.1) oid)),
)

-- one turn of a loop over the remotes
pub told_more : (old now new : BTreeSet Oid) (xs : List (Nid × Oid)) (i : ℕ) (d : Nid × Oid) → i < length xs
    → ((q : Oid) → contains oid_cmp new q ≡ cond (is_at (oid_cmp (get_or xs i d).1) q) true (contains oid_cmp now q))
    → AreTold old now (take i xs) → AreTold old new (take (i + 1) xs)
told_more old now new xs i d l u h =
    subst (λ (ys : List (Nid × Oid)). AreTold old new ys) (sym (take_more xs i d l)) (told_push old now new (take i xs) (get_or xs i d) u h)

-- names that are sorted rise
pub sorted_rise : (xs : List Oid) → IsStrictlySortedBy oid_cmp xs → AreRisingNames xs
unfolding IsStrictlySortedBy
sorted_rise [] s = tt
sorted_rise (x ∷ []) s = tt
sorted_rise (x ∷ y ∷ ys) s = (s.0.0, sorted_rise (y ∷ ys) s.1)

-- a set with one name more than none
pub one_has : (old new : BTreeSet Oid) (id : Oid) → old.keys ≡ [] → ((q : Oid) → contains oid_cmp new q ≡ cond (is_at (oid_cmp id) q) true (contains oid_cmp old q))
    → (oid : Oid) → IsTrue (contains oid_cmp new oid) ↔ (id ≡ oid)
one_has old new id empty u oid = (
  λ k. ⊎_elim
      (λ b. tells_apart oid_exact id oid b)
      (λ b.
      let there : IsTrue (contains oid_cmp old oid) = sym (u oid ∙ ap (λ (t : Bool). cond t true (contains oid_cmp old oid)) b) ∙ k in
      absurd (contains_nothing oid (subst (λ (xs : List Oid). Contains xs oid) empty ((btree_set_contains_iff oid_total oid_exact old oid).0 there))))
      (cases_Bool (is_at (oid_cmp id) oid)),
  λ e.
      let same : is_at (oid_cmp id) oid ≡ true = subst (λ (z : Oid). is_at (oid_cmp id) z ≡ true) e (equals_itself id.0) in
      u oid ∙ ap (λ (t : Bool). cond t true (contains oid_cmp old oid)) same,
)

-- a set with no name
pub none_has : (set : BTreeSet Oid) → set.keys ≡ [] → (oid : Oid) → IsTrue (contains oid_cmp set oid) ↔ (None ≡ Some oid)
none_has set empty oid = (
  λ k. absurd (contains_nothing oid (subst (λ (xs : List Oid). Contains xs oid) empty ((btree_set_contains_iff oid_total oid_exact set oid).0 k))),
  λ e. absurd (no_name oid e),
)
  where
    no_name : (x : Oid) → None ≡ Some x → ⊥
    no_name x e = cc e

-- a set with one name
pub some_has : (set : BTreeSet Oid) (id : Oid) → ((oid : Oid) → IsTrue (contains oid_cmp set oid) ↔ (id ≡ oid))
    → (oid : Oid) → IsTrue (contains oid_cmp set oid) ↔ (Some id ≡ Some oid)
some_has set id h oid = (λ k. ap Some ((h oid).0 k), λ e. (h oid).1 (some_is id oid e))

-- the names of a set, in their order
pub names_are : (id : Option Oid) (old new : BTreeSet Oid) (remotes : List (Nid × Oid)) (items : List Oid) → items ≡ new.keys
    → ((oid : Oid) → IsTrue (contains oid_cmp old oid) ↔ (id ≡ Some oid)) → AreTold old new remotes
    → (oid : Oid) → Contains items oid ↔ ((id ≡ Some oid) ⊎ ((node : Nid) × Contains remotes (node, oid)))
names_are id old new remotes items e first told oid =
    let now = btree_set_contains_iff oid_total oid_exact new oid in (
      λ c. ⊎_elim (λ a. inl ((first oid).0 a)) (λ a. inr a) ((told oid).0 (now.1 (subst (λ (xs : List Oid). Contains xs oid) e c))),
      λ h. subst (λ (xs : List Oid). Contains xs oid) (sym e) (now.0 ((told oid).1 (⊎_elim (λ a. inl ((first oid).1 a)) (λ a. inr a) h))),
    )
