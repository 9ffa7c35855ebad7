-- A set that is told the names of pairs, and its names in order.
use Rattle.std.proofs.Common.{◌≡◌, ℕ, ◌+◌, ◌<◌, Bool, true, cond, List, [], ◌∷◌, ◌++◌, length, take, drop, get_or, sym, ap, subst, inl, inr, ◌⊎◌, ⊎_elim, ◌∙◌}
use Rattle.std.specs.Prelude.{Contains, IsTrue, ◌↔◌}
use Rattle.std.specs.BTreeSet.{BTreeSet, contains, IsOrdered}
use Rattle.std.specs.BTreeMap.{is_at}
use Rattle.std.specs.List.Sorted.{IsStrictlySortedBy}
use Rattle.std.proofs.lemmas.Bool.{cases_Bool}
use Rattle.std.proofs.lemmas.List.{take_more, take-append-drop}
use Rattle.std.proofs.lemmas.List.Elements.{Contains-append_left, Contains-push, Contains-push_cases}
use Rattle.std.proofs.lemmas.Map.Views.{tells_apart, btree_set_contains_iff}
use Rattle.rad_base.specs.declared.names.Oid.{Oid}
use Rattle.rad_base.specs.Order.{oid_cmp}
use Rattle.rad_base.proofs.NameOrder.{oid_total, oid_exact, equals_itself}
use Rattle.rad_base.proofs.Members.{contains_nothing}
use Rattle.commit_graph.specs.declared.root.Root.{Root}
use Rattle.commit_graph.specs.Objects.{ObjectMap}
use Rattle.commit_graph.specs.Closures.{HasName, IsReached, IsReachedName}

-- the new set has the names of the old one and those of the pairs
abbrev pub IsTold : BTreeSet Oid → BTreeSet Oid → List Root → Type 0
IsTold old new pairs = (oid : Oid) → IsTrue (contains oid_cmp new oid) ↔ (IsTrue (contains oid_cmp old oid) ⊎ HasName pairs oid)

-- no pair was told
pub told_none : (old : BTreeSet Oid) → IsTold old old []
told_none old oid = (λ h. inl h, λ h. ⊎_elim (λ a. a) (λ a. absurd (contains_nothing a.0 a.1)) h)

told_push : (old now new : BTreeSet Oid) (pairs : List Root) (x : Root)
    → ((q : Oid) → contains oid_cmp new q ≡ cond (is_at (oid_cmp x.oid) q) true (contains oid_cmp now q))
    → IsTold old now pairs → IsTold old new (pairs ++ x ∷ [])
told_push old now new pairs x u h oid = (
  λ k. ⊎_elim
      (λ b. inr (x, Contains-push pairs x, tells_apart oid_exact x.oid oid b))
      (λ b. ⊎_elim (λ a. inl a) (λ a. inr (a.0, Contains-append_left pairs (x ∷ []) a.0 a.1, a.2))
      ((h oid).0 (sym (u oid ∙ ap (λ (t : Bool). cond t true (contains oid_cmp now oid)) b) ∙ k)))
      (cases_Bool (is_at (oid_cmp x.oid) oid)),
  λ k. ⊎_elim
      (λ b. u oid ∙ ap (λ (t : Bool). cond t true (contains oid_cmp now oid)) b)
      (λ b. u oid ∙ ap (λ (t : Bool). cond t true (contains oid_cmp now oid)) b ∙ (h oid).1 (⊎_elim (λ a. inl a)
      (λ a. ⊎_elim (λ c. inr (a.0, c, a.2))
      (λ c. let same : is_at (oid_cmp x.oid) oid ≡ true = subst (λ (z : Oid). is_at (oid_cmp x.oid) z ≡ true) (ap (λ (r : Root). r.oid) c ∙ a.2) (equals_itself x.oid.0) in
      absurd (cc (same, b)))
      (Contains-push_cases pairs x a.0 a.1)) k))
      (cases_Bool (is_at (oid_cmp x.oid) oid)),
)

-- one turn of a loop over the pairs
pub told_more : (old now new : BTreeSet Oid) (pairs : List Root) (i : ℕ) (d : Root)
    → i < length pairs
    → ((q : Oid) → contains oid_cmp new q ≡ cond (is_at (oid_cmp (get_or pairs i d).oid) q) true (contains oid_cmp now q))
    → IsTold old now (take i pairs) → IsTold old new (take (i + 1) pairs)
told_more old now new pairs i d l u h =
    subst (λ (xs : List Root). IsTold old new xs) (sym (take_more pairs i d l)) (told_push old now new (take i pairs) (get_or pairs i d) u h)

-- names of the first pairs are names of the pairs
pub has_taken : {T : Type 0} (pairs : List Root) (i : ℕ) (oid : Oid) → T ⊎ HasName (take i pairs) oid
    → T ⊎ HasName pairs oid
has_taken pairs i oid (inl a) = inl a
has_taken pairs i oid (inr h) =
    inr (h.0, subst (λ (xs : List Root). Contains xs h.0) (take-append-drop i pairs) (Contains-append_left (take i pairs) (drop i pairs) h.0 h.1), h.2)

-- the keys of a set rise
pub keys_rise : (set : BTreeSet Oid) (items : List Oid) → items ≡ set.keys → IsOrdered oid_cmp set
    → IsStrictlySortedBy oid_cmp items
keys_rise set items e o = subst (IsStrictlySortedBy oid_cmp) (sym e) o

-- the keys of a set that began empty are the names of the pairs
pub keys_are : (old set : BTreeSet Oid) (items : List Oid) (pairs : List Root) → old.keys ≡ []
    → items ≡ set.keys
    → ((oid : Oid) → IsTrue (contains oid_cmp set oid) → IsTrue (contains oid_cmp old oid) ⊎ HasName pairs oid)
    → ((oid : Oid) → HasName pairs oid → IsTrue (contains oid_cmp set oid)) → (oid : Oid)
    → Contains items oid ↔ HasName pairs oid
keys_are old set items pairs empty e only all oid =
    let now = btree_set_contains_iff oid_total oid_exact set oid in
    let before = btree_set_contains_iff oid_total oid_exact old oid in (
      λ c. ⊎_elim (λ a. absurd (contains_nothing oid (subst (λ (xs : List Oid). Contains xs oid) empty (before.0 a)))) (λ a. a)
          (only oid (now.1 (subst (λ (xs : List Oid). Contains xs oid) e c))),
      λ h. subst (λ (xs : List Oid). Contains xs oid) (sym e) (now.0 (all oid h)),
    )

-- the names of the pairs that are found are the names that are reached
pub reached_names : (m : ObjectMap) (roots found pairs : List Root) (oid : Oid) → pairs ≡ found
    → ((pair : Root) → Contains found pair ↔ IsReached m roots pair)
    → HasName pairs oid ↔ IsReachedName m roots oid
reached_names m roots found pairs oid e h = (
  λ a. record { pair = a.0; reached = (h a.0).0 (subst (λ (xs : List Root). Contains xs a.0) e a.1); name = a.2 },
  λ a. (a.pair, subst (λ (xs : List Root). Contains xs a.pair) (sym e) ((h a.pair).1 a.reached), a.name),
)
