-- Remotes whose keys rise, and what a look at them finds.
use Rattle.std.proofs.Common.{◌≡◌, ℕ, zero, suc, take, Bool, true, false, cond, List, [], ◌∷◌, Some, refl, sym, ap, subst, ⊎_elim, ◌∙◌}
use Rattle.std.specs.Prelude.{Contains, map, slice_get}
use Rattle.std.specs.BTreeMap.{is_at}
use Rattle.std.specs.declared.cmp.Ordering.TheVariants.{Less}
use Rattle.rad_base.specs.declared.names.Nid.{Nid}
use Rattle.rad_base.specs.declared.names.Oid.{Oid}
use Rattle.rad_base.specs.Lists.{AllDiffer}
use Rattle.rad_base.specs.Order.{IsAbove, IsRising, commit_of, nid_cmp, node_of}
use Rattle.rad_base.proofs.EachItem.{others_from}
use Rattle.rad_base.proofs.Members.{contains_at, contains_cases, contains_head, contains_nothing, contains_tail, map_from}
use Rattle.rad_base.proofs.NameOrder.{apart, equal_from_is_eq, equals_itself, nid_exact, nid_total, not_below_itself}
use Rattle.rad_base.proofs.Options.{some_is}
use Rattle.rad_base.proofs.Rising.{rises_below, rises_tail}

-- what is found is among the remotes
pub found_among : (xs : List (Nid × Oid)) (node : Nid) (commit : Oid) → commit_of xs node ≡ Some commit → Contains xs (node, commit)
found_among [] node commit e = cc e
found_among (x ∷ xs) node commit e = by_first (λ (h : commit_of xs node ≡ Some commit). found_among xs node commit h) (is_at (nid_cmp node) x.0) refl
  where
    by_first : (commit_of xs node ≡ Some commit → Contains xs (node, commit)) → (b : Bool) → is_at (nid_cmp node) x.0 ≡ b → Contains (x ∷ xs) (node, commit)
    by_first later true h =
        let same : node ≡ x.0 = nid_exact node x.0 (equal_from_is_eq _ h) in
        let value : x.1 ≡ commit = some_is x.1 commit (sym (ap (λ (b : Bool). cond b (Some x.1) (commit_of xs node)) h) ∙ e) in
        let whole : x ≡ (node, commit) = (λ i. (sym same i, value i)) in
        subst (Contains (x ∷ xs)) whole (contains_head x xs)
    by_first later false h = contains_tail x xs (node, commit) (later (sym (ap (λ (b : Bool). cond b (Some x.1) (commit_of xs node)) h) ∙ e))

-- the first is below all others
pub below_all : (x : Nid × Oid) (xs : List (Nid × Oid)) → IsRising (x ∷ xs) → (y : Nid × Oid) → Contains xs y → nid_cmp x.0 y.0 ≡ Less
below_all x xs rising = rises_below node_of nid_cmp nid_total x xs rising

-- keys of which one is below the other are two
below_differs : (a b : Nid) → nid_cmp a b ≡ Less → a ≡ b → ⊥
below_differs a b h e = not_below_itself b.0 (subst (λ (x : Nid). nid_cmp x b ≡ Less) e h)

first_found : (x : Nid × Oid) (xs : List (Nid × Oid)) → commit_of (x ∷ xs) x.0 ≡ Some x.1
first_found x xs = ap (λ (b : Bool). cond b (Some x.1) (commit_of xs x.0)) (equals_itself x.0.0)

-- what is among rising remotes is found
pub among_found : (xs : List (Nid × Oid)) (node : Nid) (commit : Oid) → IsRising xs → Contains xs (node, commit) → commit_of xs node ≡ Some commit
among_found [] node commit r c = absurd (contains_nothing (node, commit) c)
among_found (x ∷ xs) node commit r c =
    ⊎_elim
    (λ e. subst (λ (y : Nid × Oid). commit_of (x ∷ xs) y.0 ≡ Some y.1) e (first_found x xs))
    (λ d. ap (λ (b : Bool). cond b (Some x.1) (commit_of xs node))
    (apart nid_cmp nid_exact node x.0 (below_differs x.0 node (below_all x xs r (node, commit) d)))
    ∙ among_found xs node commit (rises_tail node_of nid_cmp x xs r) d)
    (contains_cases x xs (node, commit) c)

-- the keys of rising remotes differ
pub nodes_differ : (xs : List (Nid × Oid)) → IsRising xs → AllDiffer (map node_of xs)
nodes_differ [] r = tt
nodes_differ (x ∷ xs) r = (
  others_from x.0 (map node_of xs) (λ c. let p = map_from node_of xs x.0 c in below_differs x.0 p.0.0 (below_all x xs r p.0 p.1) (sym p.2)),
  nodes_differ xs (rises_tail node_of nid_cmp x xs r),
)

-- what stands before a place is below what stands there
pub take_below : (xs : List (Nid × Oid)) (i : ℕ) (x y : Nid × Oid) → IsRising xs → slice_get xs i ≡ Some y → Contains (take i xs) x → nid_cmp x.0 y.0 ≡ Less
take_below [] i x y r at h = cc at
take_below (z ∷ zs) zero x y r at h = absurd (contains_nothing x h)
take_below (z ∷ zs) (suc i) x y r at h =
    ⊎_elim
    (λ e. subst (λ (w : Nid × Oid). nid_cmp w.0 y.0 ≡ Less) e (below_all z zs r y (contains_at zs i y at)))
    (λ d. take_below zs i x y (rises_tail node_of nid_cmp z zs r) at d)
    (contains_cases z (take i zs) x h)

-- a key above all is above the last
pub above_all : (xs : List (Nid × Oid)) (node : Nid) → ((x : Nid × Oid) → Contains xs x → nid_cmp x.0 node ≡ Less) → IsAbove xs node
above_all [] node h = tt
above_all (x ∷ []) node h = h x (contains_head x [])
above_all (x ∷ y ∷ rest) node h = above_all (y ∷ rest) node (λ z k. h z (contains_tail x (y ∷ rest) z k))
