-- Lists whose keys rise.
use Rattle.std.proofs.Common.{◌≡◌, ℕ, zero, suc, ◌+◌, ◌-◌, ◌<◌, Bool, true, List, [], ◌∷◌, ◌++◌, length, get_or, slice_get, Option, Some, refl, ap, subst, sym, ⊎_elim, ◌∙◌, arith}
use Rattle.std.specs.Prelude.{Contains}
use Rattle.std.specs.Cmp.{IsTotalOrder}
use Rattle.std.specs.Cmp.Lexicographic.{slice_cmp}
use Rattle.std.specs.List.Sorted.{IsNonDecreasingBy}
use Rattle.std.specs.declared.cmp.Ordering.{Ordering}
use Rattle.std.specs.declared.cmp.Ordering.TheVariants.{Less, Equal, Greater}
use Rattle.std.specs.Ordering.{is_lt, nat_cmp, ordering_index, ordering_reverse}
use Rattle.std.proofs.lemmas.List.Sorted.{searchable_from_sorted}
use Rattle.rad_base.specs.Order.{IsAbove, IsAboveBy, IsBelow, RiseFrom, RisesBy, is_above, last_from, last_passes, nid_cmp, node_of, passes_if_some}
use Rattle.rad_base.specs.declared.names.Nid.{Nid}
use Rattle.rad_base.specs.declared.names.Oid.{Oid}
use Rattle.rad_base.proofs.Members.{contains_cases, contains_nothing}

-- ---- by any key and order

-- one more item above the others
pub rises_more : {X K : Type 0} (key : X → K) (order : K → K → Ordering) (xs : List X) (x : X) → RisesBy key order xs → IsAboveBy key order xs (key x)
    → RisesBy key order (xs ++ x ∷ [])
rises_more key order [] x rising above = tt
rises_more key order (a ∷ []) x rising above = (above, tt)
rises_more key order (a ∷ b ∷ xs) x rising above = (rising.0, rises_more key order (b ∷ xs) x rising.1 above)

-- the last of rising items is above those before it
pub rises_last : {X K : Type 0} (key : X → K) (order : K → K → Ordering) (xs : List X) (x : X) → RisesBy key order (xs ++ x ∷ [])
    → IsAboveBy key order xs (key x)
rises_last key order [] x rising = tt
rises_last key order (a ∷ []) x rising = rising.0
rises_last key order (a ∷ b ∷ xs) x rising = rises_last key order (b ∷ xs) x rising.1

-- of rising items each is above those before it
pub above_front : {X K : Type 0} (key : X → K) (order : K → K → Ordering) (xs : List X) (x : X) (more : List X) → RisesBy key order (xs ++ x ∷ more)
    → IsAboveBy key order xs (key x)
above_front key order [] x more rising = tt
above_front key order (a ∷ []) x more rising = rising.0
above_front key order (a ∷ b ∷ xs) x more rising = above_front key order (b ∷ xs) x more rising.1

-- the items behind the first rise
pub rises_tail : {X K : Type 0} (key : X → K) (order : K → K → Ordering) (x : X) (xs : List X) → RisesBy key order (x ∷ xs) → RisesBy key order xs
rises_tail key order x [] rising = tt
rises_tail key order x (y ∷ xs) rising = rising.1

-- the first is below all others
pub rises_below : {X K : Type 0} (key : X → K) (order : K → K → Ordering) → IsTotalOrder order → (x : X) (xs : List X) → RisesBy key order (x ∷ xs)
    → (y : X) → Contains xs y → order (key x) (key y) ≡ Less
rises_below key order total x [] rising y has = absurd (contains_nothing y has)
rises_below key order total x (z ∷ xs) rising y has =
    ⊎_elim
    (λ e. subst (λ w. order (key x) (key w) ≡ Less) e rising.0)
    (λ later. total.trans (key x) (key z) (key y) rising.0 (rises_below key order total z xs rising.1 y later))
    (contains_cases z xs y has)

-- each is below the next
rises_next : {X K : Type 0} (key : X → K) (order : K → K → Ordering) (xs : List X) → RisesBy key order xs → (k : ℕ) (d : X) → k + 1 < length xs
    → order (key (get_or xs k d)) (key (get_or xs (k + 1) d)) ≡ Less
rises_next key order [] rising k d inside = absurd (omega arith)
rises_next key order (x ∷ []) rising k d inside = absurd (omega (arith, inside))
rises_next key order (x ∷ y ∷ xs) rising zero d inside = rising.0
rises_next key order (x ∷ y ∷ xs) rising (suc k) d inside =
    let next : suc k + 1 ≡ suc (k + 1) = omega arith in
    rw next (rises_next key order (y ∷ xs) rising.1 k d (omega (arith, inside)))

-- so the comparisons with a key rise along them, as a binary search asks
pub rises_searched : {X K : Type 0} (key : X → K) (order : K → K → Ordering) → IsTotalOrder order → (xs : List X) (k : K) → RisesBy key order xs
    → IsNonDecreasingBy (λ y. ordering_index (order (key y) k)) xs
rises_searched key order total xs k rising =
    searchable_from_sorted total key xs k
    (λ i d low high. ap is_lt (total.antisymm (key (get_or xs (i + 1) d)) (key (get_or xs i d)) ∙ ap ordering_reverse (rises_next key order xs rising i d high)))

-- ---- by bytes, from those before

-- one more item above the others
pub rise_more : {X : Type 0} (key : X → List ℕ) (before : Option (List ℕ)) (xs : List X) (x : X) → RiseFrom key before xs
    → IsBelow (last_from key before xs) (key x) → RiseFrom key before (xs ++ x ∷ [])
rise_more key before [] x rising below = (below, tt)
rise_more key before (y ∷ xs) x rising below = (rising.0, rise_more key (Some (key y)) xs x rising.1 below)

-- the last of rising items is above those before it
pub rise_last : {X : Type 0} (key : X → List ℕ) (before : Option (List ℕ)) (xs : List X) (x : X) → RiseFrom key before (xs ++ x ∷ [])
    → IsBelow (last_from key before xs) (key x)
rise_last key before [] x rising = rising.0
rise_last key before (y ∷ xs) x rising = rise_last key (Some (key y)) xs x rising.1

-- the bytes of the last item
pub last_more : {X : Type 0} (key : X → List ℕ) (before : Option (List ℕ)) (xs : List X) (x : X) → last_from key before (xs ++ x ∷ []) ≡ Some (key x)
last_more key before [] x = refl
last_more key before (y ∷ xs) x = last_more key (Some (key y)) xs x

-- so their bytes rise
pub rises_from : {X : Type 0} (key : X → List ℕ) (before : Option (List ℕ)) (xs : List X) → RiseFrom key before xs → RisesBy key (slice_cmp nat_cmp) xs
rises_from key before [] rising = tt
rises_from key before (x ∷ []) rising = tt
rises_from key before (x ∷ y ∷ xs) rising = (rising.1.0, rises_from key (Some (key x)) (y ∷ xs) rising.1)

-- ---- by the test of the last

less : (o : Ordering) → is_lt o ≡ true → o ≡ Less
less Less e = refl
less Equal e = cc e
less Greater e = cc e

last_later : {X : Type 0} (test : X → Bool) (a b : X) (rest : List X) → last_passes test (a ∷ b ∷ rest) ≡ last_passes test (b ∷ rest)
last_later {X} test a b rest =
    let last : length (a ∷ b ∷ rest) - 1 ≡ suc (length (b ∷ rest) - 1) = omega arith in
    ap (λ (k : ℕ). passes_if_some test (slice_get (a ∷ b ∷ rest) k)) last

-- a key that passes the test is above the last one
pub above_by : {X K : Type 0} (key : X → K) (order : K → K → Ordering) (xs : List X) (k : K) → last_passes (λ last. is_lt (order (key last) k)) xs ≡ true
    → IsAboveBy key order xs k
above_by key order [] k e = tt
above_by key order (a ∷ []) k e = less (order (key a) k) e
above_by key order (a ∷ b ∷ rest) k e = above_by key order (b ∷ rest) k (sym (last_later (λ last. is_lt (order (key last) k)) a b rest) ∙ e)

-- and no other is
pub passes_by : {X K : Type 0} (key : X → K) (order : K → K → Ordering) (xs : List X) (k : K) → IsAboveBy key order xs k
    → last_passes (λ last. is_lt (order (key last) k)) xs ≡ true
passes_by key order [] k h = refl
passes_by key order (a ∷ []) k h = ap is_lt h
passes_by key order (a ∷ b ∷ rest) k h = last_later (λ last. is_lt (order (key last) k)) a b rest ∙ passes_by key order (b ∷ rest) k h

-- ---- remotes

-- a key that passes the test is above the last one
pub above : (remotes : List (Nid × Oid)) (node : Nid) → is_above remotes node ≡ true → IsAbove remotes node
above remotes node e = above_by node_of nid_cmp remotes node e

-- and no other is
pub passes : (remotes : List (Nid × Oid)) (node : Nid) → IsAbove remotes node → is_above remotes node ≡ true
passes remotes node h = passes_by node_of nid_cmp remotes node h
