-- What a list contains, by its first item, through a filter and through a map.
use Rattle.std.proofs.Common.{◌≡◌, ℕ, Bool, true, false, cond, List, [], ◌∷◌, Some, refl, sym, ap, subst, inl, inr, ◌⊎◌, ⊎_elim, ◌∙◌, arith}
use Rattle.std.specs.Prelude.{Contains, filter, map, slice_get}
use Rattle.std.proofs.lemmas.List.Elements.{Contains-append_left, Contains-append_right, Contains-push, Contains-push_cases, Contains-append_cases}
use Rattle.std.proofs.lemmas.Option.{slice_get_within, get_or_from_slice_get}

-- the empty list contains nothing
pub contains_nothing : {X : Type 0} (x : X) → Contains [] x → ⊥
contains_nothing x h = absurd (omega (arith, h.1))

-- a list contains its first item
pub contains_head : {X : Type 0} (x : X) (xs : List X) → Contains (x ∷ xs) x
contains_head x xs = Contains-append_left (x ∷ []) xs x (Contains-push [] x)

-- and what stands behind it
pub contains_tail : {X : Type 0} (x : X) (xs : List X) (y : X) → Contains xs y → Contains (x ∷ xs) y
contains_tail x xs y h = Contains-append_right (x ∷ []) xs y h

-- a list of one item contains nothing else
pub contains_one : {X : Type 0} (x y : X) → Contains (x ∷ []) y → x ≡ y
contains_one x y h = ⊎_elim (λ a. absurd (contains_nothing y a)) (λ a. a) (Contains-push_cases [] x y h)

-- an item is the first, or stands behind it
pub contains_cases : {X : Type 0} (x : X) (xs : List X) (y : X) → Contains (x ∷ xs) y
    → (x ≡ y) ⊎ Contains xs y
contains_cases x xs y h = ⊎_elim (λ a. inl (contains_one x y a)) (λ a. inr a) (Contains-append_cases (x ∷ []) xs y h)

-- a list contains the item at an index
pub contains_at : {X : Type 0} (xs : List X) (i : ℕ) (x : X) → slice_get xs i ≡ Some x
    → Contains xs x
contains_at xs i x e = (i, slice_get_within xs i x e, get_or_from_slice_get xs i x x e)

keep_if : {X : Type 0} (b : Bool) (x : X) (xs : List X) (y : X) → Contains xs y
    → Contains (cond b (x ∷ xs) xs) y
keep_if true x xs y h = contains_tail x xs y h
keep_if false x xs y h = h

-- a filter keeps what passes its test
pub filter_has : {X : Type 0} (p : X → Bool) (xs : List X) (y : X) → Contains xs y → p y ≡ true
    → Contains (filter p xs) y
filter_has p [] y h e = absurd (contains_nothing y h)
filter_has {X} p (x ∷ xs) y h e =
    ⊎_elim
    (λ a. subst (λ (b : Bool). Contains (cond b (x ∷ filter p xs) (filter p xs)) y) (sym e ∙ ap p (sym a)) (subst (λ (z : X). Contains (x ∷ filter p xs) z) a (contains_head x (filter p xs))))
    (λ a. keep_if (p x) x (filter p xs) y (filter_has p xs y a e))
    (contains_cases x xs y h)

kept_from : {X : Type 0} (b : Bool) (x : X) (xs : List X) (y : X) → Contains (cond b (x ∷ xs) xs) y
    → ((b ≡ true) × (x ≡ y)) ⊎ Contains xs y
kept_from true x xs y h = ⊎_elim (λ a. inl (refl, a)) (λ a. inr a) (contains_cases x xs y h)
kept_from false x xs y h = inr h

-- what a filter keeps was in the list, and passes its test
pub filter_from : {X : Type 0} (p : X → Bool) (xs : List X) (y : X) → Contains (filter p xs) y
    → Contains xs y × (p y ≡ true)
filter_from p [] y h = absurd (contains_nothing y h)
filter_from {X} p (x ∷ xs) y h =
    ⊎_elim
    (λ a. (subst (λ (z : X). Contains (x ∷ xs) z) a.1 (contains_head x xs), sym (ap p a.1) ∙ a.0))
    (λ a. let r = filter_from p xs y a in (contains_tail x xs y r.0, r.1))
    (kept_from (p x) x (filter p xs) y h)

-- a map has the image of each item
pub map_has : {X Y : Type 0} (f : X → Y) (xs : List X) (x : X) → Contains xs x
    → Contains (map f xs) (f x)
map_has f [] x h = absurd (contains_nothing x h)
map_has {X} {Y} f (z ∷ xs) x h =
    ⊎_elim
    (λ a. subst (λ (y : Y). Contains (f z ∷ map f xs) y) (ap f a) (contains_head (f z) (map f xs)))
    (λ a. contains_tail (f z) (map f xs) (f x) (map_has f xs x a))
    (contains_cases z xs x h)

-- and nothing else
pub map_from : {X Y : Type 0} (f : X → Y) (xs : List X) (y : Y) → Contains (map f xs) y
    → (x : X) × Contains xs x × (f x ≡ y)
map_from f [] y h = absurd (contains_nothing y h)
map_from {X} {Y} f (z ∷ xs) y h =
    ⊎_elim
    (λ a. (z, contains_head z xs, a))
    (λ a. let r = map_from f xs y a in (r.0, contains_tail z xs r.0 r.1, r.2))
    (contains_cases (f z) (map f xs) y h)
