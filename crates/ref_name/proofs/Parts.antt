-- The components of a name, from the first.
use Rattle.std.proofs.Common.{◌≡◌, ◌≢◌, ℕ, zero, suc, ◌<◌, ◌==◌, Bool, if◌then◌else◌, List, [], ◌∷◌, ◌++◌, length, ◌⊎◌, inl, inr, refl, sym, ap, subst, ◌∙◌, arith}
use Rattle.std.specs.List.{Any}
use Rattle.std.specs.Prelude.{slice_index_or}
use Rattle.std.proofs.lemmas.Bool.{eqb-true, false_from_ne_true}
use Rattle.rad_base.specs.Sizes.{Lacks}
use Rattle.ref_name.specs.Rules.{components, in_front}

-- ---- some of a list

-- the first item is one of them
pub any_first : {X : Type 0} (P : X → Type 0) (x : X) (xs : List X) → P x → Any P (x ∷ xs)
any_first P x xs h = (0, x, omega arith, refl, h)

-- and so is each of the rest
pub any_rest : {X : Type 0} (P : X → Type 0) (x : X) (xs : List X) → Any P xs → Any P (x ∷ xs)
any_rest P x xs h = (suc h.0, h.1, omega (arith, h.2), h.3, h.4)

-- none of no items
pub any_nothing : {X : Type 0} (P : X → Type 0) → Any P [] → ⊥
any_nothing P h = omega (arith, h.2)

-- one of them is the first or stands in the rest
pub any_cases : {X : Type 0} (P : X → Type 0) (x : X) (xs : List X) → Any P (x ∷ xs) → P x ⊎ Any P xs
any_cases {X} P x xs h = cases h.0 h.1 h.2 h.3 h.4
  where
    cases : (k : ℕ) (y : X) → k < length (x ∷ xs) → slice_index_or (x ∷ xs) k y ≡ y → P y → P x ⊎ Any P xs
    cases zero y inside e h = inl (subst P (sym e) h)
    cases (suc k) y inside e h = inr (k, y, omega (arith, inside), e, h)

-- ---- components

no_slash_in_front : (c : ℕ) (name : List ℕ) → c ≢ 47 → components (c ∷ name) ≡ in_front c (components name)
no_slash_in_front c name not =
    ap (λ (b : Bool). if b then [] ∷ components name else in_front c (components name)) (false_from_ne_true (c == 47) (λ e. not (eqb-true c 47 e)))

lacks_rest : (c : ℕ) (name : List ℕ) → Lacks 47 (c ∷ name) → Lacks 47 name
lacks_rest c name h = λ k d inside. h (suc k) d (omega (arith, inside))

lacks_first : (c : ℕ) (name : List ℕ) → Lacks 47 (c ∷ name) → c ≢ 47
lacks_first c name h = h 0 0 (omega arith)

-- a name without a slash is its only component
pub one_component : (name : List ℕ) → Lacks 47 name → components name ≡ name ∷ []
one_component [] h = refl
one_component (c ∷ name) h =
    no_slash_in_front c name (lacks_first c name h) ∙ ap (in_front c) (one_component name (lacks_rest c name h))

-- what stands before the first slash is the first component
pub first_component : (part rest : List ℕ) → Lacks 47 part → components (part ++ 47 ∷ rest) ≡ part ∷ components rest
first_component [] rest h = refl
first_component (c ∷ part) rest h =
    no_slash_in_front c (part ++ 47 ∷ rest) (lacks_first c part h) ∙ ap (in_front c) (first_component part rest (lacks_rest c part h))

-- the components of what stands before the first slash and behind it
pub split_at_slash : (part more name : List ℕ) → Lacks 47 part → name ≡ part ++ 47 ∷ more → components name ≡ part ∷ components more
split_at_slash part more name h e = ap components e ∙ first_component part more h
