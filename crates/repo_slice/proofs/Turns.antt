-- One turn of the loops over offered remotes.
use Rattle.std.proofs.Common.{◌≡◌, ℕ, Bool, true, false, if◌then◌else◌, List, [], ◌∷◌, ◌++◌, length, take, Some, refl, ap, subst, inl, inr, ⊎_elim, ◌∙◌, arith}
use Rattle.std.specs.Prelude.{Contains, slice_get, IsTrue, ◌↔◌}
use Rattle.std.proofs.lemmas.Bool.{false≢true}
use Rattle.rad_base.specs.declared.names.Nid.{Nid}
use Rattle.rad_base.specs.declared.names.Oid.{Oid}
use Rattle.rad_base.specs.Order.{IsAbove, IsRising}
use Rattle.rad_base.proofs.Members.{contains_cases, contains_head, contains_nothing, contains_tail}
use Rattle.commit_graph.specs.Objects.{ObjectMap}
use Rattle.repo_slice.specs.declared.outcomes.Outcome.{Outcome}
use Rattle.repo_slice.specs.declared.outcomes.Outcome.TheVariants.{Advanced}
use Rattle.repo_slice.specs.Outcomes.{AreOutcomes, Case, IsOutcome, advanced_in, count_after, if_advanced}
use Rattle.repo_slice.specs.Parts.{count_behind}
use Rattle.repo_slice.specs.Wanted.{AreAmong, Picks}
use Rattle.rad_base.proofs.Lookups.{above_all, take_below}

-- ---- outcomes

module _ (m : ObjectMap) (c : Case) where
  -- one outcome more
  pub outcomes_push : (pairs : List (Nid × Oid)) (outcomes : List (Nid × Outcome)) (count : ℕ) (p : Nid × Oid) (outcome : Outcome)
      → AreOutcomes m c count pairs outcomes → IsOutcome m c (count_behind c.remotes count pairs outcomes) p.0 p.1 outcome
      → AreOutcomes m c count (pairs ++ p ∷ []) (outcomes ++ (p.0, outcome) ∷ [])
  outcomes_push [] [] count p outcome are is = (refl, is, tt)
  outcomes_push [] (o ∷ outcomes) count p outcome are is = absurd are
  outcomes_push (q ∷ pairs) [] count p outcome are is = absurd are
  outcomes_push (q ∷ pairs) (o ∷ outcomes) count p outcome are is =
      (are.0, are.1, outcomes_push pairs outcomes (count_after c.remotes count q.0 o.1) p outcome are.2 is)

-- how many remotes stand then
pub count_push : (remotes pairs : List (Nid × Oid)) (outcomes : List (Nid × Outcome)) (count : ℕ) (p : Nid × Oid) (o : Nid × Outcome)
    → length pairs ≡ length outcomes
    → count_behind remotes count (pairs ++ p ∷ []) (outcomes ++ o ∷ []) ≡ count_after remotes (count_behind remotes count pairs outcomes) p.0 o.1
count_push remotes [] [] count p o e = refl
count_push remotes [] (x ∷ outcomes) count p o e = absurd (omega (arith, e))
count_push remotes (q ∷ pairs) [] count p o e = absurd (omega (arith, e))
count_push remotes (q ∷ pairs) (x ∷ outcomes) count p o e = count_push remotes pairs outcomes (count_after remotes count q.0 x.1) p o (omega (arith, e))

if_append : (outcome : Outcome) (q : Nid × Oid) (xs ys : List (Nid × Oid)) → if_advanced outcome q (xs ++ ys) ≡ if_advanced outcome q xs ++ ys
if_append Advanced q xs ys = refl
if_append other q xs ys = refl

-- which remotes advance then
pub advanced_push : (pairs : List (Nid × Oid)) (outcomes : List (Nid × Outcome)) (p : Nid × Oid) (o : Nid × Outcome)
    → length pairs ≡ length outcomes
    → advanced_in (pairs ++ p ∷ []) (outcomes ++ o ∷ []) ≡ advanced_in pairs outcomes ++ if_advanced o.1 p []
advanced_push [] [] p o e = refl
advanced_push [] (x ∷ outcomes) p o e = absurd (omega (arith, e))
advanced_push (q ∷ pairs) [] p o e = absurd (omega (arith, e))
advanced_push (q ∷ pairs) (x ∷ outcomes) p o e =
    ap (if_advanced x.1 q) (advanced_push pairs outcomes p o (omega (arith, e)))
    ∙ if_append x.1 q (advanced_in pairs outcomes) (if_advanced o.1 p [])

-- what advances was offered
pub advanced_among : (pairs : List (Nid × Oid)) (outcomes : List (Nid × Outcome)) (x : Nid × Oid) → Contains (advanced_in pairs outcomes) x → Contains pairs x
advanced_among [] outcomes x h = h
advanced_among (q ∷ pairs) [] x h = absurd (contains_nothing x h)
advanced_among (q ∷ pairs) (o ∷ outcomes) x h = by_outcome (λ (d : Contains (advanced_in pairs outcomes) x). advanced_among pairs outcomes x d) o.1 h
  where
    by_outcome : (Contains (advanced_in pairs outcomes) x → Contains pairs x) → (outcome : Outcome) → Contains (if_advanced outcome q (advanced_in pairs outcomes)) x
        → Contains (q ∷ pairs) x
    by_outcome later Advanced k =
        ⊎_elim
        (λ e. subst (λ (y : Nid × Oid). Contains (q ∷ pairs) y) e (contains_head q pairs))
        (λ d. contains_tail q pairs x (later d))
        (contains_cases q (advanced_in pairs outcomes) x k)
    by_outcome later other k = contains_tail q pairs x (later k)

-- ---- the order of keys

-- a remote may stand behind those that advanced before it
pub advanced_above : (remotes : List (Nid × Oid)) (outcomes : List (Nid × Outcome)) (advanced : List (Nid × Oid)) (i : ℕ) (node : Nid) (commit : Oid)
    → IsRising remotes → slice_get remotes i ≡ Some (node, commit) → advanced ≡ advanced_in (take i remotes) outcomes → IsAbove advanced node
advanced_above remotes outcomes advanced i node commit r at e =
    above_all advanced node (λ x k. take_below remotes i x (node, commit) r at
    (advanced_among (take i remotes) outcomes x (subst (λ (l : List (Nid × Oid)). Contains l x) e k)))

-- ---- what is asked for

module _ (P : Nid → Oid → Type 0) where
  -- one remote more of which P holds
  pub picks_push : (pairs : List (Nid × Oid)) (nodes : List Nid) (p : Nid × Oid) → Picks P pairs nodes → P p.0 p.1 → Picks P (pairs ++ p ∷ []) (nodes ++ p.0 ∷ [])
  picks_push [] nodes p h is = inl (is, ([], ap (λ (l : List Nid). l ++ p.0 ∷ []) h, refl))
  picks_push (q ∷ pairs) nodes p (inl h) is = inl (h.0, (h.1.0 ++ p.0 ∷ [], ap (λ (l : List Nid). l ++ p.0 ∷ []) h.1.1, picks_push pairs h.1.0 p h.1.2 is))
  picks_push (q ∷ pairs) nodes p (inr h) is = inr (h.0, picks_push pairs nodes p h.1 is)

  -- one more of which it does not
  pub picks_skip : (pairs : List (Nid × Oid)) (nodes : List Nid) (p : Nid × Oid) → Picks P pairs nodes → (P p.0 p.1 → ⊥) → Picks P (pairs ++ p ∷ []) nodes
  picks_skip [] nodes p h not = inr (not, h)
  picks_skip (q ∷ pairs) nodes p (inl h) not = inl (h.0, (h.1.0, h.1.1, picks_skip pairs h.1.0 p h.1.2 not))
  picks_skip (q ∷ pairs) nodes p (inr h) not = inr (h.0, picks_skip pairs nodes p h.1 not)

pub among_push : (pairs : List (Nid × Oid)) (nodes : List Nid) (p : Nid × Oid) → AreAmong pairs nodes → AreAmong (pairs ++ p ∷ []) (nodes ++ p.0 ∷ [])
among_push [] nodes p h = inl ([], ap (λ (l : List Nid). l ++ p.0 ∷ []) h, refl)
among_push (q ∷ pairs) nodes p (inl h) = inl (h.0 ++ p.0 ∷ [], ap (λ (l : List Nid). l ++ p.0 ∷ []) h.1, among_push pairs h.0 p h.2)
among_push (q ∷ pairs) nodes p (inr h) = inr (among_push pairs nodes p h)

pub among_skip : (pairs : List (Nid × Oid)) (nodes : List Nid) (p : Nid × Oid) → AreAmong pairs nodes → AreAmong (pairs ++ p ∷ []) nodes
among_skip [] nodes p h = inr h
among_skip (q ∷ pairs) nodes p (inl h) = inl (h.0, h.1, among_skip pairs h.0 p h.2)
among_skip (q ∷ pairs) nodes p (inr h) = inr (among_skip pairs nodes p h)

-- one turn, by the test
pub picks_turn : (P : Nid → Oid → Type 0) (b : Bool) (pairs : List (Nid × Oid)) (nodes : List Nid) (p : Nid × Oid) → (IsTrue b ↔ P p.0 p.1) → Picks P pairs nodes
    → Picks P (pairs ++ p ∷ []) (if b then nodes ++ p.0 ∷ [] else nodes)
picks_turn P true pairs nodes p is h = picks_push P pairs nodes p h (is.0 refl)
picks_turn P false pairs nodes p is h = picks_skip P pairs nodes p h (λ holds. false≢true (is.1 holds))

pub among_turn : (b : Bool) (pairs : List (Nid × Oid)) (nodes : List Nid) (p : Nid × Oid) → AreAmong pairs nodes → AreAmong (pairs ++ p ∷ []) (if b then nodes ++ p.0 ∷ [] else nodes)
among_turn true pairs nodes p h = among_push pairs nodes p h
among_turn false pairs nodes p h = among_skip pairs nodes p h

pub none_among : (pairs : List (Nid × Oid)) → AreAmong pairs []
none_among [] = refl
none_among (p ∷ pairs) = inr (none_among pairs)
