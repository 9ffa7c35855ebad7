-- The least name of which a property holds, over the pairs of a list.
use Rattle.std.proofs.Common.{◌≡◌, List, [], ◌∷◌, ◌++◌, Option, Some, None, refl, sym, ap, subst, inl, inr, ◌⊎◌, ⊎_elim, ◌∙◌}
use Rattle.std.specs.Prelude.{Contains}
use Rattle.std.specs.declared.cmp.Ordering.TheVariants.{Less}
use Rattle.std.proofs.lemmas.List.Elements.{Contains-push_cases, Contains-append_left, Contains-push}
use Rattle.rad_base.specs.declared.names.Oid.{Oid}
use Rattle.rad_base.specs.Order.{oid_cmp}
use Rattle.rad_base.proofs.NameOrder.{oid_total, not_below_itself}
use Rattle.commit_graph.specs.declared.root.Root.{Root}
use Rattle.commit_graph.specs.Looks.{IsLesser}
use Rattle.commit_graph.specs.Closures.{IsLeast, HasNone}

-- the least name of which P holds, if there is one
abbrev pub LeastSoFar : (Oid → Type 0) → Option Oid → Type 0
LeastSoFar P None = HasNone P
LeastSoFar P (Some oid) = IsLeast P oid

-- a pair of the list has this name, and P holds of it
pub record IsAmong (P : Root → Type 0) (done : List Root) (oid : Oid) : Type 0 where
  pub pair : Root
  pub here : Contains done pair
  pub holds : P pair
  pub name : pair.oid ≡ oid

among_old : (P : Root → Type 0) (done done' : List Root) (x : Root) (oid : Oid)
    → done' ≡ done ++ x ∷ [] → IsAmong P done oid → IsAmong P done' oid
among_old P done done' x oid e h = record {
  pair = h.pair;
  here = subst (λ (xs : List Root). Contains xs h.pair) (sym e) (Contains-append_left done (x ∷ []) h.pair h.here);
  holds = h.holds;
  name = h.name;
}

among_new : (P : Root → Type 0) (done done' : List Root) (x : Root) (oid : Oid)
    → done' ≡ done ++ x ∷ [] → P x → x.oid ≡ oid → IsAmong P done' oid
among_new P done done' x oid e p n = record {
  pair = x;
  here = subst (λ (xs : List Root). Contains xs x) (sym e) (Contains-push done x);
  holds = p;
  name = n;
}

among_cases : (P : Root → Type 0) (done done' : List Root) (x : Root) (oid : Oid)
    → done' ≡ done ++ x ∷ [] → IsAmong P done' oid → IsAmong P done oid ⊎ (P x × (x.oid ≡ oid))
among_cases P done done' x oid e h =
    ⊎_elim
    (λ a. inl (record { pair = h.pair; here = a; holds = h.holds; name = h.name }))
    (λ a. inr (subst P (sym a) h.holds, ap (λ (r : Root). r.oid) a ∙ h.name))
    (Contains-push_cases done x h.pair (subst (λ (xs : List Root). Contains xs h.pair) e h.here))

-- a name is not below one that it is
not_below : (a b : Oid) → a ≡ b → oid_cmp b a ≡ Less → ⊥
not_below a b e h = not_below_itself b.0 (subst (λ (x : Oid). oid_cmp b x ≡ Less) e h)

-- the least so far, where P' holds of one more name than P
pub least_lower : (P P' : Oid → Type 0) (x : Oid) (best : Option Oid) (next : Oid)
    → ((n : Oid) → P n → P' n) → ((n : Oid) → P' n → P n ⊎ (x ≡ n)) → P' x → IsLesser best x next
    → LeastSoFar P best → IsLeast P' next
least_lower P P' x None next more cases here l h = record {
  holds = subst P' (sym l) here;
  least = λ n a lt. ⊎_elim (λ b. h n b) (λ b. not_below next n (l ∙ b) lt) (cases n a);
}
least_lower P P' x (Some best) next more cases here (inl (below, l)) h = record {
  holds = subst P' (sym l) here;
  least = λ n a lt. ⊎_elim
      (λ b. h.least n b (oid_total.trans n x best (subst (λ (y : Oid). oid_cmp n y ≡ Less) l lt) below))
      (λ b. not_below next n (l ∙ b) lt) (cases n a);
}
least_lower P P' x (Some best) next more cases here (inr (above, l)) h = record {
  holds = subst P' (sym l) (more best h.holds);
  least = λ n a lt. ⊎_elim
      (λ b. h.least n b (subst (λ (y : Oid). oid_cmp n y ≡ Less) l lt))
      (λ b. above (subst (λ (y : Oid). oid_cmp y best ≡ Less) (sym b) (subst (λ (y : Oid). oid_cmp n y ≡ Less) l lt)))
      (cases n a);
}

-- an item of which P does not hold changes nothing
least_same : (P : Root → Type 0) (done done' : List Root) (x : Root) (best : Option Oid)
    → done' ≡ done ++ x ∷ [] → (P x → ⊥) → LeastSoFar (IsAmong P done) best
    → LeastSoFar (IsAmong P done') best
least_same P done done' x None e other h = λ n a. ⊎_elim (λ b. h n b) (λ b. other b.0) (among_cases P done done' x n e a)
least_same P done done' x (Some best) e other h = record {
  holds = among_old P done done' x best e h.holds;
  least = λ n a. ⊎_elim (λ b. h.least n b) (λ b. absurd (other b.0)) (among_cases P done done' x n e a);
}

-- an item of which it holds counts
least_more : (P : Root → Type 0) (done done' : List Root) (x : Root) (best : Option Oid) (next : Oid)
    → done' ≡ done ++ x ∷ [] → P x → IsLesser best x.oid next → LeastSoFar (IsAmong P done) best
    → IsLeast (IsAmong P done') next
least_more P done done' x best next e p l h =
    least_lower (IsAmong P done) (IsAmong P done') x.oid best next (λ n a. among_old P done done' x n e a)
    (λ n a. ⊎_elim (λ b. inl b) (λ b. inr b.1) (among_cases P done done' x n e a)) (among_new P done done' x x.oid e p refl) l h

-- the best so far is lowered where P holds of the item
abbrev pub Noted : (Root → Type 0) → Root → Option Oid → Option Oid → Type 0
Noted P x best best' = (P x × ((next : Oid) × (best' ≡ Some next) × IsLesser best x.oid next)) ⊎ ((P x → ⊥) × (best' ≡ best))

-- the least so far, over one more item
pub least_turn : (P : Root → Type 0) (done done' : List Root) (x : Root) (best best' : Option Oid)
    → done' ≡ done ++ x ∷ [] → Noted P x best best' → LeastSoFar (IsAmong P done) best
    → LeastSoFar (IsAmong P done') best'
least_turn P done done' x best best' e (inl (p, n)) h =
    subst (LeastSoFar (IsAmong P done')) (sym n.1) (least_more P done done' x best n.0 e p n.2 h)
least_turn P done done' x best best' e (inr (p, b)) h =
    subst (LeastSoFar (IsAmong P done')) (sym b) (least_same P done done' x best e p h)
