-- Roots that are added to others.
use Rattle.std.proofs.Common.{◌≡◌, ℕ, ◌+◌, ◌<◌, ◌≤◌, List, [], ◌∷◌, ◌++◌, length, take, get_or, sym, subst, inl, inr, ◌⊎◌, ⊎_elim}
use Rattle.std.specs.Prelude.{◌↔◌}
use Rattle.std.proofs.lemmas.List.{take_all, take_more}
use Rattle.std.proofs.lemmas.List.Elements.{Contains-append_left, Contains-push, Contains-push_cases}
use Rattle.commit_graph.specs.declared.root.Root.{Root}
use Rattle.fetch_serve.specs.Parts.{Adds}
use Rattle.fetch_serve.specs.Replies.{Among}

-- nothing is added
pub adds_none : (P : Root → Type 0) (old : List Root) → ((r : Root) → P r → ⊥) → Adds P old old
adds_none P old none r = (λ h. inl h, λ h. ⊎_elim (λ a. a) (λ p. absurd (none r p)) h)

-- these are added, and then those
pub adds_both : (P Q R : Root → Type 0) (a b c : List Root) → Adds P a b → Adds Q b c → ((r : Root) → R r ↔ (P r ⊎ Q r)) → Adds R a c
adds_both P Q R a b c first then both r = (
  λ h. ⊎_elim (λ x. ⊎_elim (λ y. inl y) (λ p. inr ((both r).1 (inl p))) ((first r).0 x)) (λ q. inr ((both r).1 (inr q))) ((then r).0 h),
  λ h. ⊎_elim (λ x. (then r).1 (inl ((first r).1 (inl x))))
      (λ x. ⊎_elim (λ p. (then r).1 (inl ((first r).1 (inr p)))) (λ q. (then r).1 (inr q)) ((both r).0 x)) h,
)

-- the same are added
pub adds_as : (P Q : Root → Type 0) (a b : List Root) → ((r : Root) → P r ↔ Q r) → Adds P a b → Adds Q a b
adds_as P Q a b is adds r = (
  λ h. ⊎_elim (λ x. inl x) (λ p. inr ((is r).0 p)) ((adds r).0 h),
  λ h. ⊎_elim (λ x. (adds r).1 (inl x)) (λ q. (adds r).1 (inr ((is r).1 q))) h,
)

-- among the items of a list and one more
among_push : {X : Type 0} (P : X → Root → Type 0) (items : List X) (x : X) (r : Root) → Among (items ++ x ∷ []) P r ↔ (Among items P r ⊎ P x r)
among_push {X} P items x r = (
  λ h. ⊎_elim (λ a. inl (record { item = h.item; among = a; holds = h.holds })) (λ e. inr (subst (λ (z : X). P z r) (sym e) h.holds)) (Contains-push_cases items x h.item h.among),
  λ h. ⊎_elim
      (λ a. record { item = a.item; among = Contains-append_left items (x ∷ []) a.item a.among; holds = a.holds })
      (λ p. record { item = x; among = Contains-push items x; holds = p }) h,
)

-- one turn of a loop over the items
adds_turn : {X : Type 0} (P : X → Root → Type 0) (items : List X) (i : ℕ) (d : X) (a b c : List Root) → i < length items
    → Adds (Among (take i items) P) a b → Adds (P (get_or items i d)) b c → Adds (Among (take (i + 1) items) P) a c
adds_turn {X} P items i d a b c inside first then =
    subst (λ (xs : List X). Adds (Among xs P) a c) (sym (take_more items i d inside))
    (adds_both (Among (take i items) P) (P (get_or items i d)) (Among (take i items ++ get_or items i d ∷ []) P) a b c first then
    (among_push P (take i items) (get_or items i d)))

-- all of its turns
adds_all : {X : Type 0} (P : X → Root → Type 0) (items : List X) (i : ℕ) (a b : List Root) → length items ≤ i
    → Adds (Among (take i items) P) a b → Adds (Among items P) a b
adds_all {X} P items i a b whole adds = subst (λ (xs : List X). Adds (Among xs P) a b) (take_all i items whole) adds

-- the same where the loop is over a list that is these items
pub adds_step : {X : Type 0} (P : X → Root → Type 0) (items list : List X) (i : ℕ) (d : X) (a b c : List Root) → list ≡ items → i < length list
    → Adds (Among (take i items) P) a b → Adds (P (get_or list i d)) b c → Adds (Among (take (i + 1) items) P) a c
adds_step {X} P items list i d a b c same =
    subst (λ (xs : List X). i < length list → Adds (Among (take i xs) P) a b → Adds (P (get_or list i d)) b c → Adds (Among (take (i + 1) xs) P) a c)
    same (adds_turn P list i d a b c)

pub adds_end : {X : Type 0} (P : X → Root → Type 0) (items list : List X) (i : ℕ) (a b : List Root) → list ≡ items → length list ≤ i
    → Adds (Among (take i items) P) a b → Adds (Among items P) a b
adds_end {X} P items list i a b same = subst (λ (xs : List X). length list ≤ i → Adds (Among (take i xs) P) a b → Adds (Among xs P) a b) same (adds_all P list i a b)
