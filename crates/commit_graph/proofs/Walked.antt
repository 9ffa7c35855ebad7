-- Walks go on by steps, and stay in what is closed under them.
use Rattle.std.proofs.Common.{List, [], ◌∷◌, ◌++◌, refl, sym, subst}
use Rattle.std.specs.Prelude.{Contains}
use Rattle.commit_graph.specs.Walks.{Walk, Reached}

-- a walk goes on by one step
pub walk_push : {X : Type 0} (Step : X → X → Type 0) (p : X) (path : List X) (q r : X)
    → Walk Step p path q → Step q r → Walk Step p (path ++ r ∷ []) r
walk_push {X} Step p [] q r w s = (subst (λ (x : X). Step x r) (sym w) s, refl)
walk_push {X} Step p (x ∷ xs) q r w s = (w.0, walk_push Step x xs q r w.1 s)

-- two walks make one
pub walk_append : {X : Type 0} (Step : X → X → Type 0) (p : X) (xs : List X) (q : X) (ys : List X) (r : X)
    → Walk Step p xs q → Walk Step q ys r → Walk Step p (xs ++ ys) r
walk_append {X} Step p [] q ys r w v = subst (λ (x : X). Walk Step x ys r) (sym w) v
walk_append {X} Step p (x ∷ xs) q ys r w v = (w.0, walk_append Step x xs q ys r w.1 v)

-- a root is reached
pub reached_root : {X : Type 0} {Step : X → X → Type 0} {roots : List X} (x : X) → Contains roots x
    → Reached Step roots x
reached_root x h = record { root = x; among = h; path = []; walk = refl }

-- so is what a step leads to from what is reached
pub reached_step : {X : Type 0} {Step : X → X → Type 0} {roots : List X} (x y : X)
    → Reached Step roots x → Step x y → Reached Step roots y
reached_step {X} {Step} x y h s = record { root = h.root; among = h.among; path = h.path ++ y ∷ []; walk = walk_push Step h.root h.path x y h.walk s }

walk_stays : {X : Type 0} {Step : X → X → Type 0} (S : X → Type 0)
    → ((x y : X) → S x → Step x y → S y) → (p : X) (path : List X) (q : X) → S p
    → Walk Step p path q → S q
walk_stays S closed p [] q h w = subst S w h
walk_stays S closed p (x ∷ xs) q h w = walk_stays S closed x xs q (closed p x h w.0) w.1

-- what has the roots and is closed under steps has all that is reached
pub reached_stays : {X : Type 0} {Step : X → X → Type 0} {roots : List X} (S : X → Type 0)
    → ((x : X) → Contains roots x → S x) → ((x y : X) → S x → Step x y → S y) → (x : X)
    → Reached Step roots x → S x
reached_stays S rooted closed x h = walk_stays S closed h.root h.path x (rooted h.root h.among) h.walk

-- what is reached by some steps is reached by all steps among which they are
pub reached_along : {X : Type 0} {Step Other : X → X → Type 0} {roots : List X}
    → ((x y : X) → Step x y → Other x y) → (x : X) → Reached Step roots x → Reached Other roots x
reached_along {X} {Step} {Other} {roots} more =
    reached_stays (Reached Other roots) (λ x c. reached_root x c) (λ x y h s. reached_step x y h (more x y s))
