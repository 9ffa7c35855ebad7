-- A list that a walk fills: what was followed, and what was found.
use Rattle.std.proofs.Common.{◌≡◌, ℕ, ◌+◌, take, Some, List, [], ◌∷◌, ◌++◌, ◌↔◌, sym, subst, ⊎_elim}
use Rattle.std.specs.Prelude.{Contains, slice_get}
use Rattle.std.proofs.lemmas.List.Elements.{Contains-push_cases}
use Rattle.rad_base.proofs.Members.{contains_nothing, contains_at}
use Rattle.commit_graph.specs.Lists.{Extends, Follows}
use Rattle.commit_graph.specs.Walks.{Reached}
use Rattle.commit_graph.proofs.Adding.{extends_cases, extends_kept, take_grown}
use Rattle.commit_graph.proofs.Walked.{reached_root, reached_step, reached_stays}

-- the roots are found, what is found is reached, and what follows a done item is found
pub record Spread {X : Type 0} (Step : X → X → Type 0) (roots done found : List X) : Type 0 where
  pub rooted : (x : X) → Contains roots x → Contains found x
  pub sound : (x : X) → Contains found x → Reached Step roots x
  pub closed : (x y : X) → Contains done x → Step x y → Contains found y

-- at the start the roots are found
pub spread_start : {X : Type 0} {Step : X → X → Type 0} {roots found : List X}
    → Extends [] roots found → Spread Step roots [] found
spread_start {X} {Step} {roots} {found} h = record {
  rooted = λ x c. h.has x c;
  sound = λ x c. ⊎_elim (λ a. absurd (contains_nothing x a)) (λ a. reached_root x a) (extends_cases h x c);
  closed = λ x y c s. absurd (contains_nothing x c);
}

-- one turn follows one item
pub spread_turn : {X : Type 0} {Step : X → X → Type 0} {roots done found links found' done' : List X} {x : X}
    → Spread Step roots done found → Contains found x → ((y : X) → Step x y → Contains links y)
    → ((y : X) → Contains links y → Step x y) → Extends found links found' → done' ≡ done ++ x ∷ []
    → Spread Step roots done' found'
spread_turn {X} {Step} {roots} {done} {found} {links} {found'} {done'} {x} h here all only grown e = record {
  rooted = λ y c. extends_kept grown y (h.rooted y c);
  sound = λ y c. ⊎_elim (λ a. h.sound y a) (λ a. reached_step x y (h.sound x here) (only y a)) (extends_cases grown y c);
  closed = λ y z c s. ⊎_elim (λ a. extends_kept grown z (h.closed y z a s)) (λ a. grown.has z (all z (subst (λ (w : X). Step w z) (sym a) s)))
      (Contains-push_cases done x y (subst (λ (ys : List X). Contains ys y) e c));
}

-- one turn of a walk with a cursor
pub spread_follows : {X : Type 0} {Step : X → X → Type 0} {roots found found' : List X} (i : ℕ) (x : X)
    → slice_get found i ≡ Some x → Spread Step roots (take i found) found
    → Follows Step x found found' → Spread Step roots (take (i + 1) found') found'
spread_follows {X} {Step} {roots} {found} i x at h f =
    spread_turn h (contains_at found i x at) f.all f.only f.grown (take_grown i at f.grown)

-- the items before the cursor that were followed have a property, and so has the next one
pub done_turn : {X : Type 0} (P : X → Type 0) (done : List X) {done' : List X} {x : X}
    → ((q : X) → Contains done q → P q) → P x → done' ≡ done ++ x ∷ [] → (q : X) → Contains done' q
    → P q
done_turn {X} P done {done'} {x} h here e q c =
    ⊎_elim (λ a. h q a) (λ a. subst P a here) (Contains-push_cases done x q (subst (λ (ys : List X). Contains ys q) e c))

-- in the end all that is reached is found
pub spread_end : {X : Type 0} {Step : X → X → Type 0} {roots done found : List X}
    → Spread Step roots done found → done ≡ found → (x : X) → Reached Step roots x
    → Contains found x
spread_end {X} {Step} {roots} {done} {found} h e =
    reached_stays (Contains found) h.rooted (λ x y c s. h.closed x y (subst (λ (ys : List X). Contains ys x) (sym e) c) s)

-- so what is found is what is reached
pub spread_all : {X : Type 0} {Step : X → X → Type 0} {roots done found : List X}
    → Spread Step roots done found → done ≡ found → (x : X)
    → Contains found x ↔ Reached Step roots x
spread_all h e x = (λ c. h.sound x c, λ r. spread_end h e x r)
