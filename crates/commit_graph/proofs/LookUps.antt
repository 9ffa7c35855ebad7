-- A walk looks up each thing that it found once, so at most as many as are reached.
use Rattle.std.proofs.Common.{◌≡◌, ℕ, ◌+◌, ◌≤◌, List, [], ◌∷◌, length, take, Some, refl, sym, ap, subst, arith, length-append}
use Rattle.std.proofs.lemmas.List.{length-take, length-map}
use Rattle.std.proofs.lemmas.Option.{slice_get_within}
use Rattle.std.specs.Prelude.{Contains, slice_get, map}
use Rattle.rad_base.specs.declared.names.Oid.{Oid}
use Rattle.rad_base.specs.Lists.{AllDiffer}
use Rattle.rad_base.proofs.Members.{map_has}
use Rattle.commit_graph.specs.declared.root.Root.{Root}
use Rattle.commit_graph.specs.Objects.{ObjectMap}
use Rattle.commit_graph.specs.Pairs.{as_commit}
use Rattle.commit_graph.specs.Lists.{Extends}
use Rattle.commit_graph.specs.Walks.{Reached}
use Rattle.commit_graph.specs.Histories.{IsParent, CoversHistory}
use Rattle.commit_graph.proofs.Adding.{take_grown}
use Rattle.commit_graph.proofs.HistoryWalks.{same_commit, all_commits}
use Rattle.commit_graph.proofs.Repeats.{length_within}
use Rattle.commit_graph.proofs.Spread.{Spread}

-- over one turn, of one look-up
pub looks_turn : {X : Type 0} {found xs found' : List X} (start before now : ℕ) (i : ℕ) (x : X)
    → slice_get found i ≡ Some x → Extends found xs found' → now ≤ before + 1
    → before ≤ start + length (take i found) → now ≤ start + length (take (i + 1) found')
looks_turn {X} {found} start before now i x at grown one h =
    omega (arith, one, h, ap length (take_grown i at grown), length-append (take i found) (x ∷ []))

-- what was found is at most what is reached
found_within : {X : Type 0} {Step : X → X → Type 0} {roots done found : List X} (pairs : List X)
    → Spread Step roots done found → AllDiffer found
    → ((x : X) → Reached Step roots x → Contains pairs x) → length found ≤ length pairs
found_within {X} {Step} {roots} {done} {found} pairs h once cover = length_within found pairs once (λ x c. cover x (h.sound x c))

-- at the end
pub looks_all : {X : Type 0} {Step : X → X → Type 0} {roots done found : List X} (start now : ℕ) (i : ℕ) (pairs : List X)
    → now ≤ start + length (take i found) → Spread Step roots done found → AllDiffer found
    → ((x : X) → Reached Step roots x → Contains pairs x) → now ≤ start + length pairs
looks_all {X} {Step} {roots} {done} {found} start now i pairs h s once cover =
    omega (arith, h, length-take i found, found_within pairs s once cover)

-- one more look-up, in the midst of the list
pub looks_more : {X : Type 0} {Step : X → X → Type 0} {roots done found : List X} (start before now : ℕ) (i : ℕ) (x : X) (pairs : List X)
    → slice_get found i ≡ Some x → now ≤ before + 1 → before ≤ start + length (take i found)
    → Spread Step roots done found → AllDiffer found
    → ((x : X) → Reached Step roots x → Contains pairs x) → now ≤ start + length pairs
looks_more {X} {Step} {roots} {done} {found} start before now i x pairs at one h s once cover =
    omega (arith, one, h, slice_get_within found i x at, length-take i found, found_within pairs s once cover)

-- the pairs of a history are those of commits that have its names
pub history_cover : {m : ObjectMap} {new : Oid} (commits : List Oid) → CoversHistory m new commits
    → (q : Root) → Reached (IsParent m) (as_commit new ∷ []) q → Contains (map as_commit commits) q
history_cover {m} {new} commits cover q r =
    let same : q ≡ as_commit q.oid = same_commit q q.oid refl (all_commits m new q r) in
    subst (Contains (map as_commit commits)) (sym same)
    (map_has as_commit commits q.oid (cover q.oid (subst (Reached (IsParent m) (as_commit new ∷ [])) same r)))

-- and as many
pub commits_many : (commits : List Oid) → length (map as_commit commits) ≡ length commits
commits_many commits = length-map commits as_commit
