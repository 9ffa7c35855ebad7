-- The canonical head of some tips.
use Rattle.std.specs.Prelude.{◌≡◌, ℕ, ◌+◌, ◌≤◌, ◌⊎◌, List, [], ◌∷◌, Contains}
use Rattle.rad_base.specs.declared.names.Oid.{Oid}
use Rattle.commit_graph.specs.Objects.{ObjectMap}
use Rattle.commit_graph.specs.Histories.{InHistory}
use Rattle.commit_graph.specs.Closures.{IsLeast, HasNone}
use Rattle.canonical_head.specs.declared.answer.Head.{Head}
use Rattle.canonical_head.specs.declared.answer.Head.TheVariants.{At, NoQuorum, Diverging, NoBranch}

-- n of the items have P
abbrev pub Counts : {X : Type 0} → (X → Type 0) → List X → ℕ → Type 0
Counts P [] n = n ≡ 0
Counts P (x ∷ xs) n = (P x × ((k : ℕ) × (n ≡ k + 1) × Counts P xs k)) ⊎ ((P x → ⊥) × Counts P xs n)

-- each commit in the history of a tip is among these
abbrev pub CoversHistories : ObjectMap → List Oid → List Oid → Type 0
CoversHistories objects tips commits = (old new : Oid) → Contains tips new → InHistory objects old new → Contains commits old

-- n of the tips have the commit in their history; a tip counts as often as it stands
abbrev pub HasVotes : ObjectMap → List Oid → Oid → ℕ → Type 0
HasVotes objects tips oid n = Counts (λ tip. InHistory objects oid tip) tips n

-- a tip that has votes enough
abbrev pub IsCandidate : ObjectMap → List Oid → ℕ → Oid → Type 0
IsCandidate objects tips threshold oid = Contains tips oid × ((n : ℕ) × HasVotes objects tips oid n × (threshold ≤ n))

-- a candidate that has every candidate in its history
abbrev pub IsTop : ObjectMap → List Oid → ℕ → Oid → Type 0
IsTop objects tips threshold oid =
    IsCandidate objects tips threshold oid × ((other : Oid) → IsCandidate objects tips threshold other → InHistory objects other oid)

-- neither lies in the history of the other
abbrev pub IsBeside : ObjectMap → Oid → Oid → Type 0
IsBeside objects a b = (InHistory objects a b → ⊥) × (InHistory objects b a → ⊥)

-- a candidate beside this one
abbrev pub IsRival : ObjectMap → List Oid → ℕ → Oid → Oid → Type 0
IsRival objects tips threshold oid other = IsCandidate objects tips threshold other × IsBeside objects oid other

-- a candidate that has another beside it
abbrev pub HasRival : ObjectMap → List Oid → ℕ → Oid → Type 0
HasRival objects tips threshold oid = IsCandidate objects tips threshold oid × ((other : Oid) × IsRival objects tips threshold oid other)

-- no candidate; the least that has all candidates in its history; else the least pair beside each other
abbrev pub IsHead : ObjectMap → List Oid → ℕ → Head → Type 0
IsHead objects tips threshold NoQuorum = HasNone (IsCandidate objects tips threshold)
IsHead objects tips threshold (At oid) = IsLeast (IsTop objects tips threshold) oid
IsHead objects tips threshold (Diverging a b) =
    HasNone (IsTop objects tips threshold) × IsLeast (HasRival objects tips threshold) a × IsLeast (IsRival objects tips threshold a) b
IsHead objects tips threshold NoBranch = ⊥
