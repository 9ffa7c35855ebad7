-- Commits that have one parent each.
use Rattle.std.specs.Prelude.{◌≡◌, ℕ, ◌≤◌, List, [], ◌∷◌, length, map, filter, Contains, Option, Some, None}
use Rattle.rad_base.specs.Lists.{AllDiffer}
use Rattle.rad_base.specs.declared.names.Oid.{Oid}
use Rattle.git_object.specs.declared.kind.Kind.TheVariants.{Commit}
use Rattle.git_object.specs.declared.link.LinkTo.{LinkTo}
use Rattle.git_object.specs.Links.{links, IsWellFormed}
use Rattle.commit_graph.specs.declared.fault.GetFault.{GetFault}
use Rattle.commit_graph.specs.declared.chains.ChainFault.{ChainFault}
use Rattle.commit_graph.specs.declared.chains.ChainFault.TheVariants.{TwoParents, NoRoot, Get}
use Rattle.commit_graph.specs.Objects.{ObjectMap}
use Rattle.commit_graph.specs.Pairs.{is_commit_link}
use Rattle.commit_graph.specs.Walks.{Walk}

-- the links to commits, in order
abbrev pub linked_commits : List LinkTo → List Oid
linked_commits found = map (λ link. link.oid) (filter is_commit_link found)

-- the name has a commit, which is well formed and has these parents in order
pub record HasParents (objects : ObjectMap) (oid : Oid) (parents : List Oid) : Type 0 where
  pub bytes : List ℕ
  pub there : objects oid ≡ Some (Commit, bytes)
  pub formed : IsWellFormed Commit bytes
  pub are : parents ≡ linked_commits (links Commit bytes)

-- the first is the only parent of the second
abbrev pub IsOnlyParent : ObjectMap → Oid → Oid → Type 0
IsOnlyParent objects parent child = HasParents objects child (parent ∷ [])

-- the first commit has no parent, each later one has the one before as its only parent, and the last is the tip
abbrev pub IsChain : ObjectMap → List Oid → Oid → Type 0
IsChain objects [] tip = ⊥
IsChain objects (root ∷ later) tip = HasParents objects root [] × Walk (IsOnlyParent objects) root later tip

-- from a commit on, each of the list has one parent, which is the next, and that of the last is the end
abbrev pub IsLine : ObjectMap → Oid → List Oid → Oid → Type 0
IsLine objects from [] end = from ≡ end
IsLine objects from (oid ∷ line) end = (from ≡ oid) × ((parent : Oid) × IsOnlyParent objects parent oid × IsLine objects parent line end)

-- the first commit from the tip that has two parents or more
pub record IsFork (objects : ObjectMap) (tip oid : Oid) : Type 0 where
  pub line : List Oid
  pub walked : IsLine objects tip line oid
  pub parents : List Oid
  pub has : HasParents objects oid parents
  pub several : 2 ≤ length parents

-- the walk from the tip comes back to this commit
pub record IsReturn (objects : ObjectMap) (tip oid : Oid) : Type 0 where
  pub line : List Oid
  pub walked : IsLine objects tip line oid
  pub among : Contains line oid
  pub once : AllDiffer line

-- each refusal by what the walk from the tip came to
abbrev pub IsChainFault : ObjectMap → Oid → ChainFault → Type 0
IsChainFault objects tip (TwoParents oid) = IsFork objects tip oid
IsChainFault objects tip (NoRoot oid) = IsReturn objects tip oid
IsChainFault objects tip (Get why) = Unit {0}

-- the fault of objects that a refusal is
abbrev pub fault_in : ChainFault → Option GetFault
fault_in (TwoParents oid) = None
fault_in (NoRoot oid) = None
fault_in (Get why) = Some why
