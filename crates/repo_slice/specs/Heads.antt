-- The canonical head of a repository: that of the tips of its delegates.
use Rattle.std.specs.Prelude.{◌≡◌, ◌⊎◌, ℕ, List, [], ◌∷◌, ◌++◌, Contains, codes, Option, None, Some}
use Rattle.rad_base.specs.declared.names.Nid.{Nid}
use Rattle.rad_base.specs.declared.names.Oid.{Oid}
use Rattle.rad_base.specs.Order.{commit_of}
use Rattle.git_object.specs.declared.kind.Kind.TheVariants as kinds
use Rattle.commit_graph.specs.Objects.{ObjectMap}
use Rattle.keyring.specs.Contents.{Contents}
use Rattle.identity_doc.specs.declared.doc.Doc.{Doc}
use Rattle.identity_doc.specs.IdentityChains.{HasIdentity}
use Rattle.signed_refs.specs.Lines.{Line}
use Rattle.signed_refs.specs.Said.{Says}
use Rattle.canonical_head.specs.Heads.{IsHead}
use Rattle.canonical_head.specs.declared.answer.Head.{Head}
use Rattle.canonical_head.specs.declared.answer.Head.TheVariants.{NoBranch}
use Rattle.repo_slice.specs.declared.state.State.{State}

-- the name has a commit
abbrev pub IsCommitAt : ObjectMap → Oid → Type 0
IsCommitAt objects oid = (bytes : List ℕ) × (objects oid ≡ Some (kinds.Commit, bytes))

-- the commit that a signed commit names by this ref
pub record HasTip (objects : ObjectMap) (commit : Oid) (name : List ℕ) (tip : Oid) : Type 0 where
  pub refs : List Line
  pub says : Says objects commit refs
  pub line : Contains refs (name, tip)
  pub is : IsCommitAt objects tip

-- the tip, and none where there is none
abbrev pub FindsTip : ObjectMap → Oid → List ℕ → Option Oid → Type 0
FindsTip objects commit name None = (tip : Oid) → HasTip objects commit name tip → ⊥
FindsTip objects commit name (Some tip) = HasTip objects commit name tip

-- the tip of a node: that of its stored commit
abbrev pub IsTipOf : ObjectMap → List (Nid × Oid) → List ℕ → Nid → Oid → Type 0
IsTipOf objects remotes name node tip = (commit : Oid) × (commit_of remotes node ≡ Some commit) × HasTip objects commit name tip

-- the tip of a node, and none where it has none
abbrev pub FindsTipOf : ObjectMap → List (Nid × Oid) → List ℕ → Nid → Option Oid → Type 0
FindsTipOf objects remotes name node None = (tip : Oid) → IsTipOf objects remotes name node tip → ⊥
FindsTipOf objects remotes name node (Some tip) = IsTipOf objects remotes name node tip

-- an item, if there is one
abbrev pub if_some : {X : Type 0} → Option X → List X
if_some None = []
if_some (Some x) = x ∷ []

-- the tips of those of the nodes that have one, in order
abbrev pub AreTips : ObjectMap → List (Nid × Oid) → List ℕ → List Nid → List Oid → Type 0
AreTips objects remotes name [] tips = tips ≡ []
AreTips objects remotes name (node ∷ nodes) tips =
    ((tip : Oid) × IsTipOf objects remotes name node tip × ((rest : List Oid) × (tips ≡ tip ∷ rest) × AreTips objects remotes name nodes rest))
    ⊎ (((tip : Oid) → IsTipOf objects remotes name node tip → ⊥) × AreTips objects remotes name nodes tips)

-- the head by the tips of a branch; where the document names no branch there is none
abbrev pub IsHeadBy : ObjectMap → List (Nid × Oid) → Doc → Option (List ℕ) → Head → Type 0
IsHeadBy objects remotes doc None head = head ≡ NoBranch
IsHeadBy objects remotes doc (Some branch) head =
    (tips : List Oid) × AreTips objects remotes (codes "refs/heads/" ++ branch) doc.delegates tips × IsHead objects tips doc.threshold head

-- the head by the document of the identity; none exactly without an identity
abbrev pub IsHeadOf : ObjectMap → Contents → State → Option Head → Type 0
IsHeadOf objects keyring state None = state.id ≡ None
IsHeadOf objects keyring state (Some head) = (id : Oid) × (state.id ≡ Some id)
    × ((doc : Doc) × HasIdentity objects keyring state.rid id doc × IsHeadBy objects state.remotes doc doc.default_branch head)
