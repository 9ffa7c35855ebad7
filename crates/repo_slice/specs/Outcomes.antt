-- What becomes of offered remotes: for each, the first outcome that applies.
use Rattle.std.specs.Prelude.{Bool, false, ◌≡◌, ℕ, ◌+◌, ◌⊎◌, if◌then◌else◌, List, [], ◌∷◌, Contains, None, Some}
use Rattle.std.specs.BTreeSet.{BTreeSet, contains}
use Rattle.std.specs.Ordering.{eq_by_cmp}
use Rattle.std.specs.List.{list_any}
use Rattle.std.specs.Option.{is_some}
use Rattle.rad_base.specs.declared.names.Nid.{Nid}
use Rattle.rad_base.specs.declared.names.Oid.{Oid}
use Rattle.rad_base.specs.declared.names.Rid.{Rid}
use Rattle.commit_graph.specs.declared.answer.Closure.TheVariants as closures
use Rattle.commit_graph.specs.Objects.{ObjectMap}
use Rattle.commit_graph.specs.Closures.{IsClosed, IsClosure}
use Rattle.commit_graph.specs.Histories.{InHistory}
use Rattle.keyring.specs.Contents.{Contents}
use Rattle.identity_doc.specs.declared.doc.Doc.{Doc}
use Rattle.signed_refs.specs.Lines.{Line}
use Rattle.signed_refs.specs.Refusals.{Refuses}
use Rattle.signed_refs.specs.Signed.{Signed}
use Rattle.signed_refs.specs.declared.fault.SigFault.TheVariants as signed
use Rattle.repo_slice.specs.declared.outcomes.Outcome.{Outcome}
use Rattle.repo_slice.specs.declared.outcomes.Outcome.TheVariants.{OutOfScope, Same, Stale, Missing, BadObject, BadSigrefs, NotAccepted, Grafted, Forked, Incomplete, Crowded, Advanced}
use Rattle.repo_slice.specs.declared.scope.Scope.{Scope}
use Rattle.repo_slice.specs.declared.scope.Scope.TheVariants.{All, Followed}
use Rattle.repo_slice.specs.Good.{line_roots}
use Rattle.rad_base.specs.Order.{commit_of, nid_cmp}

-- what offered remotes are judged by, beside the objects
pub record Case : Type 0 where
  pub rid : Rid
  pub remotes : List (Nid × Oid)
  pub keyring : Contents
  pub doc : Doc
  pub scope : Scope

-- all are wanted, or the node is a delegate or followed
abbrev pub IsInScope : Scope → List Nid → Nid → Type 0
IsInScope All delegates node = Unit {0}
IsInScope (Followed nodes) delegates node = Contains delegates node ⊎ Contains nodes node

-- the node is followed, where not all are wanted
abbrev pub is_followed : Scope → Nid → Bool
is_followed All node = false
is_followed (Followed nodes) node = list_any (eq_by_cmp nid_cmp node) nodes

-- the set has exactly the nodes that are followed
abbrev pub AreFollowed : Scope → BTreeSet Nid → Type 0
AreFollowed scope set = (node : Nid) → contains nid_cmp set node ≡ is_followed scope node

-- the same, by the delegates of the document
abbrev pub IsWatched : Case → Nid → Type 0
IsWatched c node = IsInScope c.scope c.doc.delegates node

-- the node has this commit
abbrev pub IsStored : Case → Nid → Oid → Type 0
IsStored c node commit = commit_of c.remotes node ≡ Some commit

-- 1 to 3 do not apply: the node is in scope, and the commit does not lie in the history of a stored one
pub record IsNews (objects : ObjectMap) (c : Case) (node : Nid) (commit : Oid) : Type 0 where
  pub scope : IsWatched c node
  pub ahead : (stored : Oid) → IsStored c node stored → InHistory objects commit stored → ⊥

-- nor do 4 to 9: the commit says refs that the keyring accepts, and a stored one lies in its history
pub record IsLater (objects : ObjectMap) (c : Case) (node : Nid) (commit : Oid) (refs : List Line) : Type 0 where
  pub news : IsNews objects c node commit
  pub signed : Signed objects c.keyring c.rid node commit refs
  pub follows : (stored : Oid) → IsStored c node stored → InHistory objects stored commit

-- nor do 10 and 11: all that the refs reach is there and well formed
pub record IsWhole (objects : ObjectMap) (c : Case) (node : Nid) (commit : Oid) : Type 0 where
  pub refs : List Line
  pub later : IsLater objects c node commit refs
  pub closed : IsClosed objects (line_roots refs)

-- the stored commit does not lie in the history of the offered one
pub record IsForked (objects : ObjectMap) (c : Case) (node : Nid) (commit : Oid) : Type 0 where
  pub news : IsNews objects c node commit
  pub refs : List Line
  pub signed : Signed objects c.keyring c.rid node commit refs
  pub stored : Oid
  pub is : IsStored c node stored
  pub apart : InHistory objects stored commit → ⊥

-- the node is new, and 1,024 remotes stand before it
abbrev pub IsCrowded : Case → ℕ → Nid → Type 0
IsCrowded c count node = (commit_of c.remotes node ≡ None) × (count ≡ 1024)

-- the outcome, where so many remotes stand before the node: the stored ones, and the new ones of lower nodes that advance
abbrev pub IsOutcome : ObjectMap → Case → ℕ → Nid → Oid → Outcome → Type 0
IsOutcome objects c count node commit OutOfScope = IsWatched c node → ⊥
IsOutcome objects c count node commit Same = IsWatched c node × IsStored c node commit
IsOutcome objects c count node commit Stale =
    IsWatched c node × ((stored : Oid) × IsStored c node stored × (stored ≡ commit → ⊥) × InHistory objects commit stored)
IsOutcome objects c count node commit (Missing oid) =
    IsNews objects c node commit × Refuses objects c.keyring c.rid node commit (signed.Missing oid)
IsOutcome objects c count node commit (BadObject oid) =
    (IsNews objects c node commit × Refuses objects c.keyring c.rid node commit (signed.BadObject oid))
    ⊎ ((refs : List Line) × IsLater objects c node commit refs × IsClosure objects (line_roots refs) (closures.BadObject oid))
IsOutcome objects c count node commit BadSigrefs =
    IsNews objects c node commit × Refuses objects c.keyring c.rid node commit signed.BadSigrefs
IsOutcome objects c count node commit NotAccepted =
    IsNews objects c node commit × Refuses objects c.keyring c.rid node commit signed.NotAccepted
IsOutcome objects c count node commit Grafted =
    IsNews objects c node commit × Refuses objects c.keyring c.rid node commit signed.Grafted
IsOutcome objects c count node commit Forked = IsForked objects c node commit
IsOutcome objects c count node commit (Incomplete oid) =
    (refs : List Line) × IsLater objects c node commit refs × IsClosure objects (line_roots refs) (closures.Missing oid)
IsOutcome objects c count node commit Crowded = IsWhole objects c node commit × IsCrowded c count node
IsOutcome objects c count node commit Advanced = IsWhole objects c node commit × (IsCrowded c count node → ⊥)

-- how many remotes stand once a node has its outcome
abbrev pub count_after : List (Nid × Oid) → ℕ → Nid → Outcome → ℕ
count_after remotes count node Advanced = if is_some (commit_of remotes node) then count else count + 1
count_after remotes count node other = count

-- the outcomes of offered remotes in order, where so many remotes stand before the first
abbrev pub AreOutcomes : ObjectMap → Case → ℕ → List (Nid × Oid) → List (Nid × Outcome) → Type 0
AreOutcomes objects c count [] [] = Unit {0}
AreOutcomes objects c count [] (o ∷ outcomes) = ⊥
AreOutcomes objects c count (p ∷ pairs) [] = ⊥
AreOutcomes objects c count (p ∷ pairs) (o ∷ outcomes) =
    (o.0 ≡ p.0) × IsOutcome objects c count p.0 p.1 o.1
    × AreOutcomes objects c (count_after c.remotes count p.0 o.1) pairs outcomes

-- a remote that advances, in front of others
abbrev pub if_advanced : Outcome → Nid × Oid → List (Nid × Oid) → List (Nid × Oid)
if_advanced Advanced remote others = remote ∷ others
if_advanced outcome remote others = others

-- the offered remotes that advance
abbrev pub advanced_in : List (Nid × Oid) → List (Nid × Outcome) → List (Nid × Oid)
advanced_in [] outcomes = []
advanced_in (p ∷ pairs) [] = []
advanced_in (p ∷ pairs) (o ∷ outcomes) = if_advanced o.1 p (advanced_in pairs outcomes)
