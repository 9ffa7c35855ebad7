-- Which of the offered remotes are asked for.
use Rattle.std.specs.Prelude.{◌≡◌, ◌⊎◌, List, [], ◌∷◌}
use Rattle.rad_base.specs.declared.names.Nid.{Nid}
use Rattle.rad_base.specs.declared.names.Oid.{Oid}
use Rattle.rad_base.specs.declared.offer.Offer.{Offer}
use Rattle.commit_graph.specs.Objects.{ObjectMap}
use Rattle.keyring.specs.Contents.{Contents}
use Rattle.identity_doc.specs.declared.doc.Doc.{Doc}
use Rattle.identity_doc.specs.IdentityChains.{HasIdentity}
use Rattle.signed_refs.specs.Lines.{Line}
use Rattle.repo_slice.specs.declared.scope.Scope.{Scope}
use Rattle.repo_slice.specs.declared.state.State.{State}
use Rattle.repo_slice.specs.declared.verdict.IdOutcome.{IdOutcome}
use Rattle.repo_entries.specs.declared.whole.Whole.{Whole}
use Rattle.repo_slice.specs.declared.wanting.Stage.{Stage}
use Rattle.repo_slice.specs.declared.wanting.Stage.TheVariants.{Sigs, Tips}
use Rattle.repo_slice.specs.Outcomes.{Case, IsLater, IsNews}
use Rattle.repo_slice.specs.Verdicts.{IsIdOutcome, IsIdRefused, case_of}

-- none of the first three outcomes applies; behind the signed refs, none of the first nine
abbrev pub IsWanted : ObjectMap → Case → Stage → Nid → Oid → Type 0
IsWanted objects c Sigs node commit = IsNews objects c node commit
IsWanted objects c Tips node commit = (refs : List Line) × IsLater objects c node commit refs

-- the nodes of the remotes of which P holds, in order
abbrev pub Picks : (Nid → Oid → Type 0) → List (Nid × Oid) → List Nid → Type 0
Picks P [] nodes = nodes ≡ []
Picks P (p ∷ pairs) nodes =
    (P p.0 p.1 × ((rest : List Nid) × (nodes ≡ p.0 ∷ rest) × Picks P pairs rest)) ⊎ ((P p.0 p.1 → ⊥) × Picks P pairs nodes)

-- the nodes of some of the remotes, in order
abbrev pub AreAmong : List (Nid × Oid) → List Nid → Type 0
AreAmong [] nodes = nodes ≡ []
AreAmong (p ∷ pairs) nodes = ((rest : List Nid) × (nodes ≡ p.0 ∷ rest) × AreAmong pairs rest) ⊎ AreAmong pairs nodes

-- the identity has an outcome, and those are asked for that the stage lets through
pub record AreWanted (objects : ObjectMap) (keyring : Contents) (state : State) (offer : Offer) (scope : Scope) (stage : Stage) (nodes : List Nid) : Type 0 where
  pub outcome : IdOutcome
  pub next : Oid
  pub identity : IsIdOutcome objects state offer.id outcome next
  pub doc : Doc
  pub document : HasIdentity objects keyring state.rid next doc
  pub picks : Picks (IsWanted objects (case_of keyring state scope doc) stage) offer.remotes nodes

-- none where the identity is refused
abbrev pub IsWantedList : ObjectMap → Contents → State → Offer → Scope → Stage → List Nid → Type 0
IsWantedList objects keyring state offer scope stage nodes =
    (((why : Whole) × IsIdRefused objects keyring state offer.id why) × (nodes ≡ []))
    ⊎ AreWanted objects keyring state offer scope stage nodes
