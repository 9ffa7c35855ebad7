-- The head of a repository of a store.
use Rattle.std.proofs.Common.{◌≡◌, List, Option, None, Some, subst}
use Rattle.std.specs.Prelude.{IsSome}
use Rattle.rad_base.specs.declared.names.Rid.{Rid}
use Rattle.canonical_head.specs.declared.answer.Head.{Head}
use Rattle.commit_graph.specs.Objects.{ObjectMap}
use Rattle.keyring.specs.Contents.{Contents}
use Rattle.repo_entries.specs.Items.{Item}
use Rattle.repo_slice.specs.Good.{IsGood}
use Rattle.repo_slice.specs.Heads.{IsHeadOf}
use Rattle.repo_slice.specs.Slices.{objects_of, state_of}
use Rattle.repo_slice.specs.declared.state.State.{State}
use Rattle.legal_history.specs.Histories.{Legal}
use Rattle.legal_history.specs.Replays.{replay, replayed_state}
use Rattle.object_store.specs.Installs.{HasIdentityAt}
use Rattle.object_store.specs.Repositories.{StandsAs, StandsKnown}
use Rattle.object_store.specs.declared.repository.Repository.{Repository}
use Rattle.object_store.proofs.Installing.{stands_good}

-- what is told of the slice is so of what the entries make of it
told_on : (o : Option Repository) (r : Repository) (rid : Rid) (keyring : Contents) (items : List Item) (head : Option Head) → o ≡ Some r → StandsKnown o rid items → Legal keyring items
    → (IsGood (objects_of r.slice) keyring (state_of r.slice) → IsHeadOf (objects_of r.slice) keyring (state_of r.slice) head)
    → IsHeadOf (replay rid items).objects keyring (replayed_state rid items) head
told_on o r rid keyring items head e h legal told =
    let at : StandsAs r rid items = subst (λ (x : Option Repository). StandsKnown x rid items) e h in
    subst (λ (objects : ObjectMap). IsHeadOf objects keyring (replayed_state rid items) head) at.objects
    (subst (λ (state : State). IsHeadOf (objects_of r.slice) keyring state head) at.state (told (stands_good r rid keyring items legal at)))

pub head_on : (o : Option Repository) (r : Repository) (rid : Rid) (keyring : Contents) (items : List Item) (head : Head) → o ≡ Some r → StandsKnown o rid items → Legal keyring items
    → (IsGood (objects_of r.slice) keyring (state_of r.slice) → IsHeadOf (objects_of r.slice) keyring (state_of r.slice) (Some head))
    → IsHeadOf (replay rid items).objects keyring (replayed_state rid items) (Some head)
head_on o r rid keyring items head e h legal told = told_on o r rid keyring items (Some head) e h legal told

-- with an identity there is a head
pub no_head : (o : Option Repository) (r : Repository) (rid : Rid) (keyring : Contents) (items : List Item) → o ≡ Some r → StandsKnown o rid items → Legal keyring items → HasIdentityAt o
    → (IsGood (objects_of r.slice) keyring (state_of r.slice) → IsHeadOf (objects_of r.slice) keyring (state_of r.slice) None) → ⊥
no_head o r rid keyring items e h legal has told =
    let at : StandsAs r rid items = subst (λ (x : Option Repository). StandsKnown x rid items) e h in
    let some : IsSome (state_of r.slice).id = subst HasIdentityAt e has in
    let none : (state_of r.slice).id ≡ None = told (stands_good r rid keyring items legal at) in
    cc (some, none)
