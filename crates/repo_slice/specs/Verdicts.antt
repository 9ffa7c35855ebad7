-- What the judging of an offer answers.
use Rattle.std.specs.Prelude.{◌≡◌, ◌≢◌, ℕ, ◌≤◌, ◌<◌, List, length, None, Some, Result, Ok, Err}
use Rattle.rad_base.specs.declared.names.Nid.{Nid}
use Rattle.rad_base.specs.declared.names.Oid.{Oid}
use Rattle.rad_base.specs.declared.offer.Offer.{Offer}
use Rattle.commit_graph.specs.Objects.{ObjectMap}
use Rattle.commit_graph.specs.Histories.{InHistory}
use Rattle.keyring.specs.Contents.{Contents}
use Rattle.identity_doc.specs.declared.doc.Doc.{Doc}
use Rattle.identity_doc.specs.IdentityChains.{HasIdentity}
use Rattle.identity_doc.specs.IdentityFaults.{IsGet, IsIdFault}
use Rattle.repo_slice.specs.declared.scope.Scope.{Scope}
use Rattle.repo_slice.specs.declared.scope.Scope.TheVariants.{All}
use Rattle.repo_slice.specs.declared.state.State.{State}
use Rattle.repo_slice.specs.declared.verdict.IdOutcome.{IdOutcome}
use Rattle.repo_slice.specs.declared.verdict.IdOutcome.TheVariants.{First, Same, Stale, Advanced}
use Rattle.repo_slice.specs.declared.verdict.Judged.{Judged}
use Rattle.repo_entries.specs.declared.whole.Whole.{Whole}
use Rattle.repo_entries.specs.declared.whole.Whole.TheVariants.{IdForked, IdFault, TooFewDelegates}
use Rattle.repo_slice.specs.Outcomes.{AreOutcomes, Case, advanced_in}
use Rattle.repo_slice.specs.Standing.{Replaces, delegates_in}

-- the commit does not lie in the history of the identity that stands
abbrev pub IsNewId : ObjectMap → State → Oid → Type 0
IsNewId objects state id = (stands : Oid) → state.id ≡ Some stands → InHistory objects id stands → ⊥

-- the outcome of an offered identity, and the next one
abbrev pub IsIdOutcome : ObjectMap → State → Oid → IdOutcome → Oid → Type 0
IsIdOutcome objects state id First next = (state.id ≡ None) × (next ≡ id)
IsIdOutcome objects state id Same next = (state.id ≡ Some id) × (next ≡ id)
IsIdOutcome objects state id Stale next = (state.id ≡ Some next) × (next ≡ id → ⊥) × InHistory objects id next
IsIdOutcome objects state id Advanced next =
    IsNewId objects state id × ((stands : Oid) × (state.id ≡ Some stands) × InHistory objects stands id) × (next ≡ id)

-- the identity that stands does not lie in the history of the offered one
pub record IsIdForked (objects : ObjectMap) (keyring : Contents) (state : State) (id : Oid) : Type 0 where
  pub new : IsNewId objects state id
  pub doc : Doc
  pub identity : HasIdentity objects keyring state.rid id doc
  pub stands : Oid
  pub is : state.id ≡ Some stands
  pub apart : InHistory objects stands id → ⊥

-- what the offered remotes are judged by, once the next identity has this document
abbrev pub case_of : Contents → State → Scope → Doc → Case
case_of keyring state scope doc = record { rid = state.rid; remotes = state.remotes; keyring = keyring; doc = doc; scope = scope }

-- the identity and each remote have these outcomes, and the next identity has this document
pub record AreVerdicts (objects : ObjectMap) (keyring : Contents) (state : State) (offer : Offer) (scope : Scope) (judged : Judged) (doc : Doc) : Type 0 where
  pub identity : IsIdOutcome objects state offer.id judged.id_outcome judged.next_id
  pub document : HasIdentity objects keyring state.rid judged.next_id doc
  pub outcomes : AreOutcomes objects (case_of keyring state scope doc) (length state.remotes) offer.remotes judged.outcomes
  pub advanced : judged.advanced ≡ advanced_in offer.remotes judged.outcomes

-- so many delegates have a remote once the advanced ones are replaced or added
abbrev pub have_next : State → Judged → Doc → ℕ
have_next state judged doc = delegates_in state.remotes judged.advanced doc.delegates

-- the offer would leave fewer delegates with a remote than the threshold
pub record IsTooFew (objects : ObjectMap) (keyring : Contents) (state : State) (offer : Offer) (scope : Scope) (have need : ℕ) : Type 0 where
  pub judged : Judged
  pub doc : Doc
  pub are : AreVerdicts objects keyring state offer scope judged doc
  pub counted : have ≡ have_next state judged doc
  pub threshold : need ≡ doc.threshold
  pub few : have < need

-- why an offered identity is refused
abbrev pub IsIdRefused : ObjectMap → Contents → State → Oid → Whole → Type 0
IsIdRefused objects keyring state id IdForked = IsIdForked objects keyring state id
IsIdRefused objects keyring state id (IdFault why) =
    IsNewId objects state id × IsIdFault objects keyring state.rid id why × (IsGet why → ⊥)
IsIdRefused objects keyring state id (TooFewDelegates have need) = ⊥

-- why an offer is refused whole: its identity, or too few delegates
abbrev pub IsRefusedWhole : ObjectMap → Contents → State → Offer → Scope → Whole → Type 0
IsRefusedWhole objects keyring state offer scope IdForked = IsIdForked objects keyring state offer.id
IsRefusedWhole objects keyring state offer scope (IdFault why) = IsIdRefused objects keyring state offer.id (IdFault why)
IsRefusedWhole objects keyring state offer scope (TooFewDelegates have need) = IsTooFew objects keyring state offer scope have need

-- the offer is judged so, and enough delegates have a remote
abbrev pub IsJudged : ObjectMap → Contents → State → Offer → Scope → Judged → Type 0
IsJudged objects keyring state offer scope judged =
    (doc : Doc) × AreVerdicts objects keyring state offer scope judged doc × (doc.threshold ≤ have_next state judged doc)

-- a whole refusal is not for a fault of the objects
abbrev pub IsChecked : Whole → Type 0
IsChecked IdForked = Unit {0}
IsChecked (IdFault why) = IsGet why → ⊥
IsChecked (TooFewDelegates have need) = Unit {0}

-- what the judging answers
abbrev pub IsVerdict : ObjectMap → Contents → State → Offer → Scope → Result Judged Whole → Type 0
IsVerdict objects keyring state offer scope (Ok judged) = IsJudged objects keyring state offer scope judged
IsVerdict objects keyring state offer scope (Err why) = IsRefusedWhole objects keyring state offer scope why

-- what stands once an identity and some remotes are installed
pub record IsInstalled (old : State) (commit : Oid) (some : List (Nid × Oid)) (new : State) : Type 0 where
  pub rid : new.rid ≡ old.rid
  pub id : new.id ≡ Some commit
  pub remotes : Replaces old.remotes some new.remotes

-- what stands once an offer was judged so
abbrev pub IsNextState : State → Judged → State → Type 0
IsNextState state judged next = IsInstalled state judged.next_id judged.advanced next

-- Some verdict on the identity and the remotes with every scope is no whole refusal, does not leave
-- another identity, and advances each of the remotes.
pub record Allows (objects : ObjectMap) (keyring : Contents) (state : State) (id : Oid) (remotes : List (Nid × Oid)) : Type 0 where
  pub judged : Judged
  pub is : IsJudged objects keyring state (record { id = id; remotes = remotes }) All judged
  pub fresh : judged.id_outcome ≢ Stale
  pub same : judged.advanced ≡ remotes
