-- What is replied to a request, by the entries of a store.
use Rattle.std.specs.Prelude.{◌≡◌, ℕ, List, Option, None, Some}
use Rattle.std.specs.BTreeMap.{BTreeMap, get}
use Rattle.std.specs.Option.{option_and_then}
use Rattle.rad_base.specs.Order.{rid_cmp}
use Rattle.rad_base.specs.declared.names.Nid.{Nid}
use Rattle.rad_base.specs.declared.names.Oid.{Oid}
use Rattle.rad_base.specs.declared.names.Rid.{Rid}
use Rattle.commit_graph.specs.Objects.{ObjectMap}
use Rattle.keyring.specs.Contents.{Contents}
use Rattle.repo_entries.specs.Items.{Item}
use Rattle.fetch_wire.specs.declared.request.Request.{Request}
use Rattle.fetch_serve.specs.Replies.{IsReply, refusal_text, rid_of}
use Rattle.fetch_serve.specs.Showings.{IsGoodFor, showing}
use Rattle.repo_slice.specs.Slices.{objects_of, state_of}
use Rattle.repo_slice.specs.declared.state.State.{State}
use Rattle.legal_history.specs.Replays.{replay, replayed_state}
use Rattle.object_store.specs.declared.repository.Repository.{Repository}

-- where there is no identity, nothing is shown
abbrev pub IsReplyWith : ObjectMap → Option Oid → List (Nid × Oid) → Contents → Request → Nid → List ℕ → Type 0
IsReplyWith objects None remotes keyring request asker bytes = bytes ≡ refusal_text 1
IsReplyWith objects (Some id) remotes keyring request asker bytes = IsReply (showing objects id remotes) keyring request asker bytes

-- the reply on objects and a state
abbrev pub IsReplyOn : ObjectMap → State → Contents → Request → Nid → List ℕ → Type 0
IsReplyOn objects state keyring request asker bytes = IsReplyWith objects state.id state.remotes keyring request asker bytes

-- the reply on what the entries make of the repository that is asked for
abbrev pub IsReplyAbout : Option Rid → List Item → Contents → Request → Nid → List ℕ → Type 0
IsReplyAbout None items keyring request asker bytes = bytes ≡ refusal_text 1
IsReplyAbout (Some rid) items keyring request asker bytes = IsReplyOn (replay rid items).objects (replayed_state rid items) keyring request asker bytes

abbrev pub IsReplyBy : List Item → Contents → Request → Nid → List ℕ → Type 0
IsReplyBy items keyring request asker bytes = IsReplyAbout (rid_of request) items keyring request asker bytes

-- what is shown is good as the repository that is asked for
abbrev pub IsGoodWith : ObjectMap → Option Oid → List (Nid × Oid) → Contents → Request → Type 0
IsGoodWith objects None remotes keyring request = Unit {0}
IsGoodWith objects (Some id) remotes keyring request = IsGoodFor (showing objects id remotes) keyring request

-- the reply on what a repository has, where that is good
abbrev pub IsReplyOf : Option Repository → Contents → Request → Nid → List ℕ → Type 0
IsReplyOf None keyring request asker bytes = bytes ≡ refusal_text 1
IsReplyOf (Some r) keyring request asker bytes =
    IsGoodWith (objects_of r.slice) (state_of r.slice).id (state_of r.slice).remotes keyring request
    → IsReplyOn (objects_of r.slice) (state_of r.slice) keyring request asker bytes

-- the repository that is asked for, of these
abbrev pub asked_in : BTreeMap Rid Repository → Request → Option Repository
asked_in repositories request = option_and_then (λ rid. get rid_cmp repositories rid) (rid_of request)
