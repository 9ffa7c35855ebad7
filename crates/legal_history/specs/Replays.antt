-- What a history makes of each repository, and what it heard.
use Rattle.std.specs.Prelude.{◌≡◌, ◌≤◌, ℕ, length, Bool, if◌then◌else◌, List, [], ◌∷◌, Option, None, Some}
use Rattle.std.specs.Option.{option_or}
use Rattle.std.specs.Ordering.{is_eq}
use Rattle.rad_base.specs.Order.{rid_cmp}
use Rattle.rad_base.specs.declared.names.Nid.{Nid}
use Rattle.rad_base.specs.declared.names.Oid.{Oid}
use Rattle.rad_base.specs.declared.names.Rid.{Rid}
use Rattle.commit_graph.specs.InMemory.{objects_in}
use Rattle.commit_graph.specs.Objects.{Object, ObjectMap}
use Rattle.gossip_wire.specs.declared.message.Message.{Message}
use Rattle.repo_entries.specs.Items.{Item, claim, put, install, heard, missed, refused}
use Rattle.repo_slice.specs.Standing.{replaced}
use Rattle.repo_slice.specs.declared.state.State.{State}

-- what stands of a repository: objects, the identity or none, and the remotes
pub record Standing : Type 0 where
  pub objects : ObjectMap
  pub id : Option Oid
  pub remotes : List (Nid × Oid)

-- nothing
abbrev pub nothing_stands : Standing
nothing_stands = record { objects = λ oid. None; id = None; remotes = [] }

-- objects that are put among others: a name that is held keeps its object
abbrev pub with_objects : ObjectMap → List Object → ObjectMap
with_objects objects batch oid = option_or (objects oid) (objects_in batch oid)

-- two names of repositories are one
abbrev pub is_same : Rid → Rid → Bool
is_same a b = is_eq (rid_cmp a b)

-- once objects are put
abbrev pub after_put : List Object → Standing → Standing
after_put batch s = record { objects = with_objects s.objects batch; id = s.id; remotes = s.remotes }

-- once an identity and remotes are installed
abbrev pub after_install : Oid → List (Nid × Oid) → Standing → Standing
after_install id remotes s = record { objects = s.objects; id = Some id; remotes = replaced s.remotes remotes }

-- what an entry makes of a repository
abbrev pub after_item : Rid → Standing → Item → Standing
after_item rid s (claim of caller) = s
after_item rid s (put of batch caller) = if is_same rid of then after_put batch s else s
after_item rid s (install of id remotes caller) = if is_same rid of then after_install id remotes s else s
after_item rid s (heard message caller) = s
after_item rid s (missed of left caller) = s
after_item rid s (refused of why caller) = s

-- what entries make of it, in order
abbrev pub after_items : Rid → Standing → List Item → Standing
after_items rid s [] = s
after_items rid s (item ∷ items) = after_items rid (after_item rid s item) items

-- what a history makes of a repository
abbrev pub replay : Rid → List Item → Standing
replay rid items = after_items rid nothing_stands items

-- no object has more than 33,554,432 bytes of content
abbrev pub AreShort : ObjectMap → Type 0
AreShort objects = (oid : Oid) (object : Object) → objects oid ≡ Some object → length object.1 ≤ 33554432

-- it without its objects
abbrev pub state_in : Rid → Standing → State
state_in rid s = record { rid = rid; id = s.id; remotes = s.remotes }

-- the state that a history makes of a repository
abbrev pub replayed_state : Rid → List Item → State
replayed_state rid items = state_in rid (replay rid items)

-- the caller that claimed the repository first, or 0
abbrev pub claimant : Rid → List Item → ℕ
claimant rid [] = 0
claimant rid (claim of caller ∷ items) = if is_same rid of then caller else claimant rid items
claimant rid (put of batch caller ∷ items) = claimant rid items
claimant rid (install of id remotes caller ∷ items) = claimant rid items
claimant rid (heard message caller ∷ items) = claimant rid items
claimant rid (missed of left caller ∷ items) = claimant rid items
claimant rid (refused of why caller ∷ items) = claimant rid items

-- the announcements that were heard, in order
abbrev pub messages_in : List Item → List Message
messages_in [] = []
messages_in (claim rid caller ∷ items) = messages_in items
messages_in (put rid batch caller ∷ items) = messages_in items
messages_in (install rid id remotes caller ∷ items) = messages_in items
messages_in (heard message caller ∷ items) = message ∷ messages_in items
messages_in (missed of left caller ∷ items) = messages_in items
messages_in (refused rid why caller ∷ items) = messages_in items
