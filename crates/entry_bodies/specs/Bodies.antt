-- The bodies of entries that a journal keeps: the objects of a put, what an install names, or an announcement.
use Rattle.std.specs.Prelude.{◌≡◌, ℕ, ◌+◌, ◌*◌, ◌≤◌, List, [], ◌∷◌, ◌++◌, length}
use Rattle.std.specs.List.{AllByRecursion, flat_map}
use Rattle.std.specs.Int.{to_be_bytes, w16, w32}
use Rattle.rad_base.specs.declared.names.Nid.{Nid}
use Rattle.rad_base.specs.declared.names.Oid.{Oid}
use Rattle.rad_base.specs.declared.names.Rid.{Rid}
use Rattle.rad_base.specs.Order.{IsRising}
use Rattle.rad_base.specs.Sizes.{IsOid}
use Rattle.commit_graph.specs.Objects.{Object}
use Rattle.announcements.specs.Announcements.{IsAnnouncement}
use Rattle.gossip_wire.specs.Messages.{message_text}
use Rattle.gossip_wire.specs.declared.message.Message.{Message}
use Rattle.fetch_wire.specs.Sections.{kind_byte}
use Rattle.rad_base.specs.RemoteTexts.{IsPair, pair_text}
use Rattle.repo_entries.specs.Batches.{AreContents, content_size}
use Rattle.repo_entries.specs.Items.{Item, claim, put, install, heard, missed, refused}
use Rattle.entry_bodies.specs.declared.body.Body.{Body}
use Rattle.entry_bodies.specs.declared.body.Body.TheVariants as bodies

-- an object: the byte of its kind, its length in four bytes, its content
abbrev pub held_text : Object → List ℕ
held_text object = kind_byte object.0 ∷ (to_be_bytes w32 (length object.1) ++ object.1)

-- a put: the byte 1, the repository, the number of objects in four bytes, the objects
abbrev pub put_text : Rid → List Object → List ℕ
put_text rid objects = 1 ∷ (rid.0.0 ++ (to_be_bytes w32 (length objects) ++ flat_map held_text objects))

-- an install: the byte 2, the repository, the identity, the number of remotes in two bytes, the remotes
abbrev pub install_text : Rid → Oid → List (Nid × Oid) → List ℕ
install_text rid id remotes =
    2 ∷ (rid.0.0 ++ (id.0 ++ (to_be_bytes w16 (length remotes) ++ flat_map pair_text remotes)))

-- an announcement: the byte 3, and its own bytes
abbrev pub heard_text : Message → List ℕ
heard_text message = 3 ∷ message_text message

-- how many bytes they have
abbrev pub put_size : List Object → ℕ
put_size objects = 25 + (5 * length objects + content_size objects)

abbrev pub install_size : List (Nid × Oid) → ℕ
install_size remotes = 43 + 52 * length remotes

abbrev pub heard_size : Message → ℕ
heard_size message = 1 + length (message_text message)

-- the body of an entry; those of the other entries are never written
abbrev pub body_of : Item → List ℕ
body_of (claim rid caller) = []
body_of (put rid objects caller) = put_text rid objects
body_of (install rid id remotes caller) = install_text rid id remotes
body_of (heard message caller) = heard_text message
body_of (missed of left caller) = []
body_of (refused rid why caller) = []

-- a put whose parts keep the limits of their fields
pub record FitsPut (repository : Rid) (objects : List Object) : Type 0 where
  pub rid : IsOid repository.0
  pub some : 1 ≤ length objects
  pub few : length objects ≤ 1024
  pub each : AreContents objects

-- an install whose parts keep the limits of their fields, its keys strictly rising
pub record FitsInstall (repository : Rid) (identity : Oid) (remotes : List (Nid × Oid)) : Type 0 where
  pub rid : IsOid repository.0
  pub id : IsOid identity
  pub few : length remotes ≤ 1024
  pub each : AllByRecursion IsPair remotes
  pub rising : IsRising remotes

-- an entry that has a body; who made it is not on the disk
abbrev pub HasBody : Item → Type 0
HasBody (claim rid caller) = ⊥
HasBody (put rid objects caller) = FitsPut rid objects × (caller ≡ 0)
HasBody (install rid id remotes caller) = FitsInstall rid id remotes × (caller ≡ 0)
HasBody (heard message caller) = IsAnnouncement message × (caller ≡ 0)
HasBody (missed of left caller) = ⊥
HasBody (refused rid why caller) = ⊥

-- the bytes are the body of this entry
pub record SpellsItem (item : Item) (bytes : List ℕ) : Type 0 where
  pub is : HasBody item
  pub text : bytes ≡ body_of item

-- the entry that was read
abbrev pub item_in : Body → Item
item_in (bodies.Put rid batch) = put rid batch 0
item_in (bodies.Install rid offer) = install rid offer.id offer.remotes 0
item_in (bodies.Heard message) = heard message 0
