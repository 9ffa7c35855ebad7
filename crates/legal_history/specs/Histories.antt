-- Which histories are legal under a keyring.
use Rattle.std.specs.Prelude.{◌≡◌, ◌≤◌, List, [], ◌∷◌, ◌++◌, IsTrue}
use Rattle.rad_base.specs.declared.names.Nid.{Nid}
use Rattle.rad_base.specs.declared.names.Oid.{Oid}
use Rattle.rad_base.specs.Order.{IsRising}
use Rattle.rad_base.specs.declared.names.Rid.{Rid}
use Rattle.gossip_wire.specs.declared.message.Message.{Message}
use Rattle.keyring.specs.Contents.{Contents}
use Rattle.repo_entries.specs.Batches.{IsBatch}
use Rattle.repo_entries.specs.Items.{Item, claim, put, install, heard, missed, refused}
use Rattle.repo_slice.specs.Verdicts.{Allows}
use Rattle.announcements.specs.Announcements.{IsAnnouncement, is_accepted}
use Rattle.announcements.specs.Tables.{Surpasses}
use Rattle.legal_history.specs.Replays.{claimant, messages_in, replay, replayed_state}

-- the install, judged as an offer with every scope, is refused nothing and advances each of its remotes, whose keys rise
pub record MayInstall (keyring : Contents) (before : List Item) (rid : Rid) (id : Oid) (remotes : List (Nid × Oid)) : Type 0 where
  pub rising : IsRising remotes
  pub allowed : Allows (replay rid before).objects keyring (replayed_state rid before) id remotes

-- it is an announcement, the keyring accepts it, and it is greater than each of its key that was heard
pub record MayHear (keyring : Contents) (before : List Item) (message : Message) : Type 0 where
  pub is : IsAnnouncement message
  pub accepted : IsTrue (is_accepted keyring message)
  pub greater : Surpasses (messages_in before) message

-- an entry is lawful after a history
abbrev pub Lawful : Contents → List Item → Item → Type 0
Lawful keyring before (claim rid caller) = (1 ≤ caller) × (claimant rid before ≡ 0)
Lawful keyring before (put rid batch caller) = IsBatch batch × (caller ≡ claimant rid before)
Lawful keyring before (install rid id remotes caller) = MayInstall keyring before rid id remotes × (caller ≡ claimant rid before)
Lawful keyring before (heard message caller) = MayHear keyring before message
Lawful keyring before (missed of left caller) = Unit {0}
Lawful keyring before (refused rid why caller) = caller ≡ claimant rid before

-- each of the entries is lawful after those before it
abbrev pub LegalFrom : Contents → List Item → List Item → Type 0
LegalFrom keyring before [] = Unit {0}
LegalFrom keyring before (item ∷ items) = Lawful keyring before item × LegalFrom keyring (before ++ item ∷ []) items

-- a history is legal
abbrev pub Legal : Contents → List Item → Type 0
Legal keyring items = LegalFrom keyring [] items
