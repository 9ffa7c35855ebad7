-- Entries as definitions have them: a put has its objects, where the program's entry has their names, and an
-- announcement its fields, where that has its bytes.
use Rattle.std.specs.Prelude.{ℕ, List, map, Option}
use Rattle.rad_base.specs.declared.names.Nid.{Nid}
use Rattle.rad_base.specs.declared.names.Oid.{Oid}
use Rattle.rad_base.specs.declared.names.Rid.{Rid}
use Rattle.git_object.specs.Names.{name}
use Rattle.gossip_wire.specs.Messages.{message_text}
use Rattle.gossip_wire.specs.declared.message.Message.{Message}
use Rattle.commit_graph.specs.Objects.{Object}
use Rattle.repo_entries.specs.declared.entry.Entry.{Entry}
use Rattle.repo_entries.specs.declared.entry.Entry.TheVariants as entries
use Rattle.repo_entries.specs.declared.entry.Left.{Left}
use Rattle.repo_entries.specs.declared.entry.Left.TheVariants as lefts
use Rattle.repo_entries.specs.declared.whole.Whole.{Whole}

-- an entry, with the number of its caller last
pub data Item : Type 0 where
  claim : Rid → ℕ → Item
  put : Rid → List Object → ℕ → Item
  install : Rid → Oid → List (Nid × Oid) → ℕ → Item
  heard : Message → ℕ → Item
  missed : Option Rid → Left → ℕ → Item
  refused : Rid → Whole → ℕ → Item

-- the names of some objects, in order
abbrev pub names_of : List Object → List Oid
names_of objects = map (λ object. name object.0 object.1) objects

-- the program's entry of it
abbrev pub entry_of : Item → Entry
entry_of (claim rid caller) = entries.Claim rid caller
entry_of (put rid objects caller) = entries.Put rid (names_of objects) caller
entry_of (install rid id remotes caller) = entries.Install rid id remotes caller
entry_of (heard message caller) = entries.Heard (message_text message) caller
entry_of (missed of left caller) = entries.Missed of left caller
entry_of (refused rid why caller) = entries.Refused rid why caller

-- what a call leaves in doubt that had this entry to write
abbrev pub left_of : Item → Left
left_of (claim rid caller) = lefts.Nothing
left_of (put rid objects caller) = lefts.Put (names_of objects)
left_of (install rid id remotes caller) = lefts.Install (record { id = id; remotes = remotes })
left_of (heard message caller) = lefts.Heard (message_text message)
left_of (missed of left caller) = lefts.Nothing
left_of (refused rid why caller) = lefts.Nothing
