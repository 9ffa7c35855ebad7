-- Keeps in memory that tell no objects.
use Rattle.std.specs.Prelude.{List, [], map, Some, None, true}
use Rattle.rad_base.specs.declared.names.Rid.{Rid}
use Rattle.keyring.specs.Contents.{contents_of}
use Rattle.repo_entries.specs.Items.{Item, missed, put, refused}
use Rattle.repo_entries.specs.declared.entry.Left.TheVariants.{Nothing}
use Rattle.repo_slice.specs.declared.mem_keep.Made.{Made}
use Rattle.repo_slice.specs.declared.mem_keep.Made.TheVariants as made
use Rattle.repo_slice.specs.declared.mem_keep.MemKeep.{MemKeep}
use Rattle.repo_slice.specs.Keeps.{Constants, Held}

-- the entry of what was made
abbrev pub item_made : Made → Item
item_made (made.Put rid batch) = put rid batch 1
item_made (made.Missed rid) = missed (Some rid) Nothing 1
item_made (made.Refused rid why) = refused rid why 1

-- the entries that a keep has made
abbrev pub items_of : MemKeep → List Item
items_of keep = map item_made keep.made.items

-- of a repository it tells that its identity has its own name, and no remotes and no objects
abbrev pub told_of : Rid → Held
told_of rid = record { state = record { rid = rid; id = Some rid.0; remotes = [] }; objects = None }

-- by a keyring without lines, with the number 1, for every repository
abbrev pub constants_of : Constants
constants_of = record { keyring = contents_of []; caller = 1; stands = λ rid. true }
