-- What a table of the program keeps, and what it has staged.
use Rattle.std.specs.Prelude.{◌≡◌, ◌↔◌, Bool, true, false, ◌&&◌, List, Option, Some, None, IsSome, is_none}
use Rattle.std.specs.BTreeMap.{BTreeMap, get}
use Rattle.std.specs.List.{Contains}
use Rattle.std.specs.Option.{option_and_then, option_map}
use Rattle.std.specs.declared.cmp.Ordering.{Ordering}
use Rattle.rad_base.specs.Order.{RisesBy, nid_cmp}
use Rattle.rad_base.specs.declared.names.Nid.{Nid}
use Rattle.rad_base.specs.declared.names.Rid.{Rid}
use Rattle.gossip_wire.specs.declared.message.Message.{Message}
use Rattle.announcements.specs.Announcements.{kept_of, key_of}
use Rattle.announcements.specs.Tables.{Keeping}
use Rattle.announcements.specs.contracts.key.KeyOrd.TheImpl.{cmp-value}
use Rattle.announcements.specs.declared.heard.Heard.{Heard}
use Rattle.announcements.specs.declared.heard.Heard.TheVariants.{Raised}
use Rattle.announcements.specs.declared.kept.Kept.{Kept}
use Rattle.announcements.specs.declared.key.Key.{Key}
use Rattle.announcements.specs.declared.key.Topic.{Topic}
use Rattle.announcements.specs.declared.key.Topic.TheVariants as topics
use Rattle.announcements.specs.declared.table.Table.{Table}

-- the order of keys as it is derived: `key_cmp`, by other words
abbrev pub map_cmp : Key → Key → Ordering
map_cmp = cmp-value.it

-- what is kept in places
abbrev pub kept_at : BTreeMap Key (Option Kept) → Keeping
kept_at places key = option_and_then (λ kept. kept) (get map_cmp places key)

-- what a table keeps
abbrev pub kept_in : Table → Keeping
kept_in table = kept_at table.places

-- what is staged, with its key
abbrev pub staged_in : Table → Option (Key × Kept)
staged_in table = table.staged

-- this is staged, and has its place in the table
pub record IsStaged (table : Table) (key : Key) (kept : Kept) : Type 0 where
  pub staged : staged_in table ≡ Some (key, kept)
  pub place : IsSome (get map_cmp table.places key)

-- something is staged
pub record HasStaged (table : Table) : Type 0 where
  pub key : Key
  pub kept : Kept
  pub is : IsStaged table key kept

-- an announcement that is raised is staged, and else nothing
abbrev pub Stages : Heard → Message → Table → Type 0
Stages Raised message table = IsStaged table (key_of message) (kept_of message)
Stages heard message table = staged_in table ≡ None

-- the key of a node's inventory
abbrev pub inventory_key : Nid → Key
inventory_key node = record { topic = topics.Inventory; node = node; rid = None }

-- whether a topic is the inventory
abbrev pub is_inventory_topic : Topic → Bool
is_inventory_topic topics.Node = false
is_inventory_topic topics.Inventory = true
is_inventory_topic topics.Refs = false

-- whether a key is that of an inventory
abbrev pub is_inventory_key : Key → Bool
is_inventory_key key = is_inventory_topic key.topic && is_none key.rid

-- the repositories of a node's inventory, if one is kept
abbrev pub inventory_of : Keeping → Nid → Option (List Rid)
inventory_of table node = option_map (λ kept. kept.rids) (table (inventory_key node))

-- the nodes whose inventory is kept, rising
pub record HaveInventories (table : Keeping) (nodes : List Nid) : Type 0 where
  pub each : (node : Nid) → Contains nodes node ↔ IsSome (table (inventory_key node))
  pub rising : RisesBy (λ node. node) nid_cmp nodes
