-- The order of keys: by the type, by the node, by the repository.
use Rattle.std.specs.Prelude.{ℕ, Option, Some, None}
use Rattle.std.specs.Ordering.{nat_cmp, ordering_then}
use Rattle.std.specs.declared.cmp.Ordering.{Ordering}
use Rattle.std.specs.declared.cmp.Ordering.TheVariants.{Less, Equal, Greater}
use Rattle.rad_base.specs.declared.names.Rid.{Rid}
use Rattle.rad_base.specs.Order.{nid_cmp, rid_cmp}
use Rattle.announcements.specs.declared.key.Key.{Key}
use Rattle.announcements.specs.declared.key.Topic.{Topic}
use Rattle.announcements.specs.declared.key.Topic.TheVariants as topics

-- the number of a type
abbrev pub topic_number : Topic → ℕ
topic_number topics.Node = 2
topic_number topics.Inventory = 4
topic_number topics.Refs = 6

-- none is below each repository
abbrev pub subject_cmp : Option Rid → Option Rid → Ordering
subject_cmp None None = Equal
subject_cmp None (Some b) = Less
subject_cmp (Some a) None = Greater
subject_cmp (Some a) (Some b) = rid_cmp a b

-- by the type, by the node, by the repository
abbrev pub key_cmp : Key → Key → Ordering
key_cmp a b =
    ordering_then (nat_cmp (topic_number a.topic) (topic_number b.topic))
    (ordering_then (nid_cmp a.node b.node) (subject_cmp a.rid b.rid))
