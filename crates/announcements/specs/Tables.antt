-- Tables of announcements: what is kept of each key.
use Rattle.std.specs.Prelude.{◌≡◌, ◌↔◌, ℕ, ◌≤◌, Bool, true, ◌&&◌, nat_le, if◌then◌else◌, List, filter, map, length, Option, Some, None, IsTrue}
use Rattle.std.specs.List.{Contains}
use Rattle.std.specs.Option.{option_map_or}
use Rattle.std.specs.Cmp.Lexicographic.{slice_cmp}
use Rattle.std.specs.Ordering.{match_ordering, nat_cmp, ordering_then}
use Rattle.std.specs.declared.cmp.Ordering.{Ordering}
use Rattle.std.specs.declared.cmp.Ordering.TheVariants.{Less, Greater}
use Rattle.rad_base.specs.Order.{RisesBy}
use Rattle.gossip_wire.specs.declared.message.Message.{Message}
use Rattle.keyring.specs.Contents.{Contents}
use Rattle.announcements.specs.Announcements.{is_accepted, is_early, kept_of, key_of}
use Rattle.announcements.specs.Filters.{filter_has}
use Rattle.announcements.specs.Keys.{key_cmp}
use Rattle.announcements.specs.declared.heard.Heard.{Heard}
use Rattle.announcements.specs.declared.heard.Heard.TheVariants.{Raised, Older, Same, Early, NotAccepted}
use Rattle.announcements.specs.declared.kept.Kept.{Kept}
use Rattle.announcements.specs.declared.key.Key.{Key}

-- what is kept of each key
abbrev pub Keeping : Type 0
Keeping = Key → Option Kept

-- nothing is kept
abbrev pub nothing_kept : Keeping
nothing_kept key = None

-- by the time, then by the bytes
abbrev pub rank_cmp : Kept → Kept → Ordering
rank_cmp a b = ordering_then (nat_cmp a.time b.time) (slice_cmp nat_cmp a.bytes b.bytes)

-- this is the greatest of the announcements of a key
pub record IsGreatest (heard : List Message) (key : Key) (kept : Kept) : Type 0 where
  pub message : Message
  pub there : Contains heard message
  pub of : key_of message ≡ key
  pub is : kept ≡ kept_of message
  pub most : (other : Message) → Contains heard other → key_of other ≡ key
      → rank_cmp (kept_of other) kept ≡ Greater → ⊥

-- no announcement is of the key, or else this is the greatest of those that are
abbrev pub IsKept : List Message → Key → Option Kept → Type 0
IsKept heard key None = (message : Message) → Contains heard message → key_of message ≡ key → ⊥
IsKept heard key (Some kept) = IsGreatest heard key kept

-- the table of some announcements: the greatest of each key
abbrev pub IsTable : List Message → Keeping → Type 0
IsTable heard table = (key : Key) → IsKept heard key (table key)

-- greater than each of these that is of its key
abbrev pub Surpasses : List Message → Message → Type 0
Surpasses heard message = (other : Message) → Contains heard other → key_of other ≡ key_of message
    → rank_cmp (kept_of other) (kept_of message) ≡ Less

-- what an announcement is beside what is kept of its key
abbrev pub beside : Option Kept → Kept → Heard
beside None new = Raised
beside (Some old) new = match_ordering (rank_cmp old new) Raised Same Older

-- what hearing an announcement answers, the clock standing at `now`
abbrev pub answer : Keeping → Contents → ℕ → Message → Heard
answer table keyring now message =
    if is_accepted keyring message
    then (if is_early now message then Early else beside (table (key_of message)) (kept_of message))
    else NotAccepted

-- the same is kept
abbrev pub IsSame : Keeping → Keeping → Type 0
IsSame old new = (key : Key) → new key ≡ old key

-- this is kept of a key, and of all other keys what was kept before
pub record Keeps (key : Key) (kept : Kept) (old new : Keeping) : Type 0 where
  pub here : new key ≡ Some kept
  pub others : (other : Key) → (other ≡ key → ⊥) → new other ≡ old other

-- what is kept once an announcement was answered: one that is raised, and else the same
abbrev pub Follows : Heard → Message → Keeping → Keeping → Type 0
Follows Raised message old new = Keeps (key_of message) (kept_of message) old new
Follows heard message old new = IsSame old new

-- all that is kept, in order of type, node and repository
pub record AreKept (table : Keeping) (all : List (Key × Kept)) : Type 0 where
  pub each : (key : Key) (kept : Kept) → Contains all (key, kept) ↔ (table key ≡ Some kept)
  pub rising : RisesBy (λ entry. entry.0) key_cmp all

-- so many are kept
pub record HasCount (table : Keeping) (count : ℕ) : Type 0 where
  pub all : List (Key × Kept)
  pub are : AreKept table all
  pub counted : count ≡ length all

-- from one time to another, and of refs only those whose repository the filter has
abbrev pub is_wanted : List ℕ → ℕ → ℕ → Key × Kept → Bool
is_wanted wanted from to entry =
    (nat_le from entry.1.time && nat_le entry.1.time to) && option_map_or (filter_has wanted) entry.0.rid true

-- the messages of those that are wanted, in order of type, node and repository
pub record AreSince (table : Keeping) (wanted : List ℕ) (from to : ℕ) (messages : List (List ℕ)) : Type 0 where
  pub all : List (Key × Kept)
  pub are : AreKept table all
  pub told : messages ≡ map (λ entry. entry.1.bytes) (filter (is_wanted wanted from to) all)
