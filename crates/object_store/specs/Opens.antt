-- What is read of a store's journal.
use Rattle.std.specs.Prelude.{◌≡◌, ℕ, ◌+◌, List, [], ◌∷◌, ◌++◌, length, map, Option, None, Some}
use Rattle.std.specs.Prelude.{Result, Ok, Err}
use Rattle.std.specs.List.{AllByRecursion}
use Rattle.std.specs.BTreeMap.{get}
use Rattle.rad_base.specs.declared.names.Rid.{Rid}
use Rattle.rad_base.specs.Order.{rid_cmp}
use Rattle.announcements.specs.Held.{kept_in}
use Rattle.announcements.specs.Tables.{IsTable}
use Rattle.keyring.specs.Contents.{Contents}
use Rattle.ref_journal.specs.Frames.{gate_behind}
use Rattle.ref_journal.specs.Holds.{Holds}
use Rattle.ref_journal.specs.declared.journal.Journal.{Journal}
use Rattle.repo_entries.specs.Items.{Item, entry_of}
use Rattle.entry_bodies.specs.Bodies.{HasBody, SpellsItem}
use Rattle.legal_history.specs.Histories.{Lawful, Legal}
use Rattle.legal_history.specs.Replays.{messages_in}
use Rattle.object_store.specs.Bodies.{bodies_of}
use Rattle.object_store.specs.Repositories.{StandsKnown}
use Rattle.object_store.specs.declared.replayed.ReadFault.{ReadFault}
use Rattle.object_store.specs.declared.replayed.ReadFault.TheVariants.{DiskFault, Damaged}
use Rattle.object_store.specs.declared.replayed.ReadFault.TheVariants.{NotLegal, NoMemory}
use Rattle.object_store.specs.declared.replayed.Replayed.{Replayed}

-- the n-th entry, counted from 1, is the first that is not legal
pub record IsIllegalAt (keyring : Contents) (n : ℕ) (items : List Item) : Type 0 where
  pub good : List Item
  pub bad : Item
  pub rest : List Item
  pub all : items ≡ good ++ bad ∷ rest
  pub legal : Legal keyring good
  pub unlawful : Lawful keyring good bad → ⊥
  pub count : n ≡ length good + 1

-- these entries were read and stand
pub record HasReplayed (keyring : Contents) (read : Replayed) (items : List Item) : Type 0 where
  pub bodies : AllByRecursion HasBody items
  pub entries : read.history.entries.items ≡ map entry_of items
  pub each : (rid : Rid) → StandsKnown (get rid_cmp read.repositories rid) rid items
  pub table : IsTable (messages_in items) (kept_in read.table)
  pub legal : Legal keyring items

-- these entries were read: they stand, or the first that is not legal is known
abbrev pub HasReplayedSo : Contents → Replayed → Option ℕ → List Item → Type 0
HasReplayedSo keyring read None items = HasReplayed keyring read items
HasReplayedSo keyring read (Some n) items = IsIllegalAt keyring n items

-- some entries were read
abbrev pub IsReplay : Contents → Replayed → Type 0
IsReplay keyring read = (items : List Item) × HasReplayedSo keyring read read.illegal items

-- this entry was read behind others that stand
abbrev pub TakesBehind : Contents → Replayed → Replayed → Item → Type 0
TakesBehind keyring old new item = (items : List Item) → HasReplayed keyring old items
    → HasReplayedSo keyring new new.illegal (items ++ item ∷ [])

-- this entry was read behind others
abbrev pub TakesOne : Contents → Replayed → Replayed → Item → Type 0
TakesOne keyring old new item = (items : List Item) → HasReplayedSo keyring old old.illegal items
    → HasReplayedSo keyring new new.illegal (items ++ item ∷ [])

-- the journal's bodies begin with those of these entries, and this place is behind them
pub record BeginsSo (bodies : List (List ℕ)) (place : ℕ) (items : List Item) : Type 0 where
  pub rest : List (List ℕ)
  pub all : bodies ≡ bodies_of items ++ rest
  pub place_is : place ≡ gate_behind (bodies_of items)

-- a walk over the journal up to a place
pub record IsWalk {D : Type 0} (reads : D → Option (List ℕ)) (images : D → List ℕ → Type 0)
    (journal : Journal D)
    (keyring : Contents) (place : ℕ) (read : Replayed) : Type 0 where
  pub items : List Item
  pub had_bodies : AllByRecursion HasBody items
  pub had : HasReplayedSo keyring read read.illegal items
  pub begins : (bodies : List (List ℕ)) → Holds reads images journal bodies None
      → BeginsSo bodies place items

-- the least body that is no entry's stands at this place
pub record IsNoEntryAt (place : ℕ) (bodies : List (List ℕ)) : Type 0 where
  pub items : List Item
  pub body : List ℕ
  pub rest : List (List ℕ)
  pub all : bodies ≡ bodies_of items ++ body ∷ rest
  pub had_bodies : AllByRecursion HasBody items
  pub none : (item : Item) → SpellsItem item body → ⊥
  pub place_is : place ≡ gate_behind (bodies_of items)

-- What reading the bodies of a journal answers. Where every body is an entry's, it tells the
-- first that is not legal, or what they make; else the least that is none.
abbrev pub IsReading : {D : Type 0} → (D → Option (List ℕ)) → (D → List ℕ → Type 0) → Journal D
    → Contents
    → Result Replayed ReadFault → Type 0
IsReading reads images journal keyring (Ok read) =
    (items : List Item) × AllByRecursion HasBody items × HasReplayed keyring read items
    × ((bodies : List (List ℕ)) → Holds reads images journal bodies None → bodies ≡ bodies_of items)
IsReading reads images journal keyring (Err (NotLegal n)) =
    (items : List Item) × AllByRecursion HasBody items × IsIllegalAt keyring n items
    × ((bodies : List (List ℕ)) → Holds reads images journal bodies None → bodies ≡ bodies_of items)
IsReading reads images journal keyring (Err (Damaged place)) =
    (bodies : List (List ℕ)) → Holds reads images journal bodies None → IsNoEntryAt place bodies
IsReading reads images journal keyring (Err DiskFault) = Unit {0}
IsReading reads images journal keyring (Err NoMemory) = Unit {0}
