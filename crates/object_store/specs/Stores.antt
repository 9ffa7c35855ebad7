-- What a store stands for, and what its calls do.
use Rattle.std.specs.Prelude.{◌≡◌, ◌⊎◌, ℕ, ◌+◌, ◌^◌, ◌<◌, ◌≤◌, List, [], ◌∷◌, ◌++◌, map, Option}
use Rattle.std.specs.Prelude.{None, Some, Result, Ok, Err}
use Rattle.std.specs.BTreeMap.{get}
use Rattle.rad_base.specs.declared.names.Rid.{Rid}
use Rattle.rad_base.specs.Order.{rid_cmp}
use Rattle.commit_graph.specs.Objects.{Object}
use Rattle.rad_base.specs.declared.offer.Offer.{Offer}
use Rattle.gossip_wire.specs.declared.message.Message.{Message}
use Rattle.announcements.specs.Held.{kept_in}
use Rattle.announcements.specs.Tables.{IsTable, answer}
use Rattle.announcements.specs.declared.heard.Heard.{Heard}
use Rattle.announcements.specs.declared.heard.Heard.TheVariants as hears
use Rattle.keyring.specs.Contents.{Contents}
use Rattle.repo_entries.specs.Items.{Item, entry_of, heard, install, put}
use Rattle.repo_slice.specs.declared.keep_fault.KeepFault.{KeepFault}
use Rattle.repo_slice.specs.declared.keep_fault.KeepFault.TheVariants as keeps
use Rattle.repo_entries.specs.declared.whole.Whole.{Whole}
use Rattle.repo_slice.specs.Keeps.{size_of}
use Rattle.repo_slice.specs.Verdicts.{IsVerdict}
use Rattle.repo_slice.specs.declared.scope.Scope.{Scope}
use Rattle.repo_slice.specs.declared.verdict.Judged.{Judged}
use Rattle.entry_bodies.specs.Bodies.{heard_size, install_size}
use Rattle.ref_journal.specs.Holds.{Holds, LeavesOnlyBetween}
use Rattle.ref_journal.specs.Moments.{MayHave}
use Rattle.legal_history.specs.Cores.{Core, Event, Runs, claims, doubts, enters, mends, misses}
use Rattle.legal_history.specs.Cores.{refuses}
use Rattle.legal_history.specs.Durable.{durable_part}
use Rattle.legal_history.specs.Histories.{Legal}
use Rattle.legal_history.specs.Replays.{claimant, messages_in, replay, replayed_state}
use Rattle.object_store.specs.Bodies.{bodies_of, body_in_doubt}
use Rattle.object_store.specs.Repositories.{StandsKnown, claimant_at}
use Rattle.object_store.specs.declared.faults.ClaimFault.{ClaimFault}
use Rattle.object_store.specs.declared.faults.ClaimFault.TheVariants as claimed
use Rattle.object_store.specs.declared.store.Store.{Store}

-- the store stands for these entries: its history has them, each repository is what they make of
-- it, its table is that of what they heard, and they are legal
pub record StandsFor {D : Type 0} (store : Store D) (items : List Item) : Type 0 where
  pub entries : store.history.entries.items ≡ map entry_of items
  pub each : (rid : Rid) → StandsKnown (get rid_cmp store.repositories rid) rid items
  pub table : IsTable (messages_in items) (kept_in store.table)
  pub legal : Legal store.keyring items

-- the store's journal holds the durable part of the entries, with that doubt
abbrev pub IsOnDisk : {D : Type 0} → (D → Option (List ℕ)) → (D → List ℕ → Type 0) → Store D
    → Core → Type 0
IsOnDisk reads images store core =
    Holds reads images store.journal (bodies_of (durable_part core.items))
    (body_in_doubt core.doubt)

-- an image that a stop may leave while these events happen: a journal of the durable part of the
-- entries as some of the events leave them, with what is in doubt then or without it
pub record IsLeftDuring (keyring : Contents) (core : Core) (events : List Event) (image : List ℕ)
    : Type 0 where
  pub past : List Event
  pub rest : List Event
  pub all : events ≡ past ++ rest
  pub now : Core
  pub runs : Runs keyring core past now
  pub has : MayHave (bodies_of (durable_part now.items)) (body_in_doubt now.doubt) image

-- a call of a store with this core was these events: it stands for what they make of it, and so
-- does its disk, where it told what the core says; a crash at any moment of the call then leaves
-- what a stop among the events may leave
pub record Moves {D : Type 0} (reads : D → Option (List ℕ)) (images : D → List ℕ → Type 0)
    (moment : D → ℕ) (since : D → ℕ → List ℕ → Type 0) (old new : Store D) (core : Core)
    (events : List Event) : Type 0 where
  pub next : Core
  pub runs : Runs old.keyring core events next
  pub stands : StandsFor new next.items
  pub disk : IsOnDisk reads images old core → IsOnDisk reads images new next
  pub time : IsOnDisk reads images old core
      → LeavesOnlyBetween moment since old.journal.disk new.journal.disk
      (IsLeftDuring old.keyring core events)

-- The events of a refused call, for a repository or for the announcements, that had this entry to
-- write. A fault of the disk leaves it in doubt, behind a mend; or leaves nothing new, with a mend
-- before it or without one. Else nothing happens.
abbrev pub IsRefusedCall : {D : Type 0} → (D → Option (List ℕ)) → (D → List ℕ → Type 0) → (D → ℕ)
    → (D → ℕ → List ℕ → Type 0) → Store D → Store D → Core → Option Rid → ℕ → Item → KeepFault → Type 0
IsRefusedCall reads images moment since old new core of caller item keeps.DiskFault =
    Moves reads images moment since old new core (mends ∷ doubts of caller item ∷ [])
    ⊎ Moves reads images moment since old new core (mends ∷ misses of caller ∷ [])
    ⊎ Moves reads images moment since old new core (misses of caller ∷ [])
IsRefusedCall reads images moment since old new core of caller item keeps.Full =
    Moves reads images moment since old new core []
IsRefusedCall reads images moment since old new core of caller item (keeps.Changed change) = ⊥
IsRefusedCall reads images moment since old new core of caller item keeps.NoMemory =
    Moves reads images moment since old new core []

-- the events of a put: it enters behind a mend, or is refused
abbrev pub IsPut : {D : Type 0} → (D → Option (List ℕ)) → (D → List ℕ → Type 0) → (D → ℕ)
    → (D → ℕ → List ℕ → Type 0) → Store D → Store D → Core → Rid → List Object → ℕ → Result (Unit {0}) KeepFault → Type 0
IsPut reads images moment since old new core rid batch caller (Ok done) =
    Moves reads images moment since old new core (mends ∷ enters (put rid batch caller) ∷ [])
IsPut reads images moment since old new core rid batch caller (Err fault) =
    IsRefusedCall reads images moment since old new core (Some rid) caller (put rid batch caller) fault

-- the events of a claim
abbrev pub IsClaiming : {D : Type 0} → (D → Option (List ℕ)) → (D → List ℕ → Type 0) → (D → ℕ)
    → (D → ℕ → List ℕ → Type 0) → Store D → Store D → Core → Rid → ℕ
    → Result (Unit {0}) ClaimFault → Type 0
IsClaiming reads images moment since old new core rid caller (Ok done) =
    Moves reads images moment since old new core (claims rid caller ∷ [])
IsClaiming reads images moment since old new core rid caller (Err (claimed.Claimed other)) =
    Moves reads images moment since old new core [] × (claimant rid core.items ≡ other) × (1 ≤ other)
IsClaiming reads images moment since old new core rid caller (Err claimed.NoMemory) =
    Moves reads images moment since old new core []

-- the caller claimed the repository
pub record HasClaimed {D : Type 0} (store : Store D) (rid : Rid) (caller : ℕ) : Type 0 where
  pub claimant : claimant_at (get rid_cmp store.repositories rid) ≡ caller
  pub some : 1 ≤ caller

-- what was claimed stays so
abbrev pub KeepsClaims : {D : Type 0} → Store D → Store D → Type 0
KeepsClaims old new = (rid : Rid) (caller : ℕ) → HasClaimed old rid caller
    → HasClaimed new rid caller

-- the store stands for some entries
abbrev pub StandsForSome : {D : Type 0} → Store D → Type 0
StandsForSome store = (items : List Item) × StandsFor store items

-- the journal has no room for an entry's body
abbrev pub LacksRoomFor : ℕ → Item → Type 0
LacksRoomFor end item = 2 ^ 40 < end + 10 + size_of item

-- the verdict on an offer, on what the entries make of a repository
abbrev pub IsVerdictBehind : Contents → List Item → Rid → Offer → Scope → Result Judged Whole → Type 0
IsVerdictBehind keyring items rid offer scope verdict =
    IsVerdict (replay rid items).objects keyring (replayed_state rid items) offer scope verdict

-- the entry of what was judged so
abbrev pub install_of : Rid → ℕ → Judged → Item
install_of rid caller judged = install rid judged.next_id judged.advanced caller

-- What an install does. What was judged so enters behind a mend, or is refused; a whole refusal
-- writes nothing; memory may be refused before anything is judged.
abbrev pub IsInstall : {D : Type 0} → (D → Option (List ℕ)) → (D → List ℕ → Type 0) → (D → ℕ)
    → (D → ℕ → List ℕ → Type 0) → Store D → Store D → Core → Rid → Offer → Scope → ℕ → Result (Result Judged Whole) KeepFault → Type 0
IsInstall reads images moment since old new core rid offer scope caller (Ok (Ok judged)) =
    IsVerdictBehind old.keyring core.items rid offer scope (Ok judged)
    × Moves reads images moment since old new core (mends ∷ enters (install_of rid caller judged) ∷ [])
IsInstall reads images moment since old new core rid offer scope caller (Ok (Err why)) =
    IsVerdictBehind old.keyring core.items rid offer scope (Err why)
    × Moves reads images moment since old new core (refuses rid why caller ∷ [])
IsInstall reads images moment since old new core rid offer scope caller (Err keeps.DiskFault) =
    (judged : Judged) × IsVerdictBehind old.keyring core.items rid offer scope (Ok judged)
    × IsRefusedCall reads images moment since old new core (Some rid) caller (install_of rid caller judged) keeps.DiskFault
IsInstall reads images moment since old new core rid offer scope caller (Err keeps.Full) =
    (judged : Judged) × IsVerdictBehind old.keyring core.items rid offer scope (Ok judged)
    × LacksRoomFor old.journal.end (install_of rid caller judged)
    × Moves reads images moment since old new core []
IsInstall reads images moment since old new core rid offer scope caller (Err (keeps.Changed change)) = ⊥
IsInstall reads images moment since old new core rid offer scope caller (Err keeps.NoMemory) =
    Moves reads images moment since old new core []

-- the journal had room for what was judged
abbrev pub JournalHadRoom : ℕ → Rid → ℕ → Result Judged Whole → Type 0
JournalHadRoom end rid caller (Ok judged) = LacksRoomFor end (install_of rid caller judged) → ⊥
JournalHadRoom end rid caller (Err why) = Unit {0}

-- an entry that was written has the journal end behind it; else the end stays
abbrev pub EndsBehind : ℕ → ℕ → Result (Result Judged Whole) KeepFault → Type 0
EndsBehind old new (Ok (Ok judged)) = new ≡ old + 9 + install_size judged.advanced
EndsBehind old new (Ok (Err why)) = new ≡ old
EndsBehind old new (Err fault) = new ≡ old

-- what hearing an announcement answers, on what the store keeps
abbrev pub answered_by : {D : Type 0} → Store D → ℕ → Message → Heard
answered_by store now message = answer (kept_in store.table) store.keyring now message

-- What hearing an announcement does. One that is raised enters behind a mend, or is refused; any
-- other changes nothing; memory may be refused before anything is answered.
abbrev pub IsHearing : {D : Type 0} → (D → Option (List ℕ)) → (D → List ℕ → Type 0) → (D → ℕ)
    → (D → ℕ → List ℕ → Type 0) → Store D → Store D → Core → Message → ℕ → ℕ → Result Heard KeepFault → Type 0
IsHearing reads images moment since old new core message now caller (Ok hears.Raised) =
    (answered_by old now message ≡ hears.Raised)
    × Moves reads images moment since old new core (mends ∷ enters (heard message caller) ∷ [])
IsHearing reads images moment since old new core message now caller (Ok told) =
    (answered_by old now message ≡ told) × Moves reads images moment since old new core []
IsHearing reads images moment since old new core message now caller (Err keeps.NoMemory) =
    Moves reads images moment since old new core []
IsHearing reads images moment since old new core message now caller (Err fault) =
    (answered_by old now message ≡ hears.Raised)
    × IsRefusedCall reads images moment since old new core None caller (heard message caller) fault

-- an announcement that was written has the journal end behind it; else the end stays
abbrev pub EndsBehindHeard : ℕ → ℕ → Message → Result Heard KeepFault → Type 0
EndsBehindHeard old new message (Ok hears.Raised) = new ≡ old + 9 + heard_size message
EndsBehindHeard old new message (Ok told) = new ≡ old
EndsBehindHeard old new message (Err fault) = new ≡ old
