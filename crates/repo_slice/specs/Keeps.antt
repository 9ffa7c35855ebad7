-- What a keep is, and what each of its calls does.
use Rattle.std.specs.Prelude.{◌≡◌, ◌⊎◌, ℕ, ◌+◌, ◌*◌, ◌≤◌, ◌<◌, ◌^◌, Bool, List, [], ◌∷◌, ◌++◌, length, Option, Some, None}
use Rattle.std.specs.Prelude.{Result, Ok, Err, Contains, IsTrue}
use Rattle.std.specs.Option.{ForSome, option_or}
use Rattle.rad_base.specs.Faults.{Rose}
use Rattle.std.specs.declared.cmp.Ordering.TheVariants.{Less}
use Rattle.rad_base.specs.Order.{RisesBy, oid_cmp}
use Rattle.rad_base.specs.declared.names.Nid.{Nid}
use Rattle.rad_base.specs.declared.names.Oid.{Oid}
use Rattle.rad_base.specs.declared.names.Rid.{Rid}
use Rattle.rad_base.specs.declared.offer.Offer.{Offer}
use Rattle.keyring.specs.Contents.{Contents}
use Rattle.commit_graph.specs.declared.fault.Changed.{Changed}
use Rattle.commit_graph.specs.InMemory.{objects_in}
use Rattle.commit_graph.specs.Objects.{Object, ObjectMap}
use Rattle.repo_entries.specs.Batches.{content_size}
use Rattle.gossip_wire.specs.Messages.{message_text}
use Rattle.repo_entries.specs.Items.{Item, claim, put, install, heard, missed, refused, left_of}
use Rattle.repo_entries.specs.declared.entry.Left.{Left}
use Rattle.repo_entries.specs.declared.entry.Left.TheVariants.{Nothing}
use Rattle.repo_entries.specs.declared.whole.Whole.{Whole}
use Rattle.repo_slice.specs.declared.keep_fault.KeepFault.{KeepFault}
use Rattle.repo_slice.specs.declared.keep_fault.KeepFault.TheVariants as fault
use Rattle.repo_slice.specs.declared.scope.Scope.{Scope}
use Rattle.repo_slice.specs.declared.state.State.{State}
use Rattle.repo_slice.specs.declared.verdict.Judged.{Judged}
use Rattle.repo_slice.specs.declared.wanting.Stage.{Stage}
use Rattle.repo_slice.specs.Wanted.{IsWantedList}
use Rattle.repo_slice.specs.Verdicts.{IsNextState, IsVerdict}

-- what a keep has of a repository: a state, and its objects where they are told
pub record Held : Type 0 where
  pub state : State
  pub objects : Option ObjectMap

-- the objects with these put behind them; a held name keeps its object
abbrev pub put_behind : ObjectMap → List Object → ObjectMap
put_behind objects batch oid = option_or (objects oid) (objects_in batch oid)

-- what is told of the objects is told of them again, by name
abbrev pub ToldAlike : Option ObjectMap → Option ObjectMap → Type 0
ToldAlike None new = Unit {0}
ToldAlike (Some these) None = ⊥
ToldAlike (Some these) (Some those) = (oid : Oid) → these oid ≡ those oid

-- the objects as a put leaves them, where they are told
abbrev pub put_told : Option ObjectMap → List Object → Option ObjectMap
put_told None batch = None
put_told (Some objects) batch = Some (put_behind objects batch)

-- what no call of a keep changes: by which keyring it judges, its caller's number, for which repositories it stands
pub record Constants : Type 0 where
  pub keyring : Contents
  pub caller : ℕ
  pub stands : Rid → Bool

-- what a refused call adds: after a fault of the disk one missed entry of the repository, else nothing
abbrev pub missed_by : Rid → ℕ → Left → KeepFault → List Item
missed_by rid caller left fault.DiskFault = missed (Some rid) left caller ∷ []
missed_by rid caller left fault.Full = []
missed_by rid caller left (fault.Changed change) = []
missed_by rid caller left fault.NoMemory = []

-- only the entry that comes next may be in doubt
abbrev pub MayLeave : List Item → Left → Type 0
MayLeave [] left = left ≡ Nothing
MayLeave (item ∷ more) left = (left ≡ Nothing) ⊎ (left ≡ left_of item)

-- how many bytes the body of an entry has
abbrev pub size_of : Item → ℕ
size_of (claim rid caller) = 0
size_of (put rid objects caller) = 25 + (5 * length objects + content_size objects)
size_of (install rid id remotes caller) = 43 + 52 * length remotes
size_of (heard message caller) = 1 + length (message_text message)
size_of (missed of left caller) = 0
size_of (refused rid why caller) = 0

-- a journal with this end has no room for the entry that comes next
abbrev pub LacksRoom : ℕ → List Item → Type 0
LacksRoom end [] = ⊥
LacksRoom end (item ∷ more) = end + 10 + size_of item ≤ 2 ^ 40 → ⊥

-- these entries were made behind those from before, whatever these were and from where on they are told
abbrev pub Makes : {K O : Type 0} → (K → O → List Item → Type 0) → K → K → List Item → Type 0
Makes {K} {O} made old new entries =
    (origin : O) (before : List Item) → made old origin before → made new origin (before ++ entries)

-- Some of these entries were made in order. At the next one a call was refused: it may be in doubt, and after `Full`
-- the journal has no room for it. A fault of the disk adds one missed entry.
pub record IsStopped (rid : Rid) (caller end : ℕ) (entries : List Item) (why : KeepFault) (history : List Item) : Type 0 where
  pub done : List Item
  pub rest : List Item
  pub all : entries ≡ done ++ rest
  pub left : Left
  pub doubt : MayLeave rest left
  pub full : why ≡ fault.Full → LacksRoom end rest
  pub history_is : history ≡ done ++ missed_by rid caller left why

-- what was made of these entries up to a refusal
abbrev pub StopsIn : {K O : Type 0} → (K → O → List Item → Type 0) → Rid → ℕ → ℕ → K → K → List Item → KeepFault → Type 0
StopsIn made rid caller end old new entries why =
    (history : List Item) × IsStopped rid caller end entries why history × Makes made old new history

-- what each call leaves: the constants, which loan it is, what it has of the other repositories for which it stands; the
-- count never falls
pub record LeavesOthers {K : Type 0} (constants : K → Constants) (loan faults : K → ℕ) (held : K → Rid → Held)
    (rid : Rid) (old new : K) : Type 0 where
  pub constants_stay : constants new ≡ constants old
  pub loan_stays : loan new ≡ loan old
  pub later : faults old ≤ faults new
  pub others : (other : Rid) → IsTrue ((constants old).stands other) → (other ≡ rid → ⊥) → held new other ≡ held old other

-- the bytes that were read back have another name than the one that they are held under
abbrev pub IsOtherName : Changed → Type 0
IsOtherName change = change.found ≡ change.name → ⊥

-- why a call was refused: the count rose, or the bytes read back have another name
abbrev pub IsKeepCause : Option ObjectMap → ℕ → ℕ → KeepFault → Type 0
IsKeepCause objects before now fault.DiskFault = Rose before now
IsKeepCause objects before now fault.Full = Unit {0}
IsKeepCause objects before now (fault.Changed change) = (objects ≡ None) × IsOtherName change
IsKeepCause objects before now fault.NoMemory = Unit {0}

-- a call that reads back no content never meets another name
abbrev pub IsNoChange : KeepFault → Type 0
IsNoChange fault.DiskFault = Unit {0}
IsNoChange fault.Full = Unit {0}
IsNoChange (fault.Changed change) = ⊥
IsNoChange fault.NoMemory = Unit {0}

-- what is held is this state, and these objects where they are told
pub record HasSlice (state : State) (objects : Option ObjectMap) (held : Held) : Type 0 where
  pub same_state : held.state ≡ state
  pub same_objects : ToldAlike objects held.objects

-- where the objects are told, the verdict on the offer is this
abbrev pub IsVerdictOn : Constants → Held → Offer → Scope → Result Judged Whole → Type 0
IsVerdictOn constants held offer scope verdict =
    ForSome held.objects (λ objects. IsVerdict objects constants.keyring held.state offer scope verdict)

-- where the objects are told, these nodes of an offer are asked for
abbrev pub IsWantedOn : Constants → Held → Offer → Scope → Stage → List Nid → Type 0
IsWantedOn constants held offer scope stage nodes =
    ForSome held.objects (λ objects. IsWantedList objects constants.keyring held.state offer scope stage nodes)

-- the entry that a verdict makes
abbrev pub item_of : Rid → ℕ → Result Judged Whole → Item
item_of rid caller (Ok judged) = install rid judged.next_id judged.advanced caller
item_of rid caller (Err whole) = refused rid whole caller

-- what is held behind a verdict
abbrev pub HeldBehind : Held → Result Judged Whole → Held → Type 0
HeldBehind old (Ok judged) new = IsNextState old.state judged new.state × ToldAlike old.objects new.objects
HeldBehind old (Err whole) new = new ≡ old

-- the journal had room for what a verdict wrote
abbrev pub HadRoom : ℕ → Result Judged Whole → Type 0
HadRoom end (Ok judged) = end < 2 ^ 40
HadRoom end (Err whole) = Unit {0}

-- an install was refused before it had an entry to write, or at that of such a verdict
abbrev pub StopsAtVerdict : {K O : Type 0} → (K → O → List Item → Type 0) → Rid → ℕ → ℕ → K → K
    → (Result Judged Whole → Type 0) → KeepFault → Type 0
StopsAtVerdict made rid caller end old new IsOne why =
    StopsIn made rid caller end old new [] why
    ⊎ ((judged : Judged) × IsOne (Ok judged)
    × StopsIn made rid caller end old new (install rid judged.next_id judged.advanced caller ∷ []) why)

-- the identity or a remote's commit has this name
abbrev pub IsNamedIn : Held → Oid → Type 0
IsNamedIn held oid = (held.state.id ≡ Some oid) ⊎ ((node : Nid) × Contains held.state.remotes (node, oid))

-- each name is below the next
abbrev pub AreRisingNames : List Oid → Type 0
AreRisingNames names = RisesBy (λ oid. oid) oid_cmp names
