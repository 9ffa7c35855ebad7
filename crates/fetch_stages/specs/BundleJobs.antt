-- The steps of the job of a bundle.
use Rattle.std.specs.Prelude.{◌≡◌, ◌⊎◌, ℕ, ◌+◌, ◌≤◌, ◌<◌, ◌^◌, List, [], ◌∷◌, ◌++◌, length, take, Option, None, Some, Result, Ok, Err}
use Rattle.std.specs.Io.KnownBytes.{IsAtEnd}
use Rattle.rad_base.specs.Sizes.{IsOid}
use Rattle.rad_base.specs.declared.names.Rid.{Rid}
use Rattle.rad_base.specs.declared.offer.Offer.{Offer}
use Rattle.rad_outside.specs.declared.failed.Failed.{Failed}
use Rattle.commit_graph.specs.Objects.{Object, ObjectMap}
use Rattle.repo_entries.specs.Items.{Item}
use Rattle.repo_entries.specs.declared.whole.Whole.{Whole}
use Rattle.repo_slice.specs.Keeps.{Constants, HasSlice, Held, HeldBehind, IsKeepCause, IsNoChange, IsOtherName, IsVerdictOn, Makes, StopsIn, item_of}
use Rattle.repo_slice.specs.declared.keep_fault.KeepFault.{KeepFault}
use Rattle.repo_slice.specs.declared.keep_fault.KeepFault.TheVariants as fault
use Rattle.repo_slice.specs.declared.verdict.Judged.{Judged}
use Rattle.fetch_wire.specs.Judging.{further}
use Rattle.fetch_wire.specs.Sections.{Sections}
use Rattle.fetch_wire.specs.declared.part.Part.{Part}
use Rattle.fetch_wire.specs.declared.part.Which.{Which}
use Rattle.fetch_stages.specs.Batches.{IsCut}
use Rattle.fetch_stages.specs.Imports.{IsHeadOn}
use Rattle.fetch_stages.specs.JobEnds.{end_at}
use Rattle.fetch_stages.specs.Jobs.{BeginsRefusal, Breaks, EndsIn, IsJob, JobStop, Runs, Setting, StopsEarly, TooLong}
use Rattle.fetch_stages.specs.Pieces.{Uses}
use Rattle.fetch_stages.specs.Puts.{puts_of}
use Rattle.fetch_stages.specs.Sections.{PutsAllOf}
use Rattle.fetch_stages.specs.declared.bundle_stop.BundleStop.{BundleStop}
use Rattle.fetch_stages.specs.declared.bundle_stop.BundleStop.TheVariants as stop
use Rattle.fetch_stages.specs.declared.job_end.ImportEnd.{ImportEnd}
use Rattle.fetch_stages.specs.declared.job_end.ImportEnd.TheVariants as import
use Rattle.fetch_stages.specs.declared.job_end.JobEnd.{JobEnd}
use Rattle.fetch_stages.specs.declared.job_end.JobEnd.TheVariants as job
use Rattle.fetch_stages.specs.declared.section.Section.{Section}
use Rattle.fetch_stages.specs.declared.section_stop.SectionStop.{SectionStop}
use Rattle.fetch_stages.specs.declared.section_stop.SectionStop.TheVariants as stops

-- the 20 bytes of a name were read, or bytes of which there are not so many
abbrev pub ReadsName : Option (List ℕ) → Option (List ℕ) → List ℕ → List ℕ → Result (Option Rid) Failed → Type 0
ReadsName left left' before after (Ok (Some rid)) = IsOid rid.0 × Uses left left' before rid.0.0 after
ReadsName left left' before after (Ok None) =
    (used : List ℕ) × Uses left left' before used [] × (length used < 20) × (after ≡ []) × IsAtEnd left'
ReadsName left left' before after (Err why) =
    (used : List ℕ) × Uses left left' before used after × (length used < 20)

-- a section of a bundle of at most so many bytes is read and its objects are put
pub record PutsNext {K O : Type 0} (made : K → O → List Item → Type 0) (held : K → Rid → Held)
    (rid : Rid) (caller : ℕ) (old new : K) (which : Which) (limit : ℕ)
    (left left' : Option (List ℕ)) (before after : List ℕ) (section : Section) : Type 0 where
  pub bytes : List ℕ
  pub head : Part
  pub objects : List Object
  pub uses : Uses left left' before bytes after
  pub within : length bytes ≤ limit
  pub is : (rest : List ℕ) → Sections (bytes ++ rest) which head objects rest
  pub puts : PutsAllOf made held rid caller old new objects
  pub head_is : section.head ≡ Some head
  pub count : section.used ≡ length bytes

-- the bytes are a section and no more, with these puts
pub record IsWholeSection (s : Setting) (which : Which) (bytes : List ℕ) (entries : List Item) : Type 0 where
  pub head : Part
  pub objects : List Object
  pub section : Sections bytes which head objects []
  pub batches : List (List Object)
  pub cut : IsCut objects batches
  pub made : entries ≡ puts_of s.rid s.constants.caller batches

-- the unit at a place is broken, or so many bytes end inside it within the limit, and no more follow
abbrev pub IsBadAt : ℕ → ℕ → ℕ → Type 0 → JobStop → Type 0
IsBadAt place count limit at_end found =
    ((found ≡ EndsIn place) × (count ≤ limit) × at_end) ⊎ ((shown : ℕ) × (found ≡ Breaks place shown))

-- Why a section of a bundle stops that begins at a place, of which these bytes were read and these not.
abbrev pub StopsNextBy : {K O : Type 0} → (K → O → List Item → Type 0) → Setting → ℕ → K → K → Which → ℕ
    → ℕ → Type 0 → List ℕ → List ℕ → BundleStop → Type 0
StopsNextBy made s end old new which place limit at_end bytes unread stop.ReadFault =
    (entries : List Item) × (begins : ℕ)
    × StopsEarly s which place (take limit bytes) entries (EndsIn begins) × Makes made old new entries
StopsNextBy made s end old new which place limit at_end bytes unread (stop.Bad begins) =
    (entries : List Item) × (found : JobStop)
    × StopsEarly s which place (take limit bytes) entries found × Makes made old new entries
    × IsBadAt begins (length bytes) limit at_end found × (unread ≡ [])
StopsNextBy made s end old new which place limit at_end bytes unread stop.TooLong =
    (entries : List Item) × (begins : ℕ)
    × StopsEarly s which place (take limit bytes) entries (EndsIn begins) × Makes made old new entries
    × (limit < length bytes) × (unread ≡ [])
StopsNextBy made s end old new which place limit at_end bytes unread (stop.Keep why) =
    (entries : List Item)
    × (((found : JobStop) × StopsEarly s which place (take limit bytes) entries found)
    ⊎ IsWholeSection s which (take limit bytes) entries)
    × StopsIn made s.rid s.constants.caller end old new entries why

-- a section of a bundle stops that begins at a place
pub record StopsNext {K O : Type 0} (made : K → O → List Item → Type 0) (s : Setting) (end : ℕ) (old new : K) (which : Which)
    (place limit : ℕ) (left left' : Option (List ℕ)) (before : List ℕ) (why : BundleStop) : Type 0 where
  pub bytes : List ℕ
  pub unread : List ℕ
  pub uses : Uses left left' before bytes unread
  pub stops : StopsNextBy made s end old new which place limit (IsAtEnd left') bytes unread why

-- a fault is answered only where its cause is there
abbrev pub HasStopCause : Type 0 → ℕ → ℕ → Option ObjectMap → BundleStop → Type 0
HasStopCause input before now objects stop.ReadFault = input
HasStopCause input before now objects (stop.Bad place) = Unit {0}
HasStopCause input before now objects stop.TooLong = Unit {0}
HasStopCause input before now objects (stop.Keep why) = IsKeepCause objects before now why × IsNoChange why

-- what the stop of a job is, and what was made of its entries
abbrev pub StopsJobBy : {K O : Type 0} → (K → O → List Item → Type 0) → Setting → ℕ → K → K → Type 0 → List ℕ → List ℕ → List Item
    → JobStop → BundleStop → Type 0
StopsJobBy made s end old new at_end bytes unread entries found stop.ReadFault = Makes made old new entries
StopsJobBy made s end old new at_end bytes unread entries found (stop.Bad place) =
    Makes made old new entries × IsBadAt place (length bytes) (2 ^ 30) at_end found × (unread ≡ [])
StopsJobBy made s end old new at_end bytes unread entries found stop.TooLong =
    Makes made old new entries × (found ≡ TooLong) × (unread ≡ [])
StopsJobBy made s end old new at_end bytes unread entries found (stop.Keep why) =
    StopsIn made s.rid s.constants.caller end old new entries why

-- the sections of a job are not all put
pub record StopsJob {K O : Type 0} (made : K → O → List Item → Type 0) (s : Setting) (start : Held) (end : ℕ) (old new : K)
    (left left' : Option (List ℕ)) (before : List ℕ) (why : BundleStop) : Type 0 where
  pub bytes : List ℕ
  pub unread : List ℕ
  pub uses : Uses left left' before bytes unread
  pub entries : List Item
  pub found : JobStop
  pub job : IsJob s start bytes entries found
  pub ends : StopsJobBy made s end old new (IsAtEnd left') bytes unread entries found why

-- the sections of a job are put, which have so many bytes, and what is offered is judged next
pub record PutsJob {K O : Type 0} (made : K → O → List Item → Type 0) (held : K → Rid → Held) (s : Setting) (start : Held)
    (old new : K) (offer : Offer) (place : ℕ) (left left' : Option (List ℕ)) (before after : List ℕ) : Type 0 where
  pub bytes : List ℕ
  pub uses : Uses left left' before bytes after
  pub count : place ≡ length bytes
  pub within : place ≤ 2 ^ 30
  pub entries : List Item
  pub entered : Makes made old new entries
  pub on : Held
  pub slice : HasSlice on.state on.objects (held new s.rid)
  pub untold : (held new s.rid).objects ≡ None → start.objects ≡ None
  pub runs : (rest : List ℕ) (last : List Item) (found : JobStop) → Runs s offer [] on place [] last found
      → IsJob s start (bytes ++ rest) (entries ++ last) found

-- judging an offer on what is held, behind so many bytes of sections, is refused
abbrev pub StopsJudging : {K O : Type 0} → (K → O → List Item → Type 0) → Setting → ℕ → K → K → Held → Offer → ℕ → KeepFault
    → Type 0
StopsJudging made s end old new on offer place why =
    (entries : List Item) × (found : JobStop) × Runs s offer [] on place [] entries found
    × StopsIn made s.rid s.constants.caller end old new entries why

-- an offer is judged on what is held, and the verdict is entered
pub record Enters {K O : Type 0} (made : K → O → List Item → Type 0) (s : Setting) (old new : K) (on : Held) (offer : Offer)
    (verdict : Result Judged Whole) : Type 0 where
  pub is : IsVerdictOn s.constants on offer s.scope verdict
  pub made_is : Makes made old new (item_of s.rid s.constants.caller verdict ∷ [])

-- How the job of a bundle ends whose offer is judged on what is held, behind so many bytes of sections;
-- with what is held then, and the bytes that follow.
abbrev pub FinishesBy : {K O : Type 0} → (K → O → List Item → Type 0) → Setting → ℕ → K → K → Held → Offer → ℕ → Held
    → List ℕ → Type 0 → ImportEnd → Type 0
FinishesBy made s end old new on offer place finally rest at_end (import.Ended rid (job.Done judged head)) =
    (rid ≡ s.rid) × Enters made s old new on offer (Ok judged) × (rest ≡ []) × at_end
    × HeldBehind on (Ok judged) finally × IsHeadOn s.constants finally head
FinishesBy made s end old new on offer place finally rest at_end (import.Ended rid (job.Refused why)) =
    (rid ≡ s.rid) × Enters made s old new on offer (Err why) × (rest ≡ []) × at_end
    × HasSlice on.state on.objects finally
FinishesBy made s end old new on offer place finally rest at_end (import.Ended rid job.TooLong) = ⊥
FinishesBy made s end old new on offer place finally rest at_end (import.Ended rid job.DiskFault) =
    (rid ≡ s.rid) × StopsJudging made s end old new on offer place fault.DiskFault
FinishesBy made s end old new on offer place finally rest at_end (import.Ended rid job.Full) =
    (rid ≡ s.rid) × StopsJudging made s end old new on offer place fault.Full
FinishesBy made s end old new on offer place finally rest at_end (import.Ended rid (job.Changed change)) =
    (rid ≡ s.rid) × StopsJudging made s end old new on offer place (fault.Changed change)
FinishesBy made s end old new on offer place finally rest at_end (import.Ended rid job.NoMemory) =
    (rid ≡ s.rid) × StopsJudging made s end old new on offer place fault.NoMemory
FinishesBy made s end old new on offer place finally rest at_end import.ReadFault =
    (verdict : Result Judged Whole) × Enters made s old new on offer verdict
FinishesBy made s end old new on offer place finally rest at_end (import.InputBad begins) =
    (verdict : Result Judged Whole) × Enters made s old new on offer verdict × (begins ≡ 20 + place) × (0 < length rest)
FinishesBy made s end old new on offer place finally rest at_end import.NoMemory = ⊥

-- the end that a stop makes
abbrev pub end_of : Rid → BundleStop → ImportEnd
end_of rid stop.ReadFault = import.ReadFault
end_of rid (stop.Bad place) = import.InputBad (further 20 place)
end_of rid stop.TooLong = import.Ended rid job.TooLong
end_of rid (stop.Keep why) = import.Ended rid (end_at why)

-- why no section begins at a place, where so many bytes are within the limit and these wait
abbrev pub IsNoSection : Type 0 → Type 0 → ℕ → ℕ → List ℕ → BundleStop → Type 0
IsNoSection input at_end place limit rest stop.ReadFault = input
IsNoSection input at_end place limit rest (stop.Bad begins) =
    (begins ≡ place) × (((rest ≡ []) × at_end) ⊎ (BeginsRefusal rest × (0 < limit)))
IsNoSection input at_end place limit rest stop.TooLong = (limit ≡ 0) × (0 < length rest)
IsNoSection input at_end place limit rest (stop.Keep why) = ⊥

-- where the limit stands inside the unit of a place, the job is too long if more bytes wait
abbrev pub IsPastLimit : Type 0 → Type 0 → ℕ → List ℕ → BundleStop → Type 0
IsPastLimit input at_end place rest stop.ReadFault = input
IsPastLimit input at_end place rest (stop.Bad begins) = (begins ≡ place) × (rest ≡ []) × at_end
IsPastLimit input at_end place rest stop.TooLong = 0 < length rest
IsPastLimit input at_end place rest (stop.Keep why) = ⊥

-- nothing is done at the stop of a section, but where the limit stands inside it
abbrev pub IsUntouched : Type 0 → SectionStop → Type 0
IsUntouched Same stops.ReadFault = Same
IsUntouched Same (stops.Ends unit) = Same
IsUntouched Same (stops.TooLong unit) = Unit {0}
IsUntouched Same (stops.Bad broken) = Same
IsUntouched Same stops.NoMemory = Same
IsUntouched Same (stops.Keep refused) = Same

-- what the stop of a section that begins at a place makes of its job, where these bytes wait
abbrev pub IsStopAt : Type 0 → Type 0 → ℕ → List ℕ → SectionStop → BundleStop → Type 0
IsStopAt input at_end place rest stops.ReadFault why = why ≡ stop.ReadFault
IsStopAt input at_end place rest (stops.Ends unit) why = why ≡ stop.Bad (further place unit)
IsStopAt input at_end place rest (stops.TooLong unit) why = IsPastLimit input at_end (further place unit) rest why
IsStopAt input at_end place rest (stops.Bad broken) why = why ≡ stop.Bad (further place broken.place)
IsStopAt input at_end place rest stops.NoMemory why = why ≡ stop.Keep fault.NoMemory
IsStopAt input at_end place rest (stops.Keep refused) why = why ≡ stop.Keep refused

-- what the end of a job is that was installed: the head of what is held, or why none was told
abbrev pub EndsDone : {K O : Type 0} → (K → O → List Item → Type 0) → (K → Constants) → (K → ℕ) → (K → Rid → Held) → Rid
    → Judged → K → K → JobEnd → Type 0
EndsDone made constants end held rid judged old new (job.Done same head) =
    (same ≡ judged) × Makes made old new [] × IsHeadOn (constants old) (held new rid) head
EndsDone made constants end held rid judged old new (job.Refused why) = ⊥
EndsDone made constants end held rid judged old new job.TooLong = ⊥
EndsDone made constants end held rid judged old new job.DiskFault =
    StopsIn made rid (constants old).caller (end new) old new [] fault.DiskFault
EndsDone made constants end held rid judged old new job.Full =
    StopsIn made rid (constants old).caller (end new) old new [] fault.Full
EndsDone made constants end held rid judged old new (job.Changed change) =
    StopsIn made rid (constants old).caller (end new) old new [] (fault.Changed change)
EndsDone made constants end held rid judged old new job.NoMemory =
    StopsIn made rid (constants old).caller (end new) old new [] fault.NoMemory

-- a fault of the keep is the end only where its cause is there
abbrev pub IsDoneCause : Option ObjectMap → ℕ → ℕ → JobEnd → Type 0
IsDoneCause objects before now (job.Done judged head) = Unit {0}
IsDoneCause objects before now (job.Refused why) = Unit {0}
IsDoneCause objects before now job.TooLong = Unit {0}
IsDoneCause objects before now job.DiskFault = IsKeepCause objects before now fault.DiskFault
IsDoneCause objects before now job.Full = Unit {0}
IsDoneCause objects before now (job.Changed change) = IsKeepCause objects before now (fault.Changed change)
IsDoneCause objects before now job.NoMemory = Unit {0}

-- the same of an import that ends so behind the judging of an offer of this repository
abbrev pub IsJudgeCause : Rid → Option ObjectMap → Type 0 → Type 0 → ImportEnd → Type 0
IsJudgeCause rid objects input disk (import.Ended of (job.Done judged head)) = Unit {0}
IsJudgeCause rid objects input disk (import.Ended of (job.Refused why)) = Unit {0}
IsJudgeCause rid objects input disk (import.Ended of job.TooLong) = Unit {0}
IsJudgeCause rid objects input disk (import.Ended of job.DiskFault) = disk
IsJudgeCause rid objects input disk (import.Ended of job.Full) = Unit {0}
IsJudgeCause rid objects input disk (import.Ended of (job.Changed change)) =
    (of ≡ rid) × (objects ≡ None) × IsOtherName change
IsJudgeCause rid objects input disk (import.Ended of job.NoMemory) = Unit {0}
IsJudgeCause rid objects input disk import.ReadFault = input
IsJudgeCause rid objects input disk (import.InputBad place) = Unit {0}
IsJudgeCause rid objects input disk import.NoMemory = Unit {0}
