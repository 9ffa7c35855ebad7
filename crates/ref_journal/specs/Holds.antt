-- What a journal holds, and what its calls keep.
use Rattle.std.specs.Prelude.{Bool, ◌≡◌, ◌⊎◌, ℕ, ◌≤◌, List, [], ◌∷◌, ◌++◌, true, false}
use Rattle.std.specs.Prelude.{Option, None, Some, Result, Ok, Err}
use Rattle.std.specs.Option.{is_some}
use Rattle.std.specs.Io.KnownBytes.{Keeps}
use Rattle.rad_base.specs.Faults.{Rose}
use Rattle.rad_outside.specs.Disks.{Within}
use Rattle.ref_journal.specs.Frames.{IsBody, frame_of, gate_behind}
use Rattle.ref_journal.specs.Images.{IsLeft}
use Rattle.ref_journal.specs.Moments.{HasBodies, HasBodiesOrOneMore, LeavesOnly, MayHave, Passes}
use Rattle.ref_journal.specs.declared.faults.AppendFault.{AppendFault}
use Rattle.ref_journal.specs.declared.faults.AppendFault.TheVariants.{Full, DiskFault}
use Rattle.ref_journal.specs.declared.journal.Journal.{Journal}

-- a disk tells what it reads as, and that and each image that a crash now may leave has P
pub record Tells (P : List ℕ → Type 0) (reads : Option (List ℕ)) (images : List ℕ → Type 0)
    : Type 0 where
  pub bytes : List ℕ
  pub told : reads ≡ Some bytes
  pub has : P bytes
  pub each : (image : List ℕ) → images image → P image

-- a disk tells that it has these bodies up to this place, and in every image the same body in
-- doubt, or none, and it is known whether one is
pub record Stores (reads : Option (List ℕ)) (images : List ℕ → Type 0) (end : ℕ) (in_doubt : Bool)
    (bodies : List (List ℕ)) (doubt : Option (List ℕ)) : Type 0 where
  pub tells : Tells (IsLeft bodies doubt end) reads images
  pub flag : in_doubt ≡ is_some doubt

-- the journal's disk stores these bodies up to the journal's end, with that doubt
abbrev pub Holds : {D : Type 0} → (D → Option (List ℕ)) → (D → List ℕ → Type 0) → Journal D
    → List (List ℕ) → Option (List ℕ) → Type 0
Holds reads images journal bodies doubt =
    Stores (reads journal.disk) (images journal.disk) journal.end journal.in_doubt bodies doubt

-- whatever bodies the old journal holds, with any doubt, the new one holds these and one more, with
-- none in doubt
abbrev pub HoldsOneMore : {D : Type 0} → (D → Option (List ℕ)) → (D → List ℕ → Type 0)
    → Journal D → Journal D → List ℕ → Type 0
HoldsOneMore reads images old new body =
    (bodies : List (List ℕ)) (doubt : Option (List ℕ)) → Holds reads images old bodies doubt
    → Holds reads images new (bodies ++ body ∷ []) None

-- the same of the body that a frame is of, where the old journal has none in doubt
abbrev pub HoldsFramedBody : {D : Type 0} → (D → Option (List ℕ)) → (D → List ℕ → Type 0)
    → Journal D → Journal D → List ℕ → Type 0
HoldsFramedBody reads images old new frame =
    (bodies : List (List ℕ)) (body : List ℕ) → frame ≡ frame_of body → IsBody body
    → Holds reads images old bodies None → Holds reads images new (bodies ++ body ∷ []) None

-- What an append that was refused leaves of a journal of these bodies with that doubt. After a disk
-- fault the body is in doubt, or a mend that came first ended the doubt, or the doubt is what it
-- was.
abbrev pub LeavesDoubt : {D : Type 0} → (D → Option (List ℕ)) → (D → List ℕ → Type 0)
    → List (List ℕ) → Option (List ℕ) → List ℕ → Journal D → AppendFault → Type 0
LeavesDoubt reads images bodies doubt body new Full = Holds reads images new bodies doubt
LeavesDoubt reads images bodies doubt body new (DiskFault true) =
    Holds reads images new bodies (Some body)
LeavesDoubt reads images bodies doubt body new (DiskFault false) =
    Holds reads images new bodies None ⊎ Holds reads images new bodies doubt

-- whatever bodies the old journal holds, with any doubt, an append of this one that was refused
-- leaves these, with the doubt that the fault tells
abbrev pub LeavesBodies : {D : Type 0} → (D → Option (List ℕ)) → (D → List ℕ → Type 0)
    → Journal D → Journal D → List ℕ → AppendFault → Type 0
LeavesBodies reads images old new body fault =
    (bodies : List (List ℕ)) (doubt : Option (List ℕ)) → Holds reads images old bodies doubt
    → LeavesDoubt reads images bodies doubt body new fault

-- the same of the body that a frame is of, where the old journal has none in doubt
abbrev pub LeavesFramedBody : {D : Type 0} → (D → Option (List ℕ)) → (D → List ℕ → Type 0)
    → Journal D → Journal D → List ℕ → AppendFault → Type 0
LeavesFramedBody reads images old new frame fault =
    (bodies : List (List ℕ)) (body : List ℕ) → frame ≡ frame_of body → IsBody body
    → Holds reads images old bodies None → LeavesDoubt reads images bodies None body new fault

-- what an image has where an append of this body was refused: the body only where it is in doubt
abbrev pub RefusedMayHave : AppendFault → List (List ℕ) → List ℕ → List ℕ → Type 0
RefusedMayHave Full bodies body image = HasBodies bodies image
RefusedMayHave (DiskFault true) bodies body image = HasBodiesOrOneMore bodies body image
RefusedMayHave (DiskFault false) bodies body image = HasBodies bodies image

-- what an image has that a crash leaves during an append of this body which answers so, where none
-- is in doubt
abbrev pub AppendMayHave : {T : Type 0} → Result T AppendFault → List (List ℕ) → List ℕ → List ℕ
    → Type 0
AppendMayHave (Ok place) bodies body image = HasBodiesOrOneMore bodies body image
AppendMayHave (Err fault) bodies body image = RefusedMayHave fault bodies body image

-- the same where a body may be in doubt, for which the append mends first
abbrev pub MendedMayHave : {T : Type 0} → Result T AppendFault → List ℕ → List (List ℕ)
    → Option (List ℕ) → List ℕ → Type 0
MendedMayHave result body bodies doubt image =
    MayHave bodies doubt image ⊎ AppendMayHave result bodies body image

-- a disk fault comes only where the count rose
abbrev pub HasAppendCause : ℕ → ℕ → AppendFault → Type 0
HasAppendCause before now Full = Unit {0}
HasAppendCause before now (DiskFault left) = Rose before now

-- a call that only reads: the same disk, with the same bytes, no new image, now or at any moment of
-- the call, and no fewer faults
pub record OnlyReads {D : Type 0} (loan faults : D → ℕ) (reads : D → Option (List ℕ))
    (images : D → List ℕ → Type 0) (moment : D → ℕ) (since : D → ℕ → List ℕ → Type 0)
    (old new : D) : Type 0 where
  pub stays : loan new ≡ loan old
  pub later : faults old ≤ faults new
  pub same : Keeps (reads old) (reads new)
  pub within : Within (images new) (images old)
  pub time : Passes (moment old) (moment new) (since old) (since new) (images old)

-- a crash at any moment between two disks leaves an image that has P
abbrev pub LeavesOnlyBetween : {D : Type 0} → (D → ℕ) → (D → ℕ → List ℕ → Type 0) → D → D
    → (List ℕ → Type 0) → Type 0
LeavesOnlyBetween moment since old new P =
    LeavesOnly (moment old) (moment new) (since old) (since new) P

-- whatever bodies the old journal holds, with any doubt, a crash at any moment between the two
-- leaves an image that has P of these
abbrev pub CrashLeaves : {D : Type 0} → (D → Option (List ℕ)) → (D → List ℕ → Type 0) → (D → ℕ)
    → (D → ℕ → List ℕ → Type 0) → Journal D → Journal D
    → (List (List ℕ) → Option (List ℕ) → List ℕ → Type 0) → Type 0
CrashLeaves reads images moment since old new P =
    (bodies : List (List ℕ)) (doubt : Option (List ℕ)) → Holds reads images old bodies doubt
    → LeavesOnlyBetween moment since old.disk new.disk (P bodies doubt)

-- whatever bodies the old journal holds, with none in doubt, a crash at any moment between the two
-- leaves what an append of the body that a frame is of may leave, which answers so
abbrev pub CrashLeavesFramedBody : {D T : Type 0} → (D → Option (List ℕ)) → (D → List ℕ → Type 0)
    → (D → ℕ) → (D → ℕ → List ℕ → Type 0) → Journal D → Journal D → List ℕ → Result T AppendFault
    → Type 0
CrashLeavesFramedBody reads images moment since old new frame result =
    (bodies : List (List ℕ)) (body : List ℕ) → frame ≡ frame_of body → IsBody body
    → Holds reads images old bodies None
    → LeavesOnlyBetween moment since old.disk new.disk (AppendMayHave result bodies body)

-- where the gate of one of the journal's bodies stands at this place, that body is read, and the
-- place of the next gate is answered
abbrev pub ReadsBodyAt : {D : Type 0} → (D → Option (List ℕ)) → (D → List ℕ → Type 0) → Journal D
    → ℕ → List ℕ → Option ℕ → Type 0
ReadsBodyAt reads images journal place read next =
    (before after : List (List ℕ)) (body : List ℕ) (doubt : Option (List ℕ))
    → Holds reads images journal (before ++ body ∷ after) doubt → place ≡ gate_behind before
    → (next ≡ Some (gate_behind (before ++ body ∷ []))) × (read ≡ body)
