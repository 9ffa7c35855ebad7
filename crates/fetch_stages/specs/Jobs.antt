-- The run of a job: the entries that its bytes give, and where it stops.
use Rattle.std.specs.Prelude.{◌≡◌, ◌⊎◌, ℕ, ◌+◌, ◌-◌, ◌^◌, nat_lt, Bool, true, false, if◌then◌else◌, List, [], ◌∷◌, ◌++◌, length, take, Result}
use Rattle.rad_base.specs.declared.names.Rid.{Rid}
use Rattle.rad_base.specs.declared.offer.Offer.{Offer}
use Rattle.commit_graph.specs.Objects.{Object}
use Rattle.repo_entries.specs.Items.{Item}
use Rattle.repo_entries.specs.declared.whole.Whole.{Whole}
use Rattle.repo_slice.specs.Keeps.{Constants, Held, IsVerdictOn, item_of, put_told}
use Rattle.repo_slice.specs.declared.scope.Scope.{Scope}
use Rattle.repo_slice.specs.declared.verdict.Judged.{Judged}
use Rattle.unit_reader.specs.Units.{Broken}
use Rattle.fetch_wire.specs.Judging.{further}
use Rattle.fetch_wire.specs.SectionReadings.{read_of}
use Rattle.fetch_wire.specs.Sections.{IsCode, Sections}
use Rattle.fetch_wire.specs.declared.fault.Break.{Break}
use Rattle.fetch_wire.specs.declared.part.Part.{Part}
use Rattle.fetch_wire.specs.declared.part.Part.TheVariants as part
use Rattle.fetch_wire.specs.declared.part.Which.{Which}
use Rattle.fetch_wire.specs.declared.part.Which.TheVariants.{Identity, Sigs, Tips}
use Rattle.fetch_stages.specs.Batches.{IsCut, IsOpenCut}
use Rattle.fetch_stages.specs.Puts.{puts_of}
use Rattle.fetch_stages.specs.Sections.{StopsInSection, objects_among}

-- by what a job runs, beside what is held; whether a refusal may stand in place of a section
pub record Setting : Type 0 where
  pub rid : Rid
  pub constants : Constants
  pub scope : Scope
  pub may_decline : Bool

-- Where a job stops by its bytes: at the verdict, on what is held then, or behind its last section
-- where none is said; at a refusal of the peer, or at the broken unit of a place, each with the
-- number of bytes that show it; inside the unit of a place; past the limit of its sections.
pub data JobStop : Type 0 where
  Reaches : Held → Result Judged Whole → ℕ → JobStop
  Passed : ℕ → JobStop
  NotServed : ℕ → ℕ → JobStop
  Breaks : ℕ → ℕ → JobStop
  EndsIn : ℕ → JobStop
  TooLong : JobStop

-- the head of a section of a kind, where this is offered
abbrev pub head_with : Offer → Which → Part
head_with offer Identity = part.Offer offer
head_with offer Sigs = part.SigsHead
head_with offer Tips = part.TipsHead

-- the place behind the bytes of a section that begins at a place, of which the rest is not its own
abbrev pub place_behind : ℕ → List ℕ → List ℕ → ℕ
place_behind place bytes rest = place + (length bytes - length rest)

-- the first byte is that of a refusal
abbrev pub BeginsRefusal : List ℕ → Type 0
BeginsRefusal bytes = (rest : List ℕ) × (bytes ≡ 82 ∷ rest)

-- the bytes of a section that begins at a place give these parts, and the job stops so in it
abbrev pub StopsAt : Which → ℕ → List ℕ → List Part → JobStop → Type 0
StopsAt which place bytes parts (Reaches held verdict shown) = ⊥
StopsAt which place bytes parts (Passed shown) = ⊥
StopsAt which place bytes parts (NotServed code shown) =
    (rest : List ℕ) × IsCode code × (bytes ≡ 82 ∷ code ∷ rest) × (parts ≡ []) × (shown ≡ place + 2)
StopsAt which place bytes parts (Breaks begins shown) =
    (broken : Break) × (read_of which bytes ≡ record { items = parts; place = Broken broken })
    × (begins ≡ further place broken.place) × (shown ≡ further place broken.shown)
StopsAt which place bytes parts (EndsIn begins) =
    (unit : ℕ) × StopsInSection which bytes parts unit × (begins ≡ further place unit)
StopsAt which place bytes parts TooLong = ⊥

-- the same; where no refusal may stand in place of a section, its first byte is broken
abbrev pub StopsBy : Bool → Which → ℕ → List ℕ → List Part → JobStop → Type 0
StopsBy true which place bytes parts stop = StopsAt which place bytes parts stop
StopsBy false which place bytes parts stop =
    (BeginsRefusal bytes × (parts ≡ []) × (stop ≡ Breaks place (place + 1)))
    ⊎ ((BeginsRefusal bytes → ⊥) × StopsAt which place bytes parts stop)

-- a section stops early: its objects are put but for the batch that more objects may join
pub record StopsEarly (s : Setting) (which : Which) (place : ℕ) (bytes : List ℕ) (entries : List Item) (stop : JobStop) : Type 0 where
  pub parts : List Part
  pub stops : StopsBy s.may_decline which place bytes parts stop
  pub puts : List (List Object)
  pub waiting : List Object
  pub cut : IsOpenCut (objects_among parts) puts waiting
  pub made : entries ≡ puts_of s.rid s.constants.caller puts

-- a section comes to its end word: its objects are put, and these bytes follow
pub record Passes (s : Setting) (offer : Offer) (which : Which) (bytes rest : List ℕ) (old new : Held) (entries : List Item) : Type 0 where
  pub objects : List Object
  pub section : Sections bytes which (head_with offer which) objects rest
  pub batches : List (List Object)
  pub cut : IsCut objects batches
  pub made : entries ≡ puts_of s.rid s.constants.caller batches
  pub held : new ≡ record { state = old.state; objects = put_told old.objects objects }

-- the offer is judged on what is held then
pub record Judges (s : Setting) (offer : Offer) (held : Held) (place : ℕ) (entries : List Item) (stop : JobStop) : Type 0 where
  pub verdict : Result Judged Whole
  pub is : IsVerdictOn s.constants held offer s.scope verdict
  pub made : entries ≡ item_of s.rid s.constants.caller verdict ∷ []
  pub reached : stop ≡ Reaches held verdict place

-- From these sections on: the job stops in the first, or passes it and goes on. Behind the last the
-- offer is judged; or nothing is said of its verdict.
abbrev pub Runs : Setting → Offer → List Which → Held → ℕ → List ℕ → List Item → JobStop → Type 0
Runs s offer [] held place bytes entries stop =
    Judges s offer held place entries stop ⊎ ((entries ≡ []) × (stop ≡ Passed place))
Runs s offer (which ∷ more) held place bytes entries stop =
    StopsEarly s which place bytes entries stop
    ⊎ ((new : Held) × (rest : List ℕ) × (puts : List Item) × (later : List Item)
    × Passes s offer which bytes rest held new puts
    × Runs s offer more new (place_behind place bytes rest) rest later stop × (entries ≡ puts ++ later))

-- a job whose first bytes within the limit do not come to an end, and that has more bytes, is too long
abbrev pub limited : ℕ → JobStop → JobStop
limited count (Reaches held verdict place) = Reaches held verdict place
limited count (Passed place) = Passed place
limited count (NotServed code shown) = NotServed code shown
limited count (Breaks place shown) = Breaks place shown
limited count (EndsIn place) = if nat_lt (2 ^ 30) count then TooLong else EndsIn place
limited count TooLong = TooLong

-- the sections of a job, in order
abbrev pub all_sections : List Which
all_sections = Identity ∷ Sigs ∷ Tips ∷ []

-- the job of these bytes
pub record IsJob (s : Setting) (held : Held) (bytes : List ℕ) (entries : List Item) (stop : JobStop) : Type 0 where
  pub offer : Offer
  pub found : JobStop
  pub runs : Runs s offer all_sections held 0 (take (2 ^ 30) bytes) entries found
  pub stop_is : stop ≡ limited (length bytes) found
