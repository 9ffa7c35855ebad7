-- Laws of the runs of jobs: of a front of the bytes, and of the same bytes.
use Rattle.std.specs.Prelude.{◌≡◌, ℕ, List, [], ◌∷◌, ◌++◌, length, None, Result}
use Rattle.std.specs.List.{flat_map}
use Rattle.hex.specs.Hex.{IsBytes}
use Rattle.rad_base.specs.declared.names.Rid.{Rid}
use Rattle.rad_base.specs.declared.offer.Offer.{Offer}
use Rattle.repo_entries.specs.Items.{Item, claim, heard, install, missed, put, refused}
use Rattle.repo_entries.specs.declared.whole.Whole.{Whole}
use Rattle.repo_slice.specs.Keeps.{Constants, Held, IsVerdictOn}
use Rattle.repo_slice.specs.declared.scope.Scope.{Scope}
use Rattle.repo_slice.specs.declared.verdict.Judged.{Judged}
use Rattle.fetch_stages.specs.Imports.{Bad, Came, Inside, IsBundleJob, IsNamedBy, Long, Unjudged, Verdict}
use Rattle.fetch_stages.specs.Jobs.{Breaks, EndsIn, IsJob, JobStop, NotServed, Passed, Reaches, Setting, TooLong}

-- the objects are told
abbrev pub IsTold : Held → Type 0
IsTold held = held.objects ≡ None → ⊥

-- the objects are told of the repository that these bytes name
abbrev pub IsToldOf : (Rid → Held) → List ℕ → Type 0
IsToldOf held bytes = (rid : Rid) → IsNamedBy bytes rid → IsTold (held rid)

-- nothing is said of the verdict that the job comes to
abbrev pub IsPassed : JobStop → Type 0
IsPassed stop = (place : ℕ) × (stop ≡ Passed place)

abbrev pub IsUnjudged : Came → Type 0
IsUnjudged came = (rid : Rid) × (came ≡ Unjudged rid)

-- the bytes end inside a unit
abbrev pub IsInside : JobStop → Type 0
IsInside stop = (place : ℕ) × (stop ≡ EndsIn place)

abbrev pub IsInsideOf : Came → Type 0
IsInsideOf came = (place : ℕ) × (came ≡ Inside place)

-- where an import stands that came so by so many bytes, once these follow: a bundle that has ended is
-- bad where they begin
abbrev pub behind_came : ℕ → List ℕ → Came → Came
behind_came count [] came = came
behind_came count (byte ∷ more) (Bad place) = Bad place
behind_came count (byte ∷ more) (Inside place) = Inside place
behind_came count (byte ∷ more) (Verdict rid held verdict) = Bad count
behind_came count (byte ∷ more) (Unjudged rid) = Unjudged rid
behind_came count (byte ∷ more) (Long rid) = Long rid

-- the entry of a put
abbrev pub put_in : Item → List Item
put_in (claim rid caller) = []
put_in (put rid objects caller) = put rid objects caller ∷ []
put_in (install rid id remotes caller) = []
put_in (heard message caller) = []
put_in (missed of left caller) = []
put_in (refused rid why caller) = []

-- the puts among entries, in order
abbrev pub puts_among : List Item → List Item
puts_among entries = flat_map put_in entries

-- these entries begin with those
abbrev pub BeginWith : List Item → List Item → Type 0
BeginWith all first = (rest : List Item) × (all ≡ first ++ rest)

-- the stop, with nothing said of a verdict
abbrev pub unjudged : JobStop → JobStop
unjudged (Reaches held verdict place) = Passed place
unjudged (Passed place) = Passed place
unjudged (NotServed code shown) = NotServed code shown
unjudged (Breaks place shown) = Breaks place shown
unjudged (EndsIn place) = EndsIn place
unjudged TooLong = TooLong

-- on objects that are told an offer has one verdict
abbrev pub OneVerdictOn : Type 0
OneVerdictOn = (constants : Constants) (held : Held) (offer : Offer) (scope : Scope) (these those : Result Judged Whole)
    → IsTold held → IsVerdictOn constants held offer scope these → IsVerdictOn constants held offer scope those
    → these ≡ those

-- bytes have a job, of whose verdict nothing is said
abbrev pub SomeJob : Type 0
SomeJob = (s : Setting) (held : Held) (bytes : List ℕ) → IsBytes bytes
    → (entries : List Item) × (stop : JobStop) × IsJob s held bytes entries stop

-- the same of bundles
abbrev pub SomeBundleJob : Type 0
SomeBundleJob = (constants : Constants) (held : Rid → Held) (bytes : List ℕ) → IsBytes bytes
    → (entries : List Item) × (came : Came) × IsBundleJob constants held bytes entries came

-- what is put by a front of the bytes is put first by all of them
abbrev pub FrontsPutFirst : Type 0
FrontsPutFirst = (s : Setting) (held : Held) (front more : List ℕ) (entries all : List Item) (stop whole : JobStop)
    → IsJob s held front entries stop → IsJob s held (front ++ more) all whole
    → BeginWith (puts_among all) (puts_among entries)

-- where the objects are told, all entries begin with those of a front of the bytes
abbrev pub FrontsEnterFirst : Type 0
FrontsEnterFirst = (s : Setting) (held : Held) (front more : List ℕ) (entries all : List Item) (stop whole : JobStop)
    → IsJob s held front entries stop → IsJob s held (front ++ more) all whole → IsTold held → (IsPassed whole → ⊥)
    → BeginWith all entries

-- the same of bundles
abbrev pub BundleFrontsPutFirst : Type 0
BundleFrontsPutFirst = (constants : Constants) (held : Rid → Held) (front more : List ℕ) (entries all : List Item) (came whole : Came)
    → IsBundleJob constants held front entries came → IsBundleJob constants held (front ++ more) all whole
    → BeginWith (puts_among all) (puts_among entries)

abbrev pub BundleFrontsEnterFirst : Type 0
BundleFrontsEnterFirst = (constants : Constants) (held : Rid → Held) (front more : List ℕ) (entries all : List Item) (came whole : Came)
    → IsBundleJob constants held front entries came → IsBundleJob constants held (front ++ more) all whole
    → IsToldOf held front → (IsUnjudged whole → ⊥) → BeginWith all entries

-- bytes have one job up to its verdict
abbrev pub OneJobUnjudged : Type 0
OneJobUnjudged = (s : Setting) (held : Held) (bytes : List ℕ) (these those : List Item) (stop other : JobStop)
    → IsJob s held bytes these stop → IsJob s held bytes those other
    → (puts_among these ≡ puts_among those) × (unjudged stop ≡ unjudged other)

-- where the objects are told and the verdict is said, bytes have one job
abbrev pub OneJob : Type 0
OneJob = (s : Setting) (held : Held) (bytes : List ℕ) (these those : List Item) (stop other : JobStop)
    → IsJob s held bytes these stop → IsJob s held bytes those other → IsTold held
    → (IsPassed stop → ⊥) → (IsPassed other → ⊥) → (these ≡ those) × (stop ≡ other)

-- the same of bundles
abbrev pub OneBundlePuts : Type 0
OneBundlePuts = (constants : Constants) (held : Rid → Held) (bytes : List ℕ) (these those : List Item) (came other : Came)
    → IsBundleJob constants held bytes these came → IsBundleJob constants held bytes those other
    → puts_among these ≡ puts_among those

abbrev pub OneBundleJob : Type 0
OneBundleJob = (constants : Constants) (held : Rid → Held) (bytes : List ℕ) (these those : List Item) (came other : Came)
    → IsBundleJob constants held bytes these came → IsBundleJob constants held bytes those other → IsToldOf held bytes
    → (IsUnjudged came → ⊥) → (IsUnjudged other → ⊥) → (these ≡ those) × (came ≡ other)

-- a job that does not end inside a unit stays as it is, whatever follows
abbrev pub StopsStay : Type 0
StopsStay = (s : Setting) (held : Held) (front more : List ℕ) (entries all : List Item) (stop whole : JobStop)
    → IsJob s held front entries stop → IsJob s held (front ++ more) all whole → IsTold held
    → (IsPassed stop → ⊥) → (IsPassed whole → ⊥) → (IsInside stop → ⊥) → (all ≡ entries) × (whole ≡ stop)

-- up to its verdict it stays so in any case
abbrev pub StopsStayUnjudged : Type 0
StopsStayUnjudged = (s : Setting) (held : Held) (front more : List ℕ) (entries all : List Item) (stop whole : JobStop)
    → IsJob s held front entries stop → IsJob s held (front ++ more) all whole → (IsInside stop → ⊥)
    → (puts_among all ≡ puts_among entries) × (unjudged whole ≡ unjudged stop)

-- the same of a bundle, but that bytes behind its end are bad
abbrev pub BundleStopsStay : Type 0
BundleStopsStay = (constants : Constants) (held : Rid → Held) (front more : List ℕ) (entries all : List Item) (came whole : Came)
    → IsBundleJob constants held front entries came → IsBundleJob constants held (front ++ more) all whole
    → IsToldOf held front → (IsUnjudged came → ⊥) → (IsUnjudged whole → ⊥) → (IsInsideOf came → ⊥)
    → (all ≡ entries) × (whole ≡ behind_came (length front) more came)

abbrev pub BundlePutsStay : Type 0
BundlePutsStay = (constants : Constants) (held : Rid → Held) (front more : List ℕ) (entries all : List Item) (came whole : Came)
    → IsBundleJob constants held front entries came → IsBundleJob constants held (front ++ more) all whole
    → (IsInsideOf came → ⊥) → puts_among all ≡ puts_among entries
