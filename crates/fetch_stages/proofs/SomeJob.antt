-- Bytes have a job.
use Rattle.std.proofs.Common.{◌≡◌, ◌⊎◌, ◌≤◌, ◌+◌, ◌^◌, ℕ, Bool, true, false, List, [], ◌∷◌, ◌++◌, length, take, drop, get_or, inl, inr, refl, sym, ap, subst}
use Rattle.std.specs.List.{flat_map}
use Rattle.std.proofs.lemmas.Bool.{cases_eq, cases_lt}
use Rattle.std.proofs.lemmas.List.{get_or-append-add, length-take-le, take-append-drop}
use Rattle.hex.specs.Hex.{IsBytes}
use Rattle.rad_base.proofs.Conditions.{differ}
use Rattle.rad_base.specs.declared.names.Rid.{Rid}
use Rattle.rad_base.specs.declared.offer.Offer.{Offer}
use Rattle.commit_graph.specs.Objects.{Object}
use Rattle.repo_entries.specs.Items.{Item}
use Rattle.repo_slice.specs.Keeps.{Constants, Held, put_told}
use Rattle.unit_reader.specs.Units.{At, Broken, Place}
use Rattle.fetch_wire.specs.Judging.{further, is_over}
use Rattle.fetch_wire.specs.SectionReadings.{Tells, read_of}
use Rattle.fetch_wire.specs.Sections.{IsHead, Sections, part_text, parts_of}
use Rattle.fetch_wire.specs.declared.fault.Break.{Break}
use Rattle.fetch_wire.specs.declared.part.Part.{Part}
use Rattle.fetch_wire.specs.declared.part.Which.{Which}
use Rattle.fetch_wire.specs.declared.part.Which.TheVariants.{Identity, Sigs, Tips}
use Rattle.fetch_wire.specs.declared.units.SectionUnits.{SectionUnits}
use Rattle.fetch_wire.proofs.SectionsSpelled.{read_is_spelled, whole_is_spelled}
use Rattle.fetch_stages.specs.Imports.{Came, IsBundleJob, Inside, came_of, setting_of}
use Rattle.fetch_stages.specs.JobLaws.{SomeBundleJob, SomeJob}
use Rattle.fetch_stages.specs.Jobs.{BeginsRefusal, Breaks, EndsIn, JobStop, NotServed, Passed, Runs, Setting, StopsAt, StopsBy, StopsEarly, all_sections, head_with, limited, place_behind}
use Rattle.fetch_stages.specs.Puts.{puts_of}
use Rattle.fetch_stages.specs.Sections.{objects_among}
use Rattle.fetch_stages.proofs.Contents.{bytes_front}
use Rattle.fetch_stages.proofs.CutOn.{cut_ended, cut_on}
use Rattle.fetch_stages.proofs.Next.{none_held}
use Rattle.fetch_stages.proofs.WholeSections.{offered, sigs_head, tips_head}

-- the bytes begin with a section
abbrev SomeSection : Which → List ℕ → Type 0
SomeSection which bytes = (head : Part) × (objects : List Object) × (rest : List ℕ) × Sections bytes which head objects rest

-- a section stops, or comes to its end
abbrev StopsOrEnds : (JobStop → List Part → Type 0) → Which → List ℕ → Type 0
StopsOrEnds IsStop which bytes = ((parts : List Part) × (stop : JobStop) × IsStop stop parts) ⊎ SomeSection which bytes

inside_or_whole : (which : Which) (place : ℕ) (bytes : List ℕ) (parts : List Part) (units : SectionUnits) (held rest : List ℕ) (over : Bool)
    → IsBytes bytes → is_over units ≡ over → read_of which bytes ≡ record { items = parts; place = At units held rest }
    → (rest ≡ []) ⊎ ((is_over units ≡ true) × (held ≡ []))
    → StopsOrEnds (λ stop these. StopsAt which place bytes these stop) which bytes
inside_or_whole which place bytes parts units held rest false fits over reads (inl none) = inl (
  parts,
  EndsIn (further place units.place),
  (
    units.place,
    record {
      units = units;
      held = held;
      goes_on = over;
      reads = subst (λ (l : List ℕ). read_of which bytes ≡ record { items = parts; place = At units held l }) none reads;
      begins = refl;
    },
    refl,
  ),
)
inside_or_whole which place bytes parts units held rest false fits over reads (inr h) = absurd (differ (is_over units) h.0 over)
inside_or_whole which place bytes parts units held rest true fits over reads h =
    let none = none_held which bytes parts units held rest reads over in
    elim (whole_is_spelled which bytes parts rest fits (
      units,
      over,
      subst (λ (l : List ℕ). read_of which bytes ≡ record { items = parts; place = At units l rest }) none reads,
    )) [
      | inl s ↦ inr (s.0, s.1, rest, s.2)
      | inr r ↦ inl ([], NotServed r.0 (place + 2), (rest, r.1, r.2, refl, refl))
    ]

stops_or_ends : (which : Which) (place : ℕ) (bytes : List ℕ) (parts : List Part) (at : Place SectionUnits Break) → IsBytes bytes
    → read_of which bytes ≡ record { items = parts; place = at } → Tells which bytes parts at
    → StopsOrEnds (λ stop these. StopsAt which place bytes these stop) which bytes
stops_or_ends which place bytes parts (At units held rest) fits reads tells =
    inside_or_whole which place bytes parts units held rest (is_over units) fits refl reads tells.2
stops_or_ends which place bytes parts (Broken broken) fits reads tells =
    inl (parts, Breaks (further place broken.place) (further place broken.shown), (broken, reads, refl, refl))

read_on : (which : Which) (place : ℕ) (bytes : List ℕ) → IsBytes bytes
    → StopsOrEnds (λ stop these. StopsAt which place bytes these stop) which bytes
read_on which place bytes fits =
    stops_or_ends which place bytes (read_of which bytes).items (read_of which bytes).place fits refl (read_is_spelled which bytes fits)

-- the first byte is that of a refusal or not
refused_or_not : (bytes : List ℕ) → BeginsRefusal bytes ⊎ (BeginsRefusal bytes → ⊥)
refused_or_not [] = inr (λ r. nothing r.0 r.1)
  where
    nothing : (rest : List ℕ) → [] ≡ 82 ∷ rest → ⊥
    nothing rest e = cc e
refused_or_not (b ∷ bytes) = elim (cases_eq b 82) [
  | inl e ↦ inl (bytes, ap (λ (x : ℕ). x ∷ bytes) e)
  | inr other ↦ inr (λ r. other (ap (λ (l : List ℕ). get_or l 0 b) r.1))
]

barred : (which : Which) (place : ℕ) (bytes : List ℕ) → (BeginsRefusal bytes → ⊥)
    → StopsOrEnds (λ stop these. StopsAt which place bytes these stop) which bytes
    → StopsOrEnds (λ stop these. StopsBy false which place bytes these stop) which bytes
barred which place bytes bars (inl x) = inl (x.0, x.1, inr (bars, x.2))
barred which place bytes bars (inr x) = inr x

section_goes : (may_decline : Bool) (which : Which) (place : ℕ) (bytes : List ℕ) → IsBytes bytes
    → StopsOrEnds (λ stop these. StopsBy may_decline which place bytes these stop) which bytes
section_goes true which place bytes fits = read_on which place bytes fits
section_goes false which place bytes fits = elim (refused_or_not bytes) [
  | inl r ↦ inl ([], Breaks place (place + 1), inl (r, refl, refl))
  | inr bars ↦ barred which place bytes bars (read_on which place bytes fits)
]

-- a section that stops gives entries
abbrev SomeEarly : Setting → Which → ℕ → List ℕ → Type 0
SomeEarly s which place bytes = (entries : List Item) × (stop : JobStop) × StopsEarly s which place bytes entries stop

stops_early : (s : Setting) (which : Which) (place : ℕ) (bytes : List ℕ) (parts : List Part) (stop : JobStop)
    → StopsBy s.may_decline which place bytes parts stop → SomeEarly s which place bytes
stops_early s which place bytes parts stop h =
    let cut = cut_on (objects_among parts) [] [] [] (refl, refl) in (
      puts_of s.rid s.constants.caller cut.0,
      stop,
      record { parts = parts; stops = h; puts = cut.0; waiting = cut.1; cut = cut.2; made = refl },
    )

-- sections run somehow
abbrev SomeRun : Setting → Offer → List Which → Held → ℕ → List ℕ → Type 0
SomeRun s offer sections held place bytes = (entries : List Item) × (stop : JobStop) × Runs s offer sections held place bytes entries stop

bytes_last : (front rest : List ℕ) → IsBytes (front ++ rest) → IsBytes rest
bytes_last front rest fits i = rw (← get_or-append-add front rest i 0) (fits (length front + i))

-- a section that comes to its end, and those behind it
passes_on : (s : Setting) (offer : Offer) (which : Which) (more : List Which) (held : Held) (place : ℕ) (bytes rest : List ℕ)
    (objects : List Object) → IsBytes bytes → Sections bytes which (head_with offer which) objects rest
    → ((new : Held) (at : ℕ) → IsBytes rest → SomeRun s offer more new at rest)
    → SomeRun s offer (which ∷ more) held place bytes
passes_on s offer which more held place bytes rest objects fits section go =
    let open_cut = cut_on objects [] [] [] (refl, refl) in
    let cut = cut_ended objects open_cut.0 open_cut.1 open_cut.2 in
    let batches = open_cut.0 ++ cut.0 in
    let new : Held = record { state = held.state; objects = put_told held.objects objects } in
    let later = go new (place_behind place bytes rest)
    (bytes_last (flat_map part_text (parts_of (head_with offer which) objects)) rest (subst (λ (l : List ℕ). IsBytes l) section.text fits)) in
    let puts = puts_of s.rid s.constants.caller batches in (
      puts ++ later.0,
      later.1,
      inr (
        new,
        rest,
        puts,
        later.0,
        record { objects = objects; section = section; batches = batches; cut = cut.1; made = refl; held = refl },
        later.2,
        refl,
      ),
    )

section_runs : (s : Setting) (offer : Offer) (which : Which) (more : List Which) (held : Held) (place : ℕ) (bytes : List ℕ) → IsBytes bytes
    → ((head : Part) → IsHead which head → head ≡ head_with offer which)
    → ((new : Held) (at : ℕ) (rest : List ℕ) → IsBytes rest → SomeRun s offer more new at rest)
    → SomeRun s offer (which ∷ more) held place bytes
section_runs s offer which more held place bytes fits head go = elim (section_goes s.may_decline which place bytes fits) [
  | inl x ↦ let e = stops_early s which place bytes x.0 x.1 x.2 in (e.0, e.1, inl e.2)
  | inr x ↦ passes_on s offer which more held place bytes x.2 x.1 fits
      (subst (λ (p : Part). Sections bytes which p x.1 x.2) (head x.0 x.3.is_head) x.3)
      (λ new at. go new at x.2)
]

tips_run : (s : Setting) (offer : Offer) (held : Held) (place : ℕ) (bytes : List ℕ) → IsBytes bytes
    → SomeRun s offer (Tips ∷ []) held place bytes
tips_run s offer held place bytes fits =
    section_runs s offer Tips [] held place bytes fits (λ head is. tips_head head offer is)
    (λ new at rest few. ([], Passed at, inr (refl, refl)))

later_run : (s : Setting) (offer : Offer) (held : Held) (place : ℕ) (bytes : List ℕ) → IsBytes bytes
    → SomeRun s offer (Sigs ∷ Tips ∷ []) held place bytes
later_run s offer held place bytes fits =
    section_runs s offer Sigs (Tips ∷ []) held place bytes fits (λ head is. sigs_head head offer is)
    (λ new at rest few. tips_run s offer new at rest few)

-- the first section has the offer
all_run : (s : Setting) (held : Held) (bytes : List ℕ) → IsBytes bytes → (offer : Offer) × SomeRun s offer all_sections held 0 bytes
all_run s held bytes fits = elim (section_goes s.may_decline Identity 0 bytes fits) [
  | inl x ↦ let e = stops_early s Identity 0 bytes x.0 x.1 x.2 in (record { id = record { 0 = [] }; remotes = [] }, (e.0, e.1, inl e.2))
  | inr x ↦ let is = offered x.0 x.3.is_head in (
    is.0,
    passes_on s is.0 Identity (Sigs ∷ Tips ∷ []) held 0 bytes x.2 x.1 fits
        (subst (λ (p : Part). Sections bytes Identity p x.1 x.2) is.1 x.3)
        (λ new at few. later_run s is.0 new at x.2 few),
  )
]

pub some_job : SomeJob
some_job s held bytes fits =
    let run = all_run s held (take (2 ^ 30) bytes) (bytes_front (2 ^ 30) bytes fits) in (
      run.1.0,
      limited (length bytes) run.1.1,
      record { offer = run.0; found = run.1.1; runs = run.1.2; stop_is = refl },
    )

named_job : (constants : Constants) (held : Rid → Held) (bytes : List ℕ) → IsBytes bytes → 20 ≤ length bytes
    → (entries : List Item) × (came : Came) × IsBundleJob constants held bytes entries came
named_job constants held bytes fits enough =
    let rid : Rid = record { 0 = record { 0 = take 20 bytes } } in
    let rest = drop 20 bytes in
    let text : bytes ≡ take 20 bytes ++ rest = sym (take-append-drop 20 bytes) in
    let job = some_job (setting_of constants rid) (held rid) rest (bytes_last (take 20 bytes) rest (subst (λ (l : List ℕ). IsBytes l) text fits)) in (
      job.0,
      came_of rid (length bytes) job.1,
      inr (record {
        rid = rid;
        name = record { size = length-take-le 20 bytes enough; fits = bytes_front 20 bytes fits };
        rest = rest;
        text = text;
        stop = job.1;
        job = job.2;
        came_is = refl;
      }),
    )

pub some_bundle_job : SomeBundleJob
some_bundle_job constants held bytes fits = elim (cases_lt (length bytes) 20) [
  | inl few ↦ ([], Inside 0, inl (few, refl, refl))
  | inr enough ↦ named_job constants held bytes fits enough
]
