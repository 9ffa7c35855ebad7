-- Jobs of a front of the bytes, and of the same bytes.
use Rattle.std.proofs.Common.{◌≡◌, ◌≤◌, ◌<◌, ◌+◌, ◌-◌, ◌^◌, ℕ, nat_lt, Bool, true, false, if◌then◌else◌, List, [], ◌∷◌, ◌++◌, length, take, inl, inr, refl, sym, ap, ◌∙◌, subst, arith, append_assoc}
use Rattle.std.specs.Prelude.{Result, Ok, Err}
use Rattle.std.specs.List.{flat_map}
use Rattle.std.proofs.lemmas.Bool.{cases_eq, cases_lt}
use Rattle.std.proofs.lemmas.List.{append-nil, length-append, length-take, take-append-le, take_all}
use Rattle.std.proofs.lemmas.List.Concat.{flat_map-append}
use Rattle.rad_base.proofs.OneFront.{one_oid}
use Rattle.rad_base.specs.Sizes.{IsOid}
use Rattle.rad_base.specs.declared.names.Oid.{Oid}
use Rattle.rad_base.specs.declared.names.Rid.{Rid}
use Rattle.rad_base.specs.declared.offer.Offer.{Offer}
use Rattle.commit_graph.specs.Objects.{Object}
use Rattle.repo_entries.specs.Items.{Item}
use Rattle.repo_entries.specs.declared.whole.Whole.{Whole}
use Rattle.repo_slice.specs.Keeps.{Constants, Held, item_of}
use Rattle.repo_slice.specs.declared.verdict.Judged.{Judged}
use Rattle.fetch_wire.specs.Judging.{further}
use Rattle.fetch_wire.specs.Sections.{part_text, parts_of}
use Rattle.fetch_wire.specs.declared.part.Part.{Part}
use Rattle.fetch_wire.specs.declared.part.Which.{Which}
use Rattle.fetch_stages.specs.Imports.{Bad, Came, HasJob, came_of, setting_of}
use Rattle.fetch_stages.specs.JobLaws.{BeginWith, BundleFrontsEnterFirst, BundleFrontsPutFirst, BundlePutsStay, BundleStopsStay, FrontsEnterFirst, FrontsPutFirst, IsInside, IsInsideOf, IsPassed, IsTold, IsUnjudged, OneBundleJob, OneBundlePuts, OneJob, OneJobUnjudged, StopsStay, StopsStayUnjudged, behind_came, put_in, puts_among, unjudged}
use Rattle.fetch_stages.specs.Jobs.{Breaks, EndsIn, IsJob, JobStop, NotServed, Passed, Reaches, Runs, Setting, StopsBy, TooLong, all_sections, head_with, limited, place_behind}
use Rattle.fetch_stages.proofs.Importing.{came_behind, came_whole}
use Rattle.fetch_stages.proofs.JobFronts.{BothPass, Compares, begin_behind, jobs_compare, puts_in}
use Rattle.fetch_stages.proofs.Next.{front_behind}
use Rattle.fetch_stages.proofs.OneVerdicts.{one_verdict_on}
use Rattle.fetch_stages.proofs.Passing.{limited_few, limited_many}
use Rattle.fetch_stages.proofs.SectionFronts.{Stays}

-- what is within a limit of a front comes first within that of all, and is all of it past the limit
record Grows (limit : ℕ) (front more : List ℕ) : Type 0 where
  tail : List ℕ
  text : take limit (front ++ more) ≡ take limit front ++ tail
  past : limit < length front → tail ≡ []

limit_grows : (limit : ℕ) (front more : List ℕ) → Grows limit front more
limit_grows limit front more = elim (cases_lt limit (length front)) [
  | inl past ↦ record {
    tail = [];
    text = take-append-le limit front more (omega (arith, past)) ∙ sym (append-nil (take limit front));
    past = λ h. refl;
  }
  | inr within ↦ record {
    tail = take (limit - length front) more;
    text = front_behind front more limit within ∙ ap (λ (l : List ℕ). l ++ take (limit - length front) more) (sym (take_all limit front within));
    past = λ h. absurd (omega (arith, h, within));
  }
]

job_compares : (s : Setting) (held : Held) (front more : List ℕ) (entries all : List Item) (stop whole : JobStop)
    → (j : IsJob s held front entries stop) → (k : IsJob s held (front ++ more) all whole)
    → Compares s j.offer held (limit_grows (2 ^ 30) front more).tail entries all j.found k.found
job_compares s held front more entries all stop whole j k =
    let t = limit_grows (2 ^ 30) front more in
    jobs_compare s j.offer k.offer held (take (2 ^ 30) front) t.tail entries all j.found k.found j.runs
    (subst (λ (l : List ℕ). Runs s k.offer all_sections held 0 l all k.found) t.text k.runs)

-- the same bytes
same_compares : (s : Setting) (held : Held) (bytes : List ℕ) (these those : List Item) (stop other : JobStop)
    → (j : IsJob s held bytes these stop) → (k : IsJob s held bytes those other)
    → Compares s j.offer held [] these those j.found k.found
same_compares s held bytes these those stop other j k =
    jobs_compare s j.offer k.offer held (take (2 ^ 30) bytes) [] these those j.found k.found j.runs
    (subst (λ (l : List ℕ). Runs s k.offer all_sections held 0 l those k.found) (sym (append-nil (take (2 ^ 30) bytes))) k.runs)

-- the puts among entries behind entries
puts_along : (xs ys : List Item) → puts_among (xs ++ ys) ≡ puts_among xs ++ puts_among ys
puts_along xs ys = flat_map-append put_in xs ys

-- behind the last section no put comes
none_put : (rid : Rid) (caller : ℕ) (verdict : Result Judged Whole) → puts_among (item_of rid caller verdict ∷ []) ≡ []
none_put rid caller (Ok judged) = refl
none_put rid caller (Err why) = refl

module _ (s : Setting) (offer : Offer) (on : Held) (place : ℕ) where
  last_puts : (last : List Item) (stop : JobStop) → Runs s offer [] on place [] last stop → puts_among last ≡ []
  last_puts last stop (inl j) = ap (λ (l : List Item). puts_among l) j.made ∙ none_put s.rid s.constants.caller j.verdict
  last_puts last stop (inr j) = ap (λ (l : List Item). puts_among l) j.0

  -- the same verdict
  last_one : (last other : List Item) (stop whole : JobStop) → IsTold on → (IsPassed stop → ⊥) → (IsPassed whole → ⊥)
      → Runs s offer [] on place [] last stop → Runs s offer [] on place [] other whole → (last ≡ other) × (stop ≡ whole)
  last_one last other stop whole told said bars (inl j) (inl k) =
      let e = one_verdict_on s.constants on offer s.scope j.verdict k.verdict told j.is k.is in (
        j.made ∙ ap (λ (v : Result Judged Whole). item_of s.rid s.constants.caller v ∷ []) e ∙ sym k.made,
        j.reached ∙ ap (λ (v : Result Judged Whole). Reaches on v place) e ∙ sym k.reached,
      )
  last_one last other stop whole told said bars (inl j) (inr k) = absurd (bars (place, k.1))
  last_one last other stop whole told said bars (inr j) k = absurd (said (place, j.1))

  last_enters : (last other : List Item) (stop whole : JobStop) → IsTold on → (IsPassed whole → ⊥)
      → Runs s offer [] on place [] last stop → Runs s offer [] on place [] other whole → BeginWith other last
  last_enters last other stop whole told bars (inl j) (inl k) =
      let e = one_verdict_on s.constants on offer s.scope j.verdict k.verdict told j.is k.is in (
        [],
        k.made ∙ ap (λ (v : Result Judged Whole). item_of s.rid s.constants.caller v ∷ []) (sym e) ∙ sym j.made ∙ sym (append-nil last),
      )
  last_enters last other stop whole told bars (inl j) (inr k) = absurd (bars (place, k.1))
  last_enters last other stop whole told bars (inr j) k = (other, ap (λ (l : List Item). l ++ other) (sym j.0))

  last_unjudged : (last : List Item) (stop : JobStop) → Runs s offer [] on place [] last stop → unjudged stop ≡ Passed place
  last_unjudged last stop (inl j) = ap (λ (f : JobStop). unjudged f) j.reached
  last_unjudged last stop (inr j) = ap (λ (f : JobStop). unjudged f) j.1

-- what no verdict is said of is left so by the limit
passed_limited : (count : ℕ) (found stop : JobStop) → stop ≡ limited count found → IsPassed found → IsPassed stop
passed_limited count found stop e p = (p.0, e ∙ ap (λ (f : JobStop). limited count f) p.1)

enters_first : (s : Setting) (offer : Offer) (held : Held) (more : List ℕ) (entries all : List Item) (stop whole : JobStop)
    → IsTold held → (IsPassed whole → ⊥) → Compares s offer held more entries all stop whole → BeginWith all entries
enters_first s offer held more entries all stop whole told bars (inl x) = x.0
enters_first s offer held more entries all stop whole told bars (inr x) =
    let puts = puts_in s x.batches in
    begin_behind puts puts x.last x.other entries all x.first refl x.all_are
    (last_enters s offer x.on x.place x.last x.other stop whole (x.told told) bars x.ends x.others)

pub fronts_enter_first : FrontsEnterFirst
fronts_enter_first s held front more entries all stop whole j k told bars =
    enters_first s j.offer held (limit_grows (2 ^ 30) front more).tail entries all j.found k.found told
    (λ p. bars (passed_limited (length (front ++ more)) k.found whole k.stop_is p))
    (job_compares s held front more entries all stop whole j k)

-- the puts of a run that passes the sections
puts_passed : (s : Setting) (batches : List (List Object)) (last entries : List Item) → entries ≡ puts_in s batches ++ last
    → puts_among last ≡ [] → puts_among entries ≡ puts_among (puts_in s batches)
puts_passed s batches last entries e f =
    ap (λ (l : List Item). puts_among l) e ∙ puts_along (puts_in s batches) last
    ∙ ap (λ (l : List Item). puts_among (puts_in s batches) ++ l) f ∙ append-nil (puts_among (puts_in s batches))

puts_same : (s : Setting) (offer : Offer) (held : Held) (entries all : List Item) (stop whole : JobStop)
    → BothPass s offer held entries all stop whole → puts_among all ≡ puts_among entries
puts_same s offer held entries all stop whole x =
    puts_passed s x.batches x.other all x.all_are (last_puts s offer x.on x.place x.other whole x.others)
    ∙ sym (puts_passed s x.batches x.last entries x.first (last_puts s offer x.on x.place x.last stop x.ends))

puts_first : (s : Setting) (offer : Offer) (held : Held) (more : List ℕ) (entries all : List Item) (stop whole : JobStop)
    → Compares s offer held more entries all stop whole → BeginWith (puts_among all) (puts_among entries)
puts_first s offer held more entries all stop whole (inl x) =
    (puts_among x.0.0, ap (λ (l : List Item). puts_among l) x.0.1 ∙ puts_along entries x.0.0)
puts_first s offer held more entries all stop whole (inr x) =
    ([], puts_same s offer held entries all stop whole x ∙ sym (append-nil (puts_among entries)))

pub fronts_put_first : FrontsPutFirst
fronts_put_first s held front more entries all stop whole j k =
    puts_first s j.offer held (limit_grows (2 ^ 30) front more).tail entries all j.found k.found
    (job_compares s held front more entries all stop whole j k)

-- the limit says nothing of a verdict
over_or_inside : (place : ℕ) (over : Bool) → unjudged (if over then TooLong else EndsIn place) ≡ (if over then TooLong else EndsIn place)
over_or_inside place true = refl
over_or_inside place false = refl

unjudged_limited : (count : ℕ) (found : JobStop) → unjudged (limited count found) ≡ limited count (unjudged found)
unjudged_limited count (Reaches held verdict place) = refl
unjudged_limited count (Passed place) = refl
unjudged_limited count (NotServed code shown) = refl
unjudged_limited count (Breaks place shown) = refl
unjudged_limited count (EndsIn place) = over_or_inside place (nat_lt (2 ^ 30) count)
unjudged_limited count TooLong = refl

limited_unjudged : (count : ℕ) (found other : JobStop) → unjudged found ≡ unjudged other
    → unjudged (limited count found) ≡ unjudged (limited count other)
limited_unjudged count found other e =
    unjudged_limited count found ∙ ap (λ (f : JobStop). limited count f) e ∙ sym (unjudged_limited count other)

-- a run that stays as it is up to its verdict
unjudged_stays : (s : Setting) (offer : Offer) (held : Held) (more : List ℕ) (entries all : List Item) (stop whole : JobStop)
    → Stays more stop → Compares s offer held more entries all stop whole
    → (puts_among all ≡ puts_among entries) × (unjudged whole ≡ unjudged stop)
unjudged_stays s offer held more entries all stop whole stays (inl x) =
    let same = x.1 stays in
    (ap (λ (l : List Item). puts_among l) same.0, ap (λ (f : JobStop). unjudged f) same.1)
unjudged_stays s offer held more entries all stop whole stays (inr x) = (
  puts_same s offer held entries all stop whole x,
  last_unjudged s offer x.on x.place x.other whole x.others ∙ sym (last_unjudged s offer x.on x.place x.last stop x.ends),
)

pub one_job_unjudged : OneJobUnjudged
one_job_unjudged s held bytes these those stop other j k =
    let same = unjudged_stays s j.offer held [] these those j.found k.found (inl refl) (same_compares s held bytes these those stop other j k) in (
      sym same.0,
      ap (λ (f : JobStop). unjudged f) j.stop_is ∙ limited_unjudged (length bytes) j.found k.found (sym same.1)
          ∙ ap (λ (f : JobStop). unjudged f) (sym k.stop_is),
    )

-- a run that stays as it is
run_stays : (s : Setting) (offer : Offer) (held : Held) (more : List ℕ) (entries all : List Item) (stop whole : JobStop)
    → IsTold held → (IsPassed stop → ⊥) → (IsPassed whole → ⊥) → Stays more stop → Compares s offer held more entries all stop whole
    → (all ≡ entries) × (whole ≡ stop)
run_stays s offer held more entries all stop whole told said bars stays (inl x) = x.1 stays
run_stays s offer held more entries all stop whole told said bars stays (inr x) =
    let one = last_one s offer x.on x.place x.last x.other stop whole (x.told told) said bars x.ends x.others in
    (x.all_are ∙ ap (λ (l : List Item). puts_in s x.batches ++ l) (sym one.0) ∙ sym x.first, sym one.1)

pub one_job : OneJob
one_job s held bytes these those stop other j k told said bars =
    let same = run_stays s j.offer held [] these those j.found k.found told
    (λ p. said (passed_limited (length bytes) j.found stop j.stop_is p))
    (λ p. bars (passed_limited (length bytes) k.found other k.stop_is p))
    (inl refl) (same_compares s held bytes these those stop other j k) in
    (sym same.0, j.stop_is ∙ ap (λ (f : JobStop). limited (length bytes) f) (sym same.1) ∙ sym k.stop_is)

-- a stop inside a unit is past the limit where it is none of so many bytes
out_of_unit : (count place : ℕ) → (IsInside (limited count (EndsIn place)) → ⊥) → 2 ^ 30 < count
out_of_unit count place out = elim (cases_lt (2 ^ 30) count) [
  | inl past ↦ past
  | inr within ↦ absurd (out (place, limited_few count place (EndsIn place) refl within))
]

found_stays : (front more : List ℕ) (found : JobStop) → (IsInside (limited (length front) found) → ⊥)
    → Stays (limit_grows (2 ^ 30) front more).tail found
found_stays front more (Reaches held verdict place) out = inr (λ begins e. out (begins, e))
found_stays front more (Passed place) out = inr (λ begins e. out (begins, e))
found_stays front more (NotServed code shown) out = inr (λ begins e. out (begins, e))
found_stays front more (Breaks place shown) out = inr (λ begins e. out (begins, e))
found_stays front more (EndsIn place) out = inl ((limit_grows (2 ^ 30) front more).past (out_of_unit (length front) place out))
found_stays front more TooLong out = inr (λ begins e. out (begins, e))

-- more bytes leave it so
limited_more : (count most : ℕ) (found : JobStop) → count ≤ most → (IsInside (limited count found) → ⊥) → limited most found ≡ limited count found
limited_more count most (Reaches held verdict place) few out = refl
limited_more count most (Passed place) few out = refl
limited_more count most (NotServed code shown) few out = refl
limited_more count most (Breaks place shown) few out = refl
limited_more count most (EndsIn place) few out =
    let past = out_of_unit count place out in
    limited_many most place (omega (arith, past, few)) ∙ sym (limited_many count place past)
limited_more count most TooLong few out = refl

pub stops_stay_unjudged : StopsStayUnjudged
stops_stay_unjudged s held front more entries all stop whole j k out =
    let size = length-append front more in
    let out' : IsInside (limited (length front) j.found) → ⊥ = (λ p. out (p.0, j.stop_is ∙ p.1)) in
    let same = unjudged_stays s j.offer held (limit_grows (2 ^ 30) front more).tail entries all j.found k.found
    (found_stays front more j.found out') (job_compares s held front more entries all stop whole j k) in (
      same.0,
      ap (λ (f : JobStop). unjudged f) k.stop_is ∙ limited_unjudged (length (front ++ more)) k.found j.found same.1
          ∙ ap (λ (f : JobStop). unjudged f) (limited_more (length front) (length (front ++ more)) j.found (omega (arith, size)) out' ∙ sym j.stop_is),
    )

pub stops_stay : StopsStay
stops_stay s held front more entries all stop whole j k told said bars out =
    let size = length-append front more in
    let out' : IsInside (limited (length front) j.found) → ⊥ = (λ p. out (p.0, j.stop_is ∙ p.1)) in
    let same = run_stays s j.offer held (limit_grows (2 ^ 30) front more).tail entries all j.found k.found told
    (λ p. said (passed_limited (length front) j.found stop j.stop_is p))
    (λ p. bars (passed_limited (length (front ++ more)) k.found whole k.stop_is p))
    (found_stays front more j.found out') (job_compares s held front more entries all stop whole j k) in (
      same.0,
      k.stop_is ∙ ap (λ (f : JobStop). limited (length (front ++ more)) f) same.1
          ∙ limited_more (length front) (length (front ++ more)) j.found (omega (arith, size)) out' ∙ sym j.stop_is,
    )

-- bytes that have a name are no fewer than it
twenty : (rid : Rid) (bytes rest : List ℕ) → IsOid rid.0 → bytes ≡ rid.0.0 ++ rest → length bytes < 20 → ⊥
twenty rid bytes rest name text few =
    let size = ap (λ (l : List ℕ). length l) text ∙ length-append rid.0.0 rest in
    let whole = name.size in
    omega (arith, size, whole, few)

-- the job of all bytes is that of the repository that a front names
named_alike : (constants : Constants) (held : Rid → Held) (front more bytes : List ℕ) (entries all : List Item) (came whole : Came)
    → bytes ≡ front ++ more → (h : HasJob constants held front entries came) → (k : HasJob constants held bytes all whole)
    → (k.rid ≡ h.rid) × (k.rest ≡ h.rest ++ more)
named_alike constants held front more bytes entries all came whole e h k =
    let t = one_oid h.rid.0 k.rid.0 (h.rest ++ more) k.rest h.name k.name
    (sym (append_assoc h.rid.0.0 h.rest more) ∙ ap (λ (l : List ℕ). l ++ more) (sym h.text) ∙ sym e ∙ k.text) in
    (ap (λ (oid : Oid). let rid : Rid = record { 0 = oid } in rid) (sym t.0), sym t.1)

job_alike : (constants : Constants) (held : Rid → Held) (one other : Rid) (bytes rest : List ℕ) (all : List Item) (stop : JobStop)
    → other ≡ one → rest ≡ bytes → IsJob (setting_of constants other) (held other) rest all stop
    → IsJob (setting_of constants one) (held one) bytes all stop
job_alike constants held one other bytes rest all stop e f j =
    subst (λ (l : List ℕ). IsJob (setting_of constants one) (held one) l all stop) f
    (subst (λ (r : Rid). IsJob (setting_of constants r) (held r) rest all stop) e j)

-- what no verdict is said of leaves the import so
passed_import : (rid : Rid) (count : ℕ) (stop : JobStop) (came : Came) → came ≡ came_of rid count stop → IsPassed stop → IsUnjudged came
passed_import rid count stop came e p = (rid, e ∙ ap (λ (f : JobStop). came_of rid count f) p.1)

nothing_first : (entries all : List Item) → entries ≡ [] → BeginWith all entries
nothing_first entries all e = (all, ap (λ (l : List Item). l ++ all) (sym e))

pub bundle_fronts_put_first : BundleFrontsPutFirst
bundle_fronts_put_first constants held front more entries all came whole (inl h) k =
    nothing_first (puts_among entries) (puts_among all) (ap (λ (l : List Item). puts_among l) h.1)
bundle_fronts_put_first constants held front more entries all came whole (inr h) (inl k) =
    absurd (let few = k.0 in let size = length-append front more in twenty h.rid front h.rest h.name h.text (omega (arith, few, size)))
bundle_fronts_put_first constants held front more entries all came whole (inr h) (inr k) =
    let same = named_alike constants held front more (front ++ more) entries all came whole refl h k in
    fronts_put_first (setting_of constants h.rid) (held h.rid) h.rest more entries all h.stop k.stop h.job
    (job_alike constants held h.rid k.rid (h.rest ++ more) k.rest all k.stop same.0 same.1 k.job)

pub bundle_fronts_enter_first : BundleFrontsEnterFirst
bundle_fronts_enter_first constants held front more entries all came whole (inl h) k told bars = nothing_first entries all h.1
bundle_fronts_enter_first constants held front more entries all came whole (inr h) (inl k) told bars =
    absurd (let few = k.0 in let size = length-append front more in twenty h.rid front h.rest h.name h.text (omega (arith, few, size)))
bundle_fronts_enter_first constants held front more entries all came whole (inr h) (inr k) told bars =
    let same = named_alike constants held front more (front ++ more) entries all came whole refl h k in
    fronts_enter_first (setting_of constants h.rid) (held h.rid) h.rest more entries all h.stop k.stop h.job
    (job_alike constants held h.rid k.rid (h.rest ++ more) k.rest all k.stop same.0 same.1 k.job)
    (told h.rid (h.name, (h.rest, h.text)))
    (λ p. bars (passed_import k.rid (length (front ++ more)) k.stop whole k.came_is p))

pub one_bundle_puts : OneBundlePuts
one_bundle_puts constants held bytes these those came other (inl h) (inl k) = ap (λ (l : List Item). puts_among l) (h.1 ∙ sym k.1)
one_bundle_puts constants held bytes these those came other (inl h) (inr k) = absurd (twenty k.rid bytes k.rest k.name k.text h.0)
one_bundle_puts constants held bytes these those came other (inr h) (inl k) = absurd (twenty h.rid bytes h.rest h.name h.text k.0)
one_bundle_puts constants held bytes these those came other (inr h) (inr k) =
    let same = named_alike constants held bytes [] bytes these those came other (sym (append-nil bytes)) h k in
    (one_job_unjudged (setting_of constants h.rid) (held h.rid) h.rest these those h.stop k.stop h.job
    (job_alike constants held h.rid k.rid h.rest k.rest those k.stop same.0 (same.1 ∙ append-nil h.rest) k.job)).0

pub one_bundle_job : OneBundleJob
one_bundle_job constants held bytes these those came other (inl h) (inl k) told said bars = (h.1 ∙ sym k.1, h.2 ∙ sym k.2)
one_bundle_job constants held bytes these those came other (inl h) (inr k) told said bars =
    absurd (twenty k.rid bytes k.rest k.name k.text h.0)
one_bundle_job constants held bytes these those came other (inr h) (inl k) told said bars =
    absurd (twenty h.rid bytes h.rest h.name h.text k.0)
one_bundle_job constants held bytes these those came other (inr h) (inr k) told said bars =
    let same = named_alike constants held bytes [] bytes these those came other (sym (append-nil bytes)) h k in
    let one = one_job (setting_of constants h.rid) (held h.rid) h.rest these those h.stop k.stop h.job
    (job_alike constants held h.rid k.rid h.rest k.rest those k.stop same.0 (same.1 ∙ append-nil h.rest) k.job)
    (told h.rid (h.name, (h.rest, h.text)))
    (λ p. said (passed_import h.rid (length bytes) h.stop came h.came_is p))
    (λ p. bars (passed_import k.rid (length bytes) k.stop other k.came_is p)) in (
      one.0,
      h.came_is ∙ ap (λ (f : JobStop). came_of h.rid (length bytes) f) one.1
          ∙ ap (λ (r : Rid). came_of r (length bytes) k.stop) (sym same.0) ∙ sym k.came_is,
    )

-- a section that stops early reaches no verdict
no_verdict : (may_decline : Bool) (which : Which) (place : ℕ) (bytes : List ℕ) (parts : List Part) (on : Held) (verdict : Result Judged Whole)
    (at : ℕ) → StopsBy may_decline which place bytes parts (Reaches on verdict at) → ⊥
no_verdict true which place bytes parts on verdict at h = h
no_verdict false which place bytes parts on verdict at (inl h) = other h.2
  where
    other : Reaches on verdict at ≡ Breaks place (place + 1) → ⊥
    other e = cc e
no_verdict false which place bytes parts on verdict at (inr h) = h.1

one_place : (on held : Held) (these those : Result Judged Whole) (at place : ℕ) → Reaches on these at ≡ Reaches held those place → at ≡ place
one_place on held these those at place e = cc e

not_passed : (on : Held) (verdict : Result Judged Whole) (at place : ℕ) → Reaches on verdict at ≡ Passed place → ⊥
not_passed on verdict at place e = cc e

-- a verdict stands behind bytes that are there
verdict_within : (s : Setting) (offer : Offer) (sections : List Which) (held : Held) (place : ℕ) (bytes : List ℕ) (entries : List Item)
    (on : Held) (verdict : Result Judged Whole) (at : ℕ) → Runs s offer sections held place bytes entries (Reaches on verdict at)
    → at ≤ place + length bytes
verdict_within s offer [] held place bytes entries on verdict at (inl j) =
    let e = one_place on held verdict j.verdict at place j.reached in omega (arith, e)
verdict_within s offer [] held place bytes entries on verdict at (inr j) = absurd (not_passed on verdict at place j.1)
verdict_within s offer (which ∷ sections) held place bytes entries on verdict at (inl e) =
    absurd (no_verdict s.may_decline which place bytes e.parts on verdict at e.stops)
verdict_within s offer (which ∷ sections) held place bytes entries on verdict at (inr r) =
    let later = verdict_within s offer sections r.0 (place_behind place bytes r.1) r.1 r.3 on verdict at r.5 in
    let size = ap (λ (l : List ℕ). length l) r.4.section.text
    ∙ length-append (flat_map part_text (parts_of (head_with offer which) r.4.objects)) r.1 in
    omega (arith, later, size)

not_limited : (on : Held) (verdict : Result Judged Whole) (at place : ℕ) (over : Bool)
    → Reaches on verdict at ≡ (if over then TooLong else EndsIn place) → ⊥
not_limited on verdict at place true e = cc e
not_limited on verdict at place false e = cc e

-- where a job of so many bytes reaches a verdict, its run does
found_reaches : (count : ℕ) (found : JobStop) (on : Held) (verdict : Result Judged Whole) (at : ℕ)
    → Reaches on verdict at ≡ limited count found → found ≡ Reaches on verdict at
found_reaches count (Reaches held other place) on verdict at e = sym e
found_reaches count (Passed place) on verdict at e = absurd (not_passed on verdict at place e)
found_reaches count (NotServed code shown) on verdict at e = cc e
found_reaches count (Breaks place shown) on verdict at e = cc e
found_reaches count (EndsIn place) on verdict at e = absurd (not_limited on verdict at place (nat_lt (2 ^ 30) count) e)
found_reaches count TooLong on verdict at e = cc e

job_within : (s : Setting) (held : Held) (bytes : List ℕ) (entries : List Item) (stop : JobStop) → IsJob s held bytes entries stop
    → (on : Held) (verdict : Result Judged Whole) (at : ℕ) → stop ≡ Reaches on verdict at → at ≤ length bytes
job_within s held bytes entries stop j on verdict at e =
    let size = length-take (2 ^ 30) bytes in
    let is = found_reaches (length bytes) j.found on verdict at (sym e ∙ j.stop_is) in
    let within = verdict_within s j.offer all_sections held 0 (take (2 ^ 30) bytes) entries on verdict at
    (subst (λ (f : JobStop). Runs s j.offer all_sections held 0 (take (2 ^ 30) bytes) entries f) is j.runs) in
    omega (arith, size, within)

-- a verdict behind which bytes follow
verdict_behind : (rid : Rid) (count most place : ℕ) (byte : ℕ) (more : List ℕ) (on : Held) (verdict : Result Judged Whole)
    → 20 + place ≤ count → count < most
    → came_of rid most (Reaches on verdict place) ≡ behind_came count (byte ∷ more) (came_of rid count (Reaches on verdict place))
verdict_behind rid count most place byte more on verdict within less = elim (cases_eq count (20 + place)) [
  | inl e ↦ came_behind rid most place on verdict (omega (arith, within, less)) ∙ ap (λ (n : ℕ). Bad n) (sym e)
      ∙ ap (λ (c : Came). behind_came count (byte ∷ more) c) (sym (came_whole rid count place on verdict e))
  | inr other ↦ came_behind rid most place on verdict (omega (arith, within, less))
      ∙ ap (λ (c : Came). behind_came count (byte ∷ more) c) (sym (came_behind rid count place on verdict (omega (arith, within, other))))
]

came_stays : (rid : Rid) (front more : List ℕ) (stop : JobStop)
    → ((on : Held) (verdict : Result Judged Whole) (at : ℕ) → stop ≡ Reaches on verdict at → 20 + at ≤ length front)
    → came_of rid (length (front ++ more)) stop ≡ behind_came (length front) more (came_of rid (length front) stop)
came_stays rid front [] stop within = ap (λ (l : List ℕ). came_of rid (length l) stop) (append-nil front)
came_stays rid front (byte ∷ more) (Reaches held verdict place) within =
    let size = length-append front (byte ∷ more) in
    verdict_behind rid (length front) (length (front ++ byte ∷ more)) place byte more held verdict (within held verdict place refl) (omega (arith, size))
came_stays rid front (byte ∷ more) (Passed place) within = refl
came_stays rid front (byte ∷ more) (NotServed code shown) within = refl
came_stays rid front (byte ∷ more) (Breaks place shown) within = refl
came_stays rid front (byte ∷ more) (EndsIn place) within = refl
came_stays rid front (byte ∷ more) TooLong within = refl

inside_import : (rid : Rid) (count : ℕ) (stop : JobStop) (came : Came) → came ≡ came_of rid count stop → IsInside stop → IsInsideOf came
inside_import rid count stop came e p = (further 20 p.0, e ∙ ap (λ (f : JobStop). came_of rid count f) p.1)

pub bundle_stops_stay : BundleStopsStay
bundle_stops_stay constants held front more entries all came whole (inl h) k told said bars out = absurd (out (0, h.2))
bundle_stops_stay constants held front more entries all came whole (inr h) (inl k) told said bars out =
    absurd (let few = k.0 in let size = length-append front more in twenty h.rid front h.rest h.name h.text (omega (arith, few, size)))
bundle_stops_stay constants held front more entries all came whole (inr h) (inr k) told said bars out =
    let same = named_alike constants held front more (front ++ more) entries all came whole refl h k in
    let stays = stops_stay (setting_of constants h.rid) (held h.rid) h.rest more entries all h.stop k.stop h.job
    (job_alike constants held h.rid k.rid (h.rest ++ more) k.rest all k.stop same.0 same.1 k.job)
    (told h.rid (h.name, (h.rest, h.text)))
    (λ p. said (passed_import h.rid (length front) h.stop came h.came_is p))
    (λ p. bars (passed_import k.rid (length (front ++ more)) k.stop whole k.came_is p))
    (λ p. out (inside_import h.rid (length front) h.stop came h.came_is p)) in
    let size = ap (λ (l : List ℕ). length l) h.text ∙ length-append h.rid.0.0 h.rest in
    let twenty = h.name.size in (
      stays.0,
      k.came_is ∙ ap (λ (r : Rid). came_of r (length (front ++ more)) k.stop) same.0
          ∙ ap (λ (f : JobStop). came_of h.rid (length (front ++ more)) f) stays.1
          ∙ came_stays h.rid front more h.stop (λ on verdict at e.
          let within = job_within (setting_of constants h.rid) (held h.rid) h.rest entries h.stop h.job on verdict at e in
          omega (arith, size, twenty, within))
          ∙ ap (λ (c : Came). behind_came (length front) more c) (sym h.came_is),
    )

pub bundle_puts_stay : BundlePutsStay
bundle_puts_stay constants held front more entries all came whole (inl h) k out = absurd (out (0, h.2))
bundle_puts_stay constants held front more entries all came whole (inr h) (inl k) out =
    absurd (let few = k.0 in let size = length-append front more in twenty h.rid front h.rest h.name h.text (omega (arith, few, size)))
bundle_puts_stay constants held front more entries all came whole (inr h) (inr k) out =
    let same = named_alike constants held front more (front ++ more) entries all came whole refl h k in
    (stops_stay_unjudged (setting_of constants h.rid) (held h.rid) h.rest more entries all h.stop k.stop h.job
    (job_alike constants held h.rid k.rid (h.rest ++ more) k.rest all k.stop same.0 same.1 k.job)
    (λ p. out (inside_import h.rid (length front) h.stop came h.came_is p))).0
