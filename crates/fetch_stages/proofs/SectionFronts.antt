-- How the bytes of a section are read, more of which follow, and where its job stops.
use Rattle.std.proofs.Common.{◌≡◌, ◌⊎◌, ◌+◌, ℕ, List, [], ◌∷◌, ◌++◌, Bool, true, false, if◌then◌else◌, get_or, inl, inr, refl, sym, ap, ◌∙◌, subst, arith, append_assoc}
use Rattle.std.specs.Prelude.{◌==◌}
use Rattle.std.specs.List.{flat_map}
use Rattle.std.proofs.lemmas.Bool.{eqb-true}
use Rattle.std.proofs.lemmas.List.{append-nil}
use Rattle.rad_base.proofs.Conditions.{differ}
use Rattle.rad_base.specs.declared.offer.Offer.{Offer}
use Rattle.commit_graph.specs.Objects.{Object}
use Rattle.unit_reader.specs.Units.{At, Broken, Place, Reading, then_on, reading}
use Rattle.unit_reader.proofs.Readings.{in_pieces}
use Rattle.fetch_wire.specs.Judging.{first_unit, further, is_over, judge}
use Rattle.fetch_wire.specs.SectionReadings.{read_of}
use Rattle.fetch_wire.specs.Sections.{IsCode, Sections, part_text, parts_of}
use Rattle.fetch_wire.specs.declared.fault.Break.{Break}
use Rattle.fetch_wire.specs.declared.part.Part.{Part}
use Rattle.fetch_wire.specs.declared.part.Which.{Which}
use Rattle.fetch_wire.specs.declared.part.Which.TheVariants.{Identity, Sigs, Tips}
use Rattle.fetch_wire.specs.declared.units.SectionUnits.{SectionUnits}
use Rattle.fetch_wire.proofs.SectionsSpelled.{refusal_reads, section_reads}
use Rattle.fetch_stages.specs.Jobs.{BeginsRefusal, Breaks, EndsIn, JobStop, NotServed, Passed, Reaches, StopsAt, StopsBy, TooLong, head_with}
use Rattle.fetch_stages.specs.Sections.{objects_among}
use Rattle.fetch_stages.proofs.WholeSections.{objects_of_parts}

-- the parts of a front come first
pub parts_grow : (w : Which) (front more : List ℕ)
    → (behind : List Part) × ((read_of w (front ++ more)).items ≡ (read_of w front).items ++ behind)
parts_grow w front more = grown (read_of w front).items (read_of w front).place (in_pieces is_over judge (first_unit w) [] front more)
  where
    grown : (items : List Part) (place : Place SectionUnits Break)
        → read_of w (front ++ more) ≡ then_on (record { items = items; place = place }) (λ t keeps rest. reading is_over judge t keeps (rest ++ more))
        → (behind : List Part) × ((read_of w (front ++ more)).items ≡ items ++ behind)
    grown items (At t keeps rest) e =
        ((reading is_over judge t keeps (rest ++ more)).items, ap (λ (r : Reading SectionUnits Part Break). r.items) e)
    grown items (Broken broken) e = ([], ap (λ (r : Reading SectionUnits Part Break). r.items) e ∙ sym (append-nil items))

-- what is broken is broken whatever follows
broken_grows : (w : Which) (front more : List ℕ) (parts : List Part) (broken : Break)
    → read_of w front ≡ record { items = parts; place = Broken broken }
    → read_of w (front ++ more) ≡ record { items = parts; place = Broken broken }
broken_grows w front more parts broken e =
    in_pieces is_over judge (first_unit w) [] front more
    ∙ ap (λ (r : Reading SectionUnits Part Break). then_on r (λ t keeps rest. reading is_over judge t keeps (rest ++ more))) e

-- a section with more behind it
pub section_grows : (w : Which) (front more rest : List ℕ) (head : Part) (objects : List Object) → Sections front w head objects rest
    → Sections (front ++ more) w head objects (rest ++ more)
section_grows w front more rest head objects s = record {
  is_head = s.is_head;
  each = s.each;
  text = ap (λ (l : List ℕ). l ++ more) s.text ∙ append_assoc (flat_map part_text (parts_of head objects)) rest more;
}

-- a refusal gives no object
code_read : (w : Which) (code : ℕ) (rest : List ℕ) → IsCode code → objects_among (read_of w (82 ∷ code ∷ rest)).items ≡ []
code_read w code rest is =
    ap (λ (r : Reading SectionUnits Part Break). objects_among r.items) (refusal_reads w code rest is).2

code_or_not : (w : Which) (code : ℕ) (rest : List ℕ) (one two : Bool) → (code == 1) ≡ one → (code == 2) ≡ two
    → objects_among (read_of w (82 ∷ code ∷ rest)).items ≡ []
unfolding judge
code_or_not w code rest true two e f = code_read w code rest (inl (eqb-true code 1 e))
code_or_not w code rest false true e f = code_read w code rest (inr (eqb-true code 2 f))
code_or_not w code rest false false e f = rw (e, f) refl

refusal_read : (w : Which) (rest : List ℕ) → objects_among (read_of w (82 ∷ rest)).items ≡ []
unfolding judge
refusal_read w [] = refl
refusal_read w (code ∷ rest) = code_or_not w code rest (code == 1) (code == 2) refl refl

pub refusal_is_none : (w : Which) (bytes : List ℕ) → BeginsRefusal bytes → objects_among (read_of w bytes).items ≡ []
refusal_is_none w bytes r = ap (λ (l : List ℕ). objects_among (read_of w l).items) r.1 ∙ refusal_read w r.0

-- no section begins as a refusal
pub section_bars : (offer : Offer) (w : Which) (bytes rest : List ℕ) (objects : List Object)
    → Sections bytes w (head_with offer w) objects rest → BeginsRefusal bytes → ⊥
section_bars offer Identity bytes rest objects s r =
    let e : 82 ≡ 73 = ap (λ (l : List ℕ). get_or l 0 0) (sym r.1 ∙ s.text) in omega (arith, e)
section_bars offer Sigs bytes rest objects s r =
    let e : 82 ≡ 83 = ap (λ (l : List ℕ). get_or l 0 0) (sym r.1 ∙ s.text) in omega (arith, e)
section_bars offer Tips bytes rest objects s r =
    let e : 82 ≡ 68 = ap (λ (l : List ℕ). get_or l 0 0) (sym r.1 ∙ s.text) in omega (arith, e)

-- the objects of a section are those that are read
pub section_objects : (w : Which) (bytes rest : List ℕ) (head : Part) (objects : List Object) → Sections bytes w head objects rest
    → objects_among (read_of w bytes).items ≡ objects
section_objects w bytes rest head objects s =
    let reads = section_reads w bytes head objects rest s in
    ap (λ (r : Reading SectionUnits Part Break). objects_among r.items) reads.2 ∙ objects_of_parts w head objects s.is_head

at_objects : (w : Which) (place : ℕ) (bytes : List ℕ) (parts : List Part) (stop : JobStop) → StopsAt w place bytes parts stop
    → objects_among (read_of w bytes).items ≡ objects_among parts
at_objects w place bytes parts (Reaches held verdict shown) h = absurd h
at_objects w place bytes parts (Passed shown) h = absurd h
at_objects w place bytes parts (NotServed code shown) h =
    refusal_is_none w bytes (code ∷ h.0, h.2) ∙ ap (λ (l : List Part). objects_among l) (sym h.3)
at_objects w place bytes parts (Breaks begins shown) h = ap (λ (r : Reading SectionUnits Part Break). objects_among r.items) h.1
at_objects w place bytes parts (EndsIn begins) h = ap (λ (r : Reading SectionUnits Part Break). objects_among r.items) h.1.reads
at_objects w place bytes parts TooLong h = absurd h

-- and so are those of a section that stops early
pub stopped_objects : (may_decline : Bool) (w : Which) (place : ℕ) (bytes : List ℕ) (parts : List Part) (stop : JobStop)
    → StopsBy may_decline w place bytes parts stop → objects_among (read_of w bytes).items ≡ objects_among parts
stopped_objects true w place bytes parts stop h = at_objects w place bytes parts stop h
stopped_objects false w place bytes parts stop (inl h) =
    refusal_is_none w bytes h.0 ∙ ap (λ (l : List Part). objects_among l) (sym h.1)
stopped_objects false w place bytes parts stop (inr h) = at_objects w place bytes parts stop h.1

-- a reading that has come to an end, that goes on and that is broken are three
two_places : (t u : SectionUnits) (h k r q : List ℕ) (xs ys : List Part)
    → (let a : Reading SectionUnits Part Break = record { items = xs; place = At t h r } in a) ≡ record { items = ys; place = At u k q } → t ≡ u
two_places t u h k r q xs ys e =
    let p : At t h r ≡ At u k q = ap (λ (x : Reading SectionUnits Part Break). x.place) e in cc p

no_break : (t : SectionUnits) (h r : List ℕ) (broken : Break) (xs ys : List Part)
    → (let a : Reading SectionUnits Part Break = record { items = xs; place = At t h r } in a) ≡ record { items = ys; place = Broken broken } → ⊥
no_break t h r broken xs ys e =
    let p : At t h r ≡ Broken broken = ap (λ (x : Reading SectionUnits Part Break). x.place) e in cc p

-- a section that comes to its end does not stop early
ends_at : (offer : Offer) (w : Which) (place : ℕ) (bytes rest : List ℕ) (objects : List Object) (parts : List Part) (stop : JobStop)
    → Sections bytes w (head_with offer w) objects rest → StopsAt w place bytes parts stop → ⊥
ends_at offer w place bytes rest objects parts (Reaches held verdict shown) s h = h
ends_at offer w place bytes rest objects parts (Passed shown) s h = h
ends_at offer w place bytes rest objects parts (NotServed code shown) s h = section_bars offer w bytes rest objects s (code ∷ h.0, h.2)
ends_at offer w place bytes rest objects parts (Breaks begins shown) s h =
    let reads = section_reads w bytes (head_with offer w) objects rest s in
    no_break reads.0 [] rest h.0 (parts_of (head_with offer w) objects) parts (sym reads.2 ∙ h.1)
ends_at offer w place bytes rest objects parts (EndsIn begins) s h =
    let reads = section_reads w bytes (head_with offer w) objects rest s in
    let same = two_places reads.0 h.1.units [] h.1.held rest [] (parts_of (head_with offer w) objects) parts (sym reads.2 ∙ h.1.reads) in
    differ (is_over h.1.units) (subst (λ (u : SectionUnits). is_over u ≡ true) same reads.1) h.1.goes_on
ends_at offer w place bytes rest objects parts TooLong s h = h

pub ends_or_stops : (may_decline : Bool) (offer : Offer) (w : Which) (place : ℕ) (bytes rest : List ℕ) (objects : List Object) (parts : List Part)
    (stop : JobStop) → Sections bytes w (head_with offer w) objects rest → StopsBy may_decline w place bytes parts stop → ⊥
ends_or_stops true offer w place bytes rest objects parts stop s h = ends_at offer w place bytes rest objects parts stop s h
ends_or_stops false offer w place bytes rest objects parts stop s (inl h) = section_bars offer w bytes rest objects s h.0
ends_or_stops false offer w place bytes rest objects parts stop s (inr h) = ends_at offer w place bytes rest objects parts stop s h.1

-- where a section stops by what is read of it
stop_in : ℕ → List ℕ → Place SectionUnits Break → JobStop
stop_in place bytes (At units held rest) =
    if is_over units then NotServed (get_or bytes 1 0) (place + 2) else EndsIn (further place units.place)
stop_in place bytes (Broken broken) = Breaks (further place broken.place) (further place broken.shown)

stops_so : (w : Which) (place : ℕ) (bytes : List ℕ) (parts : List Part) (stop : JobStop) → StopsAt w place bytes parts stop
    → stop ≡ stop_in place bytes (read_of w bytes).place
unfolding stop_in
stops_so w place bytes parts (Reaches held verdict shown) h = absurd h
stops_so w place bytes parts (Passed shown) h = absurd h
stops_so w place bytes parts (NotServed code shown) h =
    let reads = refusal_reads w code h.0 h.1 in
    ap (λ (n : ℕ). NotServed code n) h.4
    ∙ sym (ap (λ (l : List ℕ). stop_in place l (read_of w l).place) h.2
    ∙ ap (λ (r : Reading SectionUnits Part Break). stop_in place (82 ∷ code ∷ h.0) r.place) reads.2
    ∙ ap (λ (t : Bool). if t then NotServed code (place + 2) else EndsIn (further place reads.0.place)) reads.1)
stops_so w place bytes parts (Breaks begins shown) h =
    ap (λ (n : ℕ). Breaks n shown) h.2 ∙ ap (λ (n : ℕ). Breaks (further place h.0.place) n) h.3
    ∙ sym (ap (λ (r : Reading SectionUnits Part Break). stop_in place bytes r.place) h.1)
stops_so w place bytes parts (EndsIn begins) h =
    ap (λ (n : ℕ). EndsIn n) (h.2 ∙ ap (λ (n : ℕ). further place n) (sym h.1.begins))
    ∙ sym (ap (λ (r : Reading SectionUnits Part Break). stop_in place bytes r.place) h.1.reads
    ∙ ap (λ (t : Bool). if t then NotServed (get_or bytes 1 0) (place + 2) else EndsIn (further place h.1.units.place)) h.1.goes_on)
stops_so w place bytes parts TooLong h = absurd h

-- a section stops in one way
pub one_stop : (may_decline : Bool) (w : Which) (place : ℕ) (bytes : List ℕ) (parts others : List Part) (stop other : JobStop)
    → StopsBy may_decline w place bytes parts stop → StopsBy may_decline w place bytes others other → stop ≡ other
one_stop true w place bytes parts others stop other h k =
    stops_so w place bytes parts stop h ∙ sym (stops_so w place bytes others other k)
one_stop false w place bytes parts others stop other (inl h) (inl k) = h.2 ∙ sym k.2
one_stop false w place bytes parts others stop other (inl h) (inr k) = absurd (k.0 h.0)
one_stop false w place bytes parts others stop other (inr h) (inl k) = absurd (h.0 k.0)
one_stop false w place bytes parts others stop other (inr h) (inr k) =
    stops_so w place bytes parts stop h.1 ∙ sym (stops_so w place bytes others other k.1)

-- nothing follows, or the stop is not inside a unit
abbrev pub Stays : List ℕ → JobStop → Type 0
Stays more stop = (more ≡ []) ⊎ ((place : ℕ) → stop ≡ EndsIn place → ⊥)

at_stays : (w : Which) (place : ℕ) (front more : List ℕ) (parts : List Part) (stop : JobStop)
    → ((begins : ℕ) → stop ≡ EndsIn begins → ⊥) → StopsAt w place front parts stop → StopsAt w place (front ++ more) parts stop
at_stays w place front more parts (Reaches held verdict shown) out h = h
at_stays w place front more parts (Passed shown) out h = h
at_stays w place front more parts (NotServed code shown) out h = (h.0 ++ more, h.1, ap (λ (l : List ℕ). l ++ more) h.2, h.3, h.4)
at_stays w place front more parts (Breaks begins shown) out h = (h.0, broken_grows w front more parts h.0 h.1, h.2, h.3)
at_stays w place front more parts (EndsIn begins) out h = absurd (out begins refl)
at_stays w place front more parts TooLong out h = h

-- no bytes stop inside the first unit alone
none_stops : (w : Which) (place : ℕ) (parts : List Part) (stop : JobStop) → ((begins : ℕ) → stop ≡ EndsIn begins → ⊥)
    → StopsAt w place [] parts stop → ⊥
none_stops w place parts (Reaches held verdict shown) out h = h
none_stops w place parts (Passed shown) out h = h
none_stops w place parts (NotServed code shown) out h = nothing (code ∷ h.0) h.2
  where
    nothing : (l : List ℕ) → [] ≡ 82 ∷ l → ⊥
    nothing l e = cc e
none_stops w place parts (Breaks begins shown) out h = no_break (first_unit w) [] [] h.0 [] parts h.1
none_stops w place parts (EndsIn begins) out h = out begins refl
none_stops w place parts TooLong out h = h

bars_on : (w : Which) (place : ℕ) (front more : List ℕ) (parts : List Part) (stop : JobStop)
    → ((begins : ℕ) → stop ≡ EndsIn begins → ⊥) → StopsAt w place front parts stop → (BeginsRefusal front → ⊥)
    → BeginsRefusal (front ++ more) → ⊥
bars_on w place [] more parts stop out h bars r = none_stops w place parts stop out h
bars_on w place (b ∷ front) more parts stop out h bars r =
    let first : b ≡ 82 = ap (λ (l : List ℕ). get_or l 0 0) r.1 in
    bars (front, ap (λ (x : ℕ). x ∷ front) first)

out_stays : (may_decline : Bool) (w : Which) (place : ℕ) (front more : List ℕ) (parts : List Part) (stop : JobStop)
    → ((begins : ℕ) → stop ≡ EndsIn begins → ⊥) → StopsBy may_decline w place front parts stop
    → StopsBy may_decline w place (front ++ more) parts stop
out_stays true w place front more parts stop out h = at_stays w place front more parts stop out h
out_stays false w place front more parts stop out (inl h) = inl ((h.0.0 ++ more, ap (λ (l : List ℕ). l ++ more) h.0.1), h.1, h.2)
out_stays false w place front more parts stop out (inr h) =
    inr (bars_on w place front more parts stop out h.1 h.0, at_stays w place front more parts stop out h.1)

-- a stop stays whatever follows
pub stop_stays : (may_decline : Bool) (w : Which) (place : ℕ) (front more : List ℕ) (parts : List Part) (stop : JobStop)
    → Stays more stop → StopsBy may_decline w place front parts stop → StopsBy may_decline w place (front ++ more) parts stop
stop_stays may_decline w place front more parts stop (inl none) h =
    subst (λ (l : List ℕ). StopsBy may_decline w place l parts stop)
    (sym (append-nil front) ∙ ap (λ (l : List ℕ). front ++ l) (sym none)) h
stop_stays may_decline w place front more parts stop (inr out) h = out_stays may_decline w place front more parts stop out h
