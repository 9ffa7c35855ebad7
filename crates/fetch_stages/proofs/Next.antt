-- A section of a bundle, by what reading a section comes to.
use Rattle.std.proofs.Common.{◌≡◌, ◌⊎◌, ◌≤◌, ◌<◌, ◌+◌, ◌-◌, ℕ, suc, List, [], ◌∷◌, ◌++◌, Bool, true, false, if◌then◌else◌, Option, inl, inr, length, take, drop, refl, sym, ap, ◌∙◌, subst, arith}
use Rattle.std.proofs.lemmas.List.{append-nil, length-append, length-take, map-append, take_all}
use Rattle.std.specs.Io.KnownBytes.{IsAtEnd}
use Rattle.hex.specs.Hex.{IsBytes}
use Rattle.rad_base.proofs.Conditions.{differ}
use Rattle.rad_base.specs.declared.names.Rid.{Rid}
use Rattle.commit_graph.specs.Objects.{Object}
use Rattle.repo_entries.specs.Items.{Item, put}
use Rattle.repo_slice.specs.Keeps.{Constants, Held, StopsIn}
use Rattle.repo_slice.specs.declared.keep_fault.KeepFault.{KeepFault}
use Rattle.repo_slice.specs.declared.keep_fault.KeepFault.TheVariants as fault
use Rattle.unit_reader.specs.Units.{At, Begins, Breaks as breaks, Broken, Ends, Place, Reading, next, reading}
use Rattle.fetch_wire.specs.Judging.{Said, first_unit, further, is_over, judge}
use Rattle.fetch_wire.specs.SectionReadings.{ReadsAs, read_of}
use Rattle.fetch_wire.specs.declared.fault.Break.{Break}
use Rattle.fetch_wire.specs.declared.part.Part.{Part}
use Rattle.fetch_wire.specs.declared.part.Which.{Which}
use Rattle.fetch_wire.specs.declared.units.SectionUnits.{SectionUnits}
use Rattle.fetch_stages.specs.Batches.{IsCut, IsOpenCut}
use Rattle.fetch_stages.specs.BundleJobs.{IsNoSection, IsPastLimit, IsStopAt, IsUntouched, IsWholeSection, PutsNext, StopsNext}
use Rattle.fetch_stages.specs.Imports.{setting_of}
use Rattle.fetch_stages.specs.Jobs.{BeginsRefusal, Breaks, EndsIn, JobStop, StopsAt, StopsEarly}
use Rattle.fetch_stages.specs.Pieces.{Fills, Uses}
use Rattle.fetch_stages.specs.Puts.{puts_of}
use Rattle.fetch_stages.specs.Sections.{LeavesNone, PutsAllOf, PutsSection, ReadsToEnd, StopsSection, objects_among}
use Rattle.fetch_stages.specs.declared.bundle_stop.BundleStop.{BundleStop}
use Rattle.fetch_stages.specs.declared.bundle_stop.BundleStop.TheVariants as stop
use Rattle.fetch_stages.specs.declared.section.Section.{Section}
use Rattle.fetch_stages.specs.declared.section_stop.SectionStop.{SectionStop}
use Rattle.fetch_stages.specs.declared.section_stop.SectionStop.TheVariants as stops
use Rattle.fetch_stages.proofs.CutOn.{cut_ended, cut_on}
use Rattle.fetch_stages.proofs.Entering.{makes_none, stops_among, stops_done}
use Rattle.fetch_stages.proofs.WholeSections.{followed, no_refusal, read_whole}
use Rattle.fetch_stages.proofs.Windows.{uses_all, uses_behind, uses_filled, uses_front}

-- a front that is longer than the first of two lists
pub take_behind : (xs ys : List ℕ) (m : ℕ) → take (length xs + m) (xs ++ ys) ≡ xs ++ take m ys
take_behind [] ys m = let e : 0 + m ≡ m = omega arith in ap (λ (n : ℕ). take n ys) e
take_behind (x ∷ xs) ys m =
    let e : length (x ∷ xs) + m ≡ suc (length xs + m) = omega arith in
    ap (λ (n : ℕ). take n (x ∷ (xs ++ ys))) e ∙ ap (λ (l : List ℕ). x ∷ l) (take_behind xs ys m)

pub front_behind : (xs ys : List ℕ) (n : ℕ) → length xs ≤ n → take n (xs ++ ys) ≡ xs ++ take (n - length xs) ys
front_behind xs ys n h =
    let e : n ≡ length xs + (n - length xs) = omega (arith, h) in
    ap (λ (k : ℕ). take k (xs ++ ys)) e ∙ take_behind xs ys (n - length xs)

-- behind an end nothing is held
OverHolds : Place SectionUnits Break → Type 0
OverHolds (At units held rest) = is_over units ≡ true → held ≡ []
OverHolds (Broken broken) = Unit {0}

-- the step of a reading, behind which nothing is held at an end
step_holds : (bytes : List ℕ) (b : ℕ) (s : SectionUnits) (held : List ℕ) (over : Bool) (v : Said)
    → ((t : SectionUnits) (keeps : List ℕ) → (is_over t ≡ true → keeps ≡ []) → OverHolds (reading is_over judge t keeps bytes).place)
    → (is_over s ≡ true → held ≡ []) → is_over s ≡ over
    → OverHolds (if over then record { items = []; place = At s held (b ∷ bytes) }
    else next v s (held ++ b ∷ []) (λ t keeps. reading is_over judge t keeps bytes)).place
unfolding OverHolds
step_holds bytes b s held true v go h e = h
step_holds bytes b s held false Begins go h e = go s (held ++ b ∷ []) (λ over. absurd (differ (is_over s) over e))
step_holds bytes b s held false (Ends item t) go h e = go t [] (λ over. refl)
step_holds bytes b s held false (breaks broken) go h e = tt

over_holds : (bytes : List ℕ) (s : SectionUnits) (held : List ℕ) → (is_over s ≡ true → held ≡ [])
    → OverHolds (reading is_over judge s held bytes).place
unfolding OverHolds
over_holds [] s held h = h
over_holds (b ∷ bytes) s held h =
    step_holds bytes b s held (is_over s) (judge s (held ++ b ∷ [])) (λ t keeps k. over_holds bytes t keeps k) h refl

-- behind an end that is read nothing is held
pub none_held : (which : Which) (bytes : List ℕ) (parts : List Part) (units : SectionUnits) (held rest : List ℕ)
    → read_of which bytes ≡ record { items = parts; place = At units held rest } → is_over units ≡ true → held ≡ []
unfolding OverHolds
none_held which bytes parts units held rest reads over =
    subst (λ (r : Reading SectionUnits Part Break). OverHolds r.place) reads (over_holds bytes (first_unit which) [] (λ x. refl)) over

-- a section of a bundle is put
pub puts_next : {K O : Type 0} (made : K → O → List Item → Type 0) (held : K → Rid → Held) (rid : Rid) (caller : ℕ) (a b : K)
    (which : Which) (limit : ℕ) (l l' l'' : Option (List ℕ)) (before filled after : List ℕ) (section : Section)
    → Fills l l' before filled → 0 < length filled → (BeginsRefusal filled → ⊥)
    → PutsSection made held rid caller a b which limit l' l'' filled after section
    → PutsNext made held rid caller a b which limit l l'' before after section
puts_next made held rid caller a b which limit l l' l'' before filled after section f some bars p =
    let none = no_refusal filled p.uses.taken p.bytes after some bars p.uses.text in
    let reads = subst (λ (k : List ℕ). ReadsAs which k p.parts []) (append-nil p.bytes) (p.ends []) in
    let s = read_whole which p.bytes p.parts p.fits reads none in
    record {
      bytes = p.bytes;
      head = s.head;
      objects = s.objects;
      uses = uses_behind l l' l'' before filled p.bytes after f p.uses;
      within = p.within;
      is = λ rest. followed which p.bytes rest s.head s.objects s.section;
      puts = subst (λ (os : List Object). PutsAllOf made held rid caller a b os) s.objects_are p.puts;
      head_is = p.head ∙ s.head_is;
      count = p.count;
    }

-- a section stops early
early : (constants : Constants) (rid : Rid) (which : Which) (place : ℕ) (bytes : List ℕ) (parts : List Part) (found : JobStop)
    (puts : List (List Object)) (waiting : List Object) → (BeginsRefusal bytes → ⊥) → StopsAt which place bytes parts found
    → IsOpenCut (objects_among parts) puts waiting
    → StopsEarly (setting_of constants rid) which place bytes (puts_of rid constants.caller puts) found
early constants rid which place bytes parts found puts waiting bars at cut =
    record { parts = parts; stops = inr (bars, at); puts = puts; waiting = waiting; cut = cut; made = refl }

-- what the bytes up to a refused put come to
TriedTo : Constants → Rid → Which → ℕ → List ℕ → List (List Object) → Type 0
TriedTo constants rid which place bytes puts =
    (more : List (List Object))
    × (((found : JobStop) × StopsEarly (setting_of constants rid) which place bytes (puts_of rid constants.caller (puts ++ more)) found)
    ⊎ IsWholeSection (setting_of constants rid) which bytes (puts_of rid constants.caller (puts ++ more)))

tried_inside : (constants : Constants) (rid : Rid) (which : Which) (place : ℕ) (bytes : List ℕ) (parts : List Part)
    (units : SectionUnits) (held : List ℕ) (over : Bool) (puts : List (List Object)) (waiting : List Object) → is_over units ≡ over
    → read_of which bytes ≡ record { items = parts; place = At units held [] } → IsBytes bytes → (BeginsRefusal bytes → ⊥)
    → IsOpenCut (objects_among parts) puts waiting → TriedTo constants rid which place bytes puts
unfolding TriedTo OverHolds
tried_inside constants rid which place bytes parts units held false puts waiting over reads fits bars cut = (
  [],
  inl (
    EndsIn (further place units.place),
    early constants rid which place bytes parts (EndsIn (further place units.place)) (puts ++ []) waiting bars
        (units.place, record { units = units; held = held; goes_on = over; reads = reads; begins = refl }, refl)
        (subst (λ (l : List (List Object)). IsOpenCut (objects_among parts) l waiting) (sym (append-nil puts)) cut),
  ),
)
tried_inside constants rid which place bytes parts units held true puts waiting over reads fits bars cut =
    let none = none_held which bytes parts units held [] reads over in
    let whole = subst (λ (h : List ℕ). read_of which bytes ≡ record { items = parts; place = At units h [] }) none reads in
    let s = read_whole which bytes parts fits (units, over, whole) bars in
    let c = cut_ended (objects_among parts) puts waiting cut in (
      c.0,
      inr (record {
        head = s.head;
        objects = s.objects;
        section = s.section;
        batches = puts ++ c.0;
        cut = subst (λ (os : List Object). IsCut os (puts ++ c.0)) s.objects_are c.1;
        made = refl;
      }),
    )

tried_at : (constants : Constants) (rid : Rid) (which : Which) (begins : ℕ) (bytes : List ℕ) (parts : List Part)
    (place : Place SectionUnits Break) (puts : List (List Object)) (waiting : List Object)
    → read_of which bytes ≡ record { items = parts; place = place } → LeavesNone place → IsBytes bytes
    → (BeginsRefusal bytes → ⊥) → IsOpenCut (objects_among parts) puts waiting → TriedTo constants rid which begins bytes puts
unfolding TriedTo
tried_at constants rid which begins bytes parts (At units held rest) puts waiting reads none fits bars cut =
    let all = subst (λ (r : List ℕ). read_of which bytes ≡ record { items = parts; place = At units held r }) none reads in
    tried_inside constants rid which begins bytes parts units held (is_over units) puts waiting refl all fits bars cut
tried_at constants rid which begins bytes parts (Broken broken) puts waiting reads none fits bars cut =
    let found : JobStop = Breaks (further begins broken.place) (further begins broken.shown) in (
      [],
      inl (
        found,
        early constants rid which begins bytes parts found (puts ++ []) waiting bars (broken, reads, refl, refl)
            (subst (λ (l : List (List Object)). IsOpenCut (objects_among parts) l waiting) (sym (append-nil puts)) cut),
      ),
    )

-- a refusal among the first puts
stops_among_puts : {K O : Type 0} (made : K → O → List Item → Type 0) (rid : Rid) (caller end : ℕ) (a b : K) (xs ys : List (List Object))
    (why : KeepFault) → StopsIn made rid caller end a b (puts_of rid caller xs) why
    → StopsIn made rid caller end a b (puts_of rid caller (xs ++ ys)) why
stops_among_puts made rid caller end a b xs ys why s =
    subst (λ (l : List Item). StopsIn made rid caller end a b l why)
    (sym (map-append (λ (batch : List Object). put rid batch caller) xs ys))
    (stops_among made rid caller end a b (puts_of rid caller xs) (puts_of rid caller ys) why s)

module _ {K O : Type 0} (made : K → O → List Item → Type 0) (held : K → Rid → Held) (constants : Constants) (rid : Rid) (end : ℕ)
    (a b : K) (which : Which) (place limit : ℕ) (l l' l'' : Option (List ℕ)) (before filled after : List ℕ) (at_end : Type 0)
    (f : Fills l l' before filled) (some : 0 < length filled) (bars : BeginsRefusal filled → ⊥) where
  -- the section stops by its bytes
  abbrev Stops : SectionStop → Type 0
  Stops why = StopsSection made held rid constants.caller end a b which limit l' l'' filled after at_end why

  -- and so its job does
  abbrev Next : BundleStop → Type 0
  Next why = StopsNext made (setting_of constants rid) end a b which place limit l l'' before why

  uses_here : (used rest : List ℕ) → Uses l' l'' filled used rest → Uses l l'' before used rest
  uses_here used rest u = uses_behind l l' l'' before filled used rest f u

  none_here : (used rest : List ℕ) → Uses l' l'' filled used rest → BeginsRefusal used → ⊥
  none_here used rest u = no_refusal filled u.taken used rest some bars u.text

  early_here : (used rest : List ℕ) (parts : List Part) (found : JobStop) (puts : List (List Object)) (waiting : List Object)
      → Uses l' l'' filled used rest → length used ≤ limit → StopsAt which place used parts found
      → IsOpenCut (objects_among parts) puts waiting
      → StopsEarly (setting_of constants rid) which place (take limit used) (puts_of rid constants.caller puts) found
  early_here used rest parts found puts waiting u within at cut =
      subst (λ (k : List ℕ). StopsEarly (setting_of constants rid) which place k (puts_of rid constants.caller puts) found)
      (sym (take_all limit used within))
      (early constants rid which place used parts found puts waiting (none_here used rest u) at cut)

  stops_read : Stops stops.ReadFault → Next stop.ReadFault
  stops_read t =
      let p = t.puts.1 in
      record {
        bytes = t.used;
        unread = after;
        uses = uses_here t.used after t.uses;
        stops = (
          puts_of rid constants.caller p.batches,
          further place t.comes.0,
          early_here t.used after t.parts (EndsIn (further place t.comes.0)) p.batches t.puts.0 t.uses t.within
              (t.comes.0, t.comes.1, refl) p.cut,
          p.puts.entered,
        );
      }

  stops_ended : (unit : ℕ) → (at_end → IsAtEnd l'') → Stops (stops.Ends unit) → Next (stop.Bad (further place unit))
  stops_ended unit ended t =
      let p = t.puts.1 in
      record {
        bytes = t.used;
        unread = [];
        uses = subst (λ (rest : List ℕ). Uses l l'' before t.used rest) t.comes.1 (uses_here t.used after t.uses);
        stops = (
          puts_of rid constants.caller p.batches,
          EndsIn (further place unit),
          early_here t.used after t.parts (EndsIn (further place unit)) p.batches t.puts.0 t.uses t.within
              (unit, t.comes.0, refl) p.cut,
          p.puts.entered,
          inl (refl, t.within, ended t.comes.2),
          refl,
        );
      }

  stops_memory : Stops stops.NoMemory → Next (stop.Keep fault.NoMemory)
  stops_memory t =
      let p = t.puts.1 in
      record {
        bytes = t.used;
        unread = after;
        uses = uses_here t.used after t.uses;
        stops = (
          puts_of rid constants.caller p.batches,
          inl (
            EndsIn (further place t.comes.0),
            early_here t.used after t.parts (EndsIn (further place t.comes.0)) p.batches t.puts.0 t.uses t.within
                (t.comes.0, t.comes.1, refl) p.cut,
          ),
          stops_done made rid constants.caller end a b (puts_of rid constants.caller p.batches) p.puts.entered,
        );
      }

  stops_broken : (broken : Break) → Stops (stops.Bad broken) → Next (stop.Bad (further place broken.place))
  stops_broken broken t =
      let p = t.puts.1 in
      let n = limit - length t.used in
      let first = uses_front l' l'' filled t.used after n t.uses in
      let whole = front_behind t.used after limit t.within in
      let found : JobStop = Breaks (further place broken.place) (further place broken.shown) in
      record {
        bytes = t.used ++ after;
        unread = [];
        uses = uses_all l l'' before t.used after (uses_here t.used after t.uses);
        stops = (
          puts_of rid constants.caller p.batches,
          found,
          subst (λ (k : List ℕ). StopsEarly (setting_of constants rid) which place k (puts_of rid constants.caller p.batches) found)
              (sym whole)
              (early constants rid which place (t.used ++ take n after) t.parts found p.batches t.puts.0
              (none_here (t.used ++ take n after) (drop n after) first) (broken, t.comes, refl, refl) p.cut),
          p.puts.entered,
          inr (further place broken.shown, refl),
          refl,
        );
      }

  -- what the bytes come to, as far as they are within the limit
  tried_within : (bytes : List ℕ) (puts : List (List Object)) (why : KeepFault) → length bytes ≤ limit
      → TriedTo constants rid which place bytes puts
      → StopsIn made rid constants.caller end a b (puts_of rid constants.caller puts) why
      → (entries : List Item)
      × (((found : JobStop) × StopsEarly (setting_of constants rid) which place (take limit bytes) entries found)
      ⊎ IsWholeSection (setting_of constants rid) which (take limit bytes) entries)
      × StopsIn made rid constants.caller end a b entries why
  unfolding TriedTo
  tried_within bytes puts why within t s = (
    puts_of rid constants.caller (puts ++ t.0),
    subst (λ (k : List ℕ). ((found : JobStop) × StopsEarly (setting_of constants rid) which place k (puts_of rid constants.caller (puts ++ t.0)) found)
        ⊎ IsWholeSection (setting_of constants rid) which k (puts_of rid constants.caller (puts ++ t.0))) (sym (take_all limit bytes within)) t.1,
    stops_among_puts made rid constants.caller end a b puts t.0 why s,
  )

  stops_inside : (why : KeepFault) (t : Stops (stops.Keep why)) (front rest waiting : List Object) (batches : List (List Object))
      → objects_among t.parts ≡ front ++ rest → IsOpenCut front batches waiting
      → StopsIn made rid constants.caller end a b (puts_of rid constants.caller batches) why → Next (stop.Keep why)
  stops_inside why t front rest waiting batches e cut s =
      let n = t.comes.0 in
      let bytes = t.used ++ take n after in
      let first = uses_front l' l'' filled t.used after n t.uses in
      let c = cut_on rest front batches waiting cut in
      let size = length-append t.used (take n after) in
      let size' = length-take n after in
      let most = t.comes.1 in
      let used = t.within in
      let within : length bytes ≤ limit = omega (arith, size, size', most, used) in
      let all = subst (λ (os : List Object). IsOpenCut os (batches ++ c.0) c.1) (sym e) c.2 in
      let gives = t.comes.2 in
      record {
        bytes = bytes;
        unread = drop n after;
        uses = uses_here bytes (drop n after) first;
        stops = tried_within bytes (batches ++ c.0) why within
            (tried_at constants rid which place bytes t.parts gives.0 (batches ++ c.0) c.1 gives.1 gives.2 t.comes.3
            (none_here bytes (drop n after) first) all)
            (stops_among_puts made rid constants.caller end a b batches c.0 why s);
      }

  stops_last : (why : KeepFault) (t : Stops (stops.Keep why)) (batches : List (List Object)) → ReadsToEnd which t.used t.parts
      → IsCut (objects_among t.parts) batches
      → StopsIn made rid constants.caller end a b (puts_of rid constants.caller batches) why → Next (stop.Keep why)
  unfolding TriedTo
  stops_last why t batches ended cut s =
      let reads = subst (λ (k : List ℕ). ReadsAs which k t.parts []) (append-nil t.used) (ended []) in
      let w = read_whole which t.used t.parts t.fits reads (none_here t.used after t.uses) in
      let more = append-nil batches in
      record {
        bytes = t.used;
        unread = after;
        uses = uses_here t.used after t.uses;
        stops = tried_within t.used batches why t.within (
          [],
          inr (record {
            head = w.head;
            objects = w.objects;
            section = w.section;
            batches = batches ++ [];
            cut = rw more (subst (λ (os : List Object). IsCut os batches) w.objects_are cut);
            made = refl;
          }),
        ) s;
      }

  stops_kept : (why : KeepFault) → Stops (stops.Keep why) → Next (stop.Keep why)
  stops_kept why t = elim t.puts.1 [
    | inl x ↦ stops_inside why t x.0 x.1 x.2 t.puts.0 x.3 x.4 t.puts.2
    | inr x ↦ stops_last why t t.puts.0 x.0 x.1 t.puts.2
  ]

module _ {K O : Type 0} (made : K → O → List Item → Type 0) (held : K → Rid → Held) (constants : Constants) (rid : Rid) (end : ℕ)
    (a b : K) (which : Which) (place limit : ℕ) (l l' l'' l''' : Option (List ℕ)) (before filled after final : List ℕ)
    (at_end : Type 0) (f : Fills l l' before filled) (some : 0 < length filled) (bars : BeginsRefusal filled → ⊥) where
  -- the job stops
  abbrev NextNow : BundleStop → Type 0
  NextNow why = StopsNext made (setting_of constants rid) end a b which place limit l l''' before why

  -- nothing more was taken
  same_left : (why : BundleStop) → l''' ≡ l'' → StopsNext made (setting_of constants rid) end a b which place limit l l'' before why
      → NextNow why
  same_left why e x = subst (λ (o : Option (List ℕ)). StopsNext made (setting_of constants rid) end a b which place limit l o before why) (sym e) x

  -- the limit stands inside a unit
  stops_long : (unit : ℕ) (input : Type 0) (why : BundleStop) → Fills l'' l''' after final
      → StopsSection made held rid constants.caller end a b which limit l' l'' filled after at_end (stops.TooLong unit)
      → IsPastLimit input (IsAtEnd l''') (further place unit) final why → NextNow why
  stops_long unit input stop.ReadFault g t is =
      let p = t.puts.1 in
      record {
        bytes = t.used;
        unread = final;
        uses = uses_filled l l'' l''' before t.used after final (uses_behind l l' l'' before filled t.used after f t.uses) g;
        stops = (
          puts_of rid constants.caller p.batches,
          further place unit,
          early_here made held constants rid end a b which place limit l l' l'' before filled after at_end f some bars t.used after
              t.parts (EndsIn (further place unit)) p.batches t.puts.0 t.uses t.within (unit, t.comes.0, refl) p.cut,
          p.puts.entered,
        );
      }
  stops_long unit input (stop.Bad begins) g t is =
      let p = t.puts.1 in
      record {
        bytes = t.used;
        unread = [];
        uses = subst (λ (rest : List ℕ). Uses l l''' before t.used rest) is.1
            (uses_filled l l'' l''' before t.used after final (uses_behind l l' l'' before filled t.used after f t.uses) g);
        stops = (
          puts_of rid constants.caller p.batches,
          EndsIn (further place unit),
          early_here made held constants rid end a b which place limit l l' l'' before filled after at_end f some bars t.used after
              t.parts (EndsIn (further place unit)) p.batches t.puts.0 t.uses t.within (unit, t.comes.0, refl) p.cut,
          p.puts.entered,
          inl (ap (λ (n : ℕ). EndsIn n) (sym is.0), t.within, is.2),
          refl,
        );
      }
  stops_long unit input stop.TooLong g t is =
      let p = t.puts.1 in
      let u = uses_filled l l'' l''' before t.used after final (uses_behind l l' l'' before filled t.used after f t.uses) g in
      let full = t.comes.1 in
      let count = length-append t.used final in
      let none : limit - length t.used ≡ 0 = omega (arith, full) in
      let first : take limit (t.used ++ final) ≡ take limit t.used =
      front_behind t.used final limit t.within
      ∙ ap (λ (n : ℕ). t.used ++ take n final) none ∙ append-nil t.used
      ∙ sym (take_all limit t.used t.within) in
      record {
        bytes = t.used ++ final;
        unread = [];
        uses = uses_all l l''' before t.used final u;
        stops = (
          puts_of rid constants.caller p.batches,
          further place unit,
          subst (λ (k : List ℕ). StopsEarly (setting_of constants rid) which place k (puts_of rid constants.caller p.batches) (EndsIn (further place unit)))
              (sym first)
              (early_here made held constants rid end a b which place limit l l' l'' before filled after at_end f some bars t.used after
              t.parts (EndsIn (further place unit)) p.batches t.puts.0 t.uses t.within (unit, t.comes.0, refl) p.cut),
          p.puts.entered,
          omega (arith, full, count, is),
          refl,
        );
      }
  stops_long unit input (stop.Keep why) g t is = absurd is

  -- a section stops, and so the job does
  pub stops_next : (input : Type 0) (why : SectionStop) (stopped : BundleStop) → (at_end → IsAtEnd l'') → Fills l'' l''' after final
      → StopsSection made held rid constants.caller end a b which limit l' l'' filled after at_end why
      → IsUntouched ((l''' ≡ l'') × (final ≡ after)) why → IsStopAt input (IsAtEnd l''') place final why stopped
      → StopsNext made (setting_of constants rid) end a b which place limit l l''' before stopped
  stops_next input stops.ReadFault stopped ended g t same is =
      rw is (same_left stop.ReadFault same.0 (stops_read made held constants rid end a b which place limit l l' l'' before filled after at_end f some bars t))
  stops_next input (stops.Ends unit) stopped ended g t same is =
      rw is (same_left (stop.Bad (further place unit)) same.0
      (stops_ended made held constants rid end a b which place limit l l' l'' before filled after at_end f some bars unit ended t))
  stops_next input (stops.TooLong unit) stopped ended g t same is = stops_long unit input stopped g t is
  stops_next input (stops.Bad broken) stopped ended g t same is =
      rw is (same_left (stop.Bad (further place broken.place)) same.0
      (stops_broken made held constants rid end a b which place limit l l' l'' before filled after at_end f some bars broken t))
  stops_next input stops.NoMemory stopped ended g t same is =
      rw is (same_left (stop.Keep fault.NoMemory) same.0
      (stops_memory made held constants rid end a b which place limit l l' l'' before filled after at_end f some bars t))
  stops_next input (stops.Keep why) stopped ended g t same is =
      rw is (same_left (stop.Keep why) same.0
      (stops_kept made held constants rid end a b which place limit l l' l'' before filled after at_end f some bars why t))

-- no bytes of a section end in it
pub none_in : (which : Which) (place : ℕ) → StopsAt which place [] [] (EndsIn (further place 0))
none_in which place =
    (0, record { units = first_unit which; held = []; goes_on = refl; reads = refl; begins = refl }, refl)

nothing_begins : BeginsRefusal [] → ⊥
nothing_begins r = not_nothing r.0 r.1
  where
    not_nothing : (rest : List ℕ) → [] ≡ 82 ∷ rest → ⊥
    not_nothing rest e = cc e

-- a section of no bytes stops early
pub early_none : (constants : Constants) (rid : Rid) (which : Which) (place : ℕ) (bytes : List ℕ) → bytes ≡ []
    → StopsEarly (setting_of constants rid) which place bytes [] (EndsIn (further place 0))
early_none constants rid which place bytes e =
    subst (λ (k : List ℕ). StopsEarly (setting_of constants rid) which place k [] (EndsIn (further place 0))) (sym e)
    (early constants rid which place [] [] (EndsIn (further place 0)) [] [] nothing_begins (none_in which place) (refl, refl))

refused_first : (limit : ℕ) (bytes : List ℕ) → 0 < limit → BeginsRefusal bytes → BeginsRefusal (take limit bytes)
refused_first limit bytes some r =
    let e : limit ≡ suc (limit - 1) = omega (arith, some) in
    (take (limit - 1) r.0, ap (λ (l : List ℕ). take limit l) r.1 ∙ ap (λ (n : ℕ). take n (82 ∷ r.0)) e)

fills_uses : (l l' : Option (List ℕ)) (before filled : List ℕ) → Fills l l' before filled → Uses l l' before [] filled
fills_uses l l' before filled f = record { taken = f.bytes; consumed = f.consumed; text = sym f.waits }

fills_used : (l l' : Option (List ℕ)) (before filled : List ℕ) → Fills l l' before filled → Uses l l' before filled []
fills_used l l' before filled f =
    record { taken = f.bytes; consumed = f.consumed; text = sym f.waits ∙ sym (append-nil filled) }

-- no section begins
pub stops_at_start : {K O : Type 0} (made : K → O → List Item → Type 0) (constants : Constants) (rid : Rid) (end : ℕ) (k : K)
    (which : Which) (place limit : ℕ) (l l' : Option (List ℕ)) (before filled : List ℕ) (input : Type 0) (why : BundleStop)
    → place ≤ 1073741824 → Fills l l' before filled → IsNoSection input (IsAtEnd l') place limit filled why
    → StopsNext made (setting_of constants rid) end k k which place limit l l' before why
stops_at_start made constants rid end k which place limit l l' before filled input stop.ReadFault few f is = record {
  bytes = [];
  unread = filled;
  uses = fills_uses l l' before filled f;
  stops = ([], further place 0, early_none constants rid which place (take limit []) (take_all limit [] (omega arith)), makes_none made k);
}
stops_at_start made constants rid end k which place limit l l' before filled input (stop.Bad begins) few f is =
    elim is.1 [
      | inl none ↦ record {
        bytes = [];
        unread = [];
        uses = subst (λ (x : List ℕ). Uses l l' before [] x) none.0 (fills_uses l l' before filled f);
        stops = (
          [],
          EndsIn (further place 0),
          early_none constants rid which place (take limit []) (take_all limit [] (omega arith)),
          makes_none made k,
          inl (
            ap (λ (n : ℕ). EndsIn n) (let at = is.0 in let e : further place 0 ≡ begins = omega (arith, few, at) in e),
            omega arith,
            none.1,
          ),
          refl,
        );
      }
      | inr refusal ↦ record {
        bytes = filled;
        unread = [];
        uses = fills_used l l' before filled f;
        stops = (
          [],
          Breaks place (place + 1),
          record {
            parts = [];
            stops = inl (refused_first limit filled refusal.1 refusal.0, refl, refl);
            puts = [];
            waiting = [];
            cut = (refl, refl);
            made = refl;
          },
          makes_none made k,
          inr (place + 1, ap (λ (n : ℕ). Breaks n (place + 1)) (sym is.0)),
          refl,
        );
      }
    ]
stops_at_start made constants rid end k which place limit l l' before filled input stop.TooLong few f is = record {
  bytes = filled;
  unread = [];
  uses = fills_used l l' before filled f;
  stops = (
    [],
    further place 0,
    early_none constants rid which place (take limit filled) (ap (λ (n : ℕ). take n filled) is.0),
    makes_none made k,
    (let none = is.0 in let more = is.1 in omega (arith, none, more)),
    refl,
  );
}
stops_at_start made constants rid end k which place limit l l' before filled input (stop.Keep why) few f is = absurd is
