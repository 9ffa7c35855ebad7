-- The sections of a bundle's job, one behind the other.
use Rattle.std.proofs.Common.{◌≡◌, ◌≤◌, ◌<◌, ◌+◌, ◌-◌, ◌^◌, ℕ, List, [], ◌∷◌, ◌++◌, Bool, if◌then◌else◌, Option, Some, None, length, take, inl, inr, refl, sym, ap, ◌∙◌, subst, arith, append_assoc}
use Rattle.std.specs.Option.{option_or}
use Rattle.std.proofs.lemmas.List.{append-nil, length-append}
use Rattle.std.proofs.lemmas.Bool.{le-ltb, lt-ltb}
use Rattle.rad_base.specs.declared.names.Rid.{Rid}
use Rattle.rad_base.specs.declared.offer.Offer.{Offer}
use Rattle.commit_graph.specs.InMemory.{objects_in}
use Rattle.commit_graph.specs.Objects.{Object, ObjectMap}
use Rattle.repo_entries.specs.Items.{Item}
use Rattle.repo_slice.specs.Keeps.{Constants, HasSlice, Held, Makes, ToldAlike, put_told}
use Rattle.fetch_wire.specs.Judging.{further}
use Rattle.fetch_wire.specs.Sections.{IsHead, Sections}
use Rattle.fetch_wire.specs.declared.part.Part.{Part}
use Rattle.fetch_wire.specs.declared.part.Which.{Which}
use Rattle.fetch_wire.specs.declared.part.Which.TheVariants.{Identity, Sigs, Tips}
use Rattle.fetch_stages.specs.Batches.{IsCut}
use Rattle.fetch_stages.specs.BundleJobs.{PutsJob, PutsNext, StopsJob, StopsNext}
use Rattle.fetch_stages.specs.Imports.{setting_of}
use Rattle.fetch_stages.specs.Jobs.{EndsIn, IsJob, JobStop, Passed, Runs, TooLong, all_sections, head_with, limited, place_behind}
use Rattle.fetch_stages.specs.Pieces.{Uses}
use Rattle.fetch_stages.specs.Puts.{puts_of}
use Rattle.fetch_stages.specs.declared.bundle_stop.BundleStop.{BundleStop}
use Rattle.fetch_stages.specs.declared.bundle_stop.BundleStop.TheVariants as stop
use Rattle.fetch_stages.specs.declared.section.Section.{Section}
use Rattle.fetch_stages.proofs.Entering.{makes_along, makes_none, stops_behind}
use Rattle.fetch_stages.proofs.Next.{early_none, front_behind}
use Rattle.fetch_stages.proofs.Told.{untold_before}
use Rattle.fetch_stages.proofs.Windows.{uses_along, uses_none}

told_same : (told : Option ObjectMap) → ToldAlike told told
told_same None = tt
told_same (Some objects) = λ oid. refl

told_put : (told mid new : Option ObjectMap) (xs : List Object) → ToldAlike told mid → ToldAlike (put_told mid xs) new
    → ToldAlike (put_told told xs) new
told_put None mid new xs f g = tt
told_put (Some a) None new xs f g = absurd f
told_put (Some a) (Some b) None xs f g = absurd g
told_put (Some a) (Some b) (Some c) xs f g = λ oid. ap (λ (o : Option Object). option_or o (objects_in xs oid)) (f oid) ∙ g oid

-- The first sections of a job are put, which have so many bytes, and these sections follow.
pub record HasPassed {K O : Type 0} (made : K → O → List Item → Type 0) (held : K → Rid → Held) (constants : Constants) (rid : Rid)
    (start : Held) (a b : K) (offer : Offer) (more : List Which) (place : ℕ) (l l' : Option (List ℕ)) (before after : List ℕ) : Type 0 where
  pub bytes : List ℕ
  pub uses : Uses l l' before bytes after
  pub count : place ≡ length bytes
  pub within : place ≤ 2 ^ 30
  pub entries : List Item
  pub entered : Makes made a b entries
  pub on : Held
  pub slice : HasSlice on.state on.objects (held b rid)
  pub untold : (held b rid).objects ≡ None → start.objects ≡ None
  pub runs : (rest : List ℕ) (later : List Item) (found : JobStop)
      → Runs (setting_of constants rid) offer more on place (take (2 ^ 30 - place) rest) later found
      → Runs (setting_of constants rid) offer all_sections start 0 (take (2 ^ 30) (bytes ++ rest)) (entries ++ later) found

-- no section yet
pub passed_none : {K O : Type 0} (made : K → O → List Item → Type 0) (held : K → Rid → Held) (constants : Constants) (rid : Rid) (k : K)
    (offer : Offer) (l : Option (List ℕ)) (before : List ℕ)
    → HasPassed made held constants rid (held k rid) k k offer all_sections 0 l l before before
passed_none made held constants rid k offer l before = record {
  bytes = [];
  uses = uses_none l before;
  count = refl;
  within = omega arith;
  entries = [];
  entered = makes_none made k;
  on = held k rid;
  slice = record { same_state = refl; same_objects = told_same (held k rid).objects };
  untold = λ e. e;
  runs = λ rest later found r. r;
}

-- behind a section the next ones follow
runs_behind : (constants : Constants) (rid : Rid) (offer : Offer) (which : Which) (more : List Which) (old : Held) (place limit : ℕ)
    (bytes rest : List ℕ) (head : Part) (objects : List Object) (batches : List (List Object)) (later : List Item) (found : JobStop)
    → length bytes ≤ limit → head ≡ head_with offer which → ((r : List ℕ) → Sections (bytes ++ r) which head objects r)
    → IsCut objects batches
    → Runs (setting_of constants rid) offer more (record { state = old.state; objects = put_told old.objects objects })
    (place + length bytes) (take (limit - length bytes) rest) later found
    → Runs (setting_of constants rid) offer (which ∷ more) old place (take limit (bytes ++ rest))
    (puts_of rid constants.caller batches ++ later) found
runs_behind constants rid offer which more old place limit bytes rest head objects batches later found within h is cut r =
    let tail = take (limit - length bytes) rest in
    let new : Held = record { state = old.state; objects = put_told old.objects objects } in
    let size = length-append bytes tail in
    let at : place + length bytes ≡ place_behind place (bytes ++ tail) tail = omega (arith, size) in
    subst (λ (k : List ℕ). Runs (setting_of constants rid) offer (which ∷ more) old place k (puts_of rid constants.caller batches ++ later) found)
    (sym (front_behind bytes rest limit within))
    (inr (
      new,
      tail,
      puts_of rid constants.caller batches,
      later,
      record {
        objects = objects;
        section = subst (λ (p : Part). Sections (bytes ++ tail) which p objects tail) h (is tail);
        batches = batches;
        cut = cut;
        made = refl;
        held = refl;
      },
      subst (λ (n : ℕ). Runs (setting_of constants rid) offer more new n tail later found) at r,
      refl,
    ))

module _ {K O : Type 0} (made : K → O → List Item → Type 0) (held : K → Rid → Held) (constants : Constants) (rid : Rid)
    (start : Held) (a b c : K) (offer : Offer) (which : Which) (more : List Which) (place : ℕ) (l l' l'' : Option (List ℕ))
    (before between after : List ℕ) (p : HasPassed made held constants rid start a b offer (which ∷ more) place l l' before between) where
  -- one section more
  pub passed_more : (section : Section) (place' : ℕ)
      → (n : PutsNext made held rid constants.caller b c which (2 ^ 30 - place) l' l'' between after section)
      → n.head ≡ head_with offer which → place' ≡ place + section.used
      → HasPassed made held constants rid start a c offer more place' l l'' before after
  passed_more section place' n h e =
      let batches = n.puts.batches in
      let size = length-append p.bytes n.bytes in
      let within = p.within in
      let count = p.count in
      let within' = n.within in
      let count' = n.count in
      let all : place' ≡ length (p.bytes ++ n.bytes) = omega (arith, size, count, count', e) in
      let few : place' ≤ 2 ^ 30 = omega (arith, within, within', count', e) in
      let new : Held = record { state = p.on.state; objects = put_told p.on.objects n.objects } in
      let puts : HasSlice (held b rid).state (put_told (held b rid).objects n.objects) (held c rid) =
      subst (λ (os : List Object). HasSlice (held b rid).state (put_told (held b rid).objects os) (held c rid)) (sym n.puts.cut.all) n.puts.puts.slice in
      record {
        bytes = p.bytes ++ n.bytes;
        uses = uses_along l l' l'' before p.bytes between n.bytes after p.uses n.uses;
        count = all;
        within = few;
        entries = p.entries ++ puts_of rid constants.caller batches;
        entered = makes_along made a b c p.entries (puts_of rid constants.caller batches) p.entered n.puts.puts.entered;
        on = new;
        slice = record {
          same_state = puts.same_state ∙ p.slice.same_state;
          same_objects = told_put p.on.objects (held b rid).objects (held c rid).objects n.objects p.slice.same_objects puts.same_objects;
        };
        untold = λ none. p.untold (untold_before (held b rid).objects (held c rid).objects n.objects puts.same_objects none);
        runs = λ rest later found r.
            let left : 2 ^ 30 - place' ≡ (2 ^ 30 - place) - length n.bytes = omega (arith, count', e) in
            let at : place' ≡ place + length n.bytes = omega (arith, count', e) in
            let r' : Runs (setting_of constants rid) offer more new (place + length n.bytes) (take ((2 ^ 30 - place) - length n.bytes) rest) later found =
            subst (λ (q : ℕ). Runs (setting_of constants rid) offer more new q (take ((2 ^ 30 - place) - length n.bytes) rest) later found) at
            (subst (λ (q : ℕ). Runs (setting_of constants rid) offer more new place' (take q rest) later found) left r) in
            let whole = p.runs (n.bytes ++ rest) (puts_of rid constants.caller batches ++ later) found
            (runs_behind constants rid offer which more p.on place (2 ^ 30 - place) n.bytes rest n.head n.objects batches later found
            within' h n.is n.puts.cut r') in
            subst (λ (k : List ℕ). Runs (setting_of constants rid) offer all_sections start 0 (take (2 ^ 30) k) ((p.entries ++ puts_of rid constants.caller batches) ++ later) found)
            (sym (append_assoc p.bytes n.bytes rest))
            (subst (λ (k : List Item). Runs (setting_of constants rid) offer all_sections start 0 (take (2 ^ 30) (p.bytes ++ (n.bytes ++ rest))) k found)
            (sym (append_assoc p.entries (puts_of rid constants.caller batches) later)) whole);
      }

  -- the job stops in a section
  pub job_of : (bytes : List ℕ) (entries : List Item) (found : JobStop)
      → Runs (setting_of constants rid) offer (which ∷ more) p.on place (take (2 ^ 30 - place) bytes) entries found
      → IsJob (setting_of constants rid) start (p.bytes ++ bytes) (p.entries ++ entries) (limited (length (p.bytes ++ bytes)) found)
  job_of bytes entries found r = record { offer = offer; found = found; runs = p.runs bytes entries found r; stop_is = refl }

-- behind the last byte of a section the next one ends in its first unit
runs_none : (constants : Constants) (rid : Rid) (offer : Offer) (more : List Which) (on : Held) (place : ℕ)
    → (found : JobStop) × Runs (setting_of constants rid) offer more on place [] [] found
runs_none constants rid offer [] on place = (Passed place, inr (refl, refl))
runs_none constants rid offer (which ∷ more) on place =
    (EndsIn (further place 0), inl (early_none constants rid which place [] refl))

pub limited_few : (count begins : ℕ) (found : JobStop) → found ≡ EndsIn begins → count ≤ 2 ^ 30 → limited count found ≡ EndsIn begins
limited_few count begins found e few =
    ap (λ (x : JobStop). limited count x) e
    ∙ ap (λ (t : Bool). if t then TooLong else EndsIn begins) (le-ltb (2 ^ 30) count few)

pub limited_many : (count begins : ℕ) → 2 ^ 30 < count → limited count (EndsIn begins) ≡ TooLong
limited_many count begins many = ap (λ (t : Bool). if t then TooLong else EndsIn begins) (lt-ltb (2 ^ 30) count many)

module _ {K O : Type 0} (made : K → O → List Item → Type 0) (held : K → Rid → Held) (constants : Constants) (rid : Rid)
    (start : Held) (end : ℕ) (a b c : K) (which : Which) (more : List Which) (place : ℕ) (l l' l'' : Option (List ℕ))
    (before between : List ℕ) (IsOffered : Offer → Type 0)
    (passed : (offer : Offer) → IsOffered offer → HasPassed made held constants rid start a b offer (which ∷ more) place l l' before between) where
  stops_by : (why : BundleStop) (offer : Offer) → IsOffered offer
      → ((head : Part) → IsHead which head → (o : Offer) × IsOffered o × (head ≡ head_with o which))
      → StopsNext made (setting_of constants rid) end b c which place (2 ^ 30 - place) l' l'' between why
      → StopsJob made (setting_of constants rid) start end a c l l'' before why
  stops_by stop.ReadFault offer is choose n =
      let p = passed offer is in
      let entries = n.stops.0 in
      let found = EndsIn n.stops.1 in
      record {
        bytes = p.bytes ++ n.bytes;
        unread = n.unread;
        uses = uses_along l l' l'' before p.bytes between n.bytes n.unread p.uses n.uses;
        entries = p.entries ++ entries;
        found = limited (length (p.bytes ++ n.bytes)) found;
        job = job_of made held constants rid start a b c offer which more place l l' l'' before between n.unread p n.bytes entries found (inl n.stops.2);
        ends = makes_along made a b c p.entries entries p.entered n.stops.3;
      }
  stops_by (stop.Bad begins) offer is choose n =
      let p = passed offer is in
      let entries = n.stops.0 in
      let found = n.stops.1 in
      let size = length-append p.bytes n.bytes in
      let count = p.count in
      let within = p.within in
      record {
        bytes = p.bytes ++ n.bytes;
        unread = n.unread;
        uses = uses_along l l' l'' before p.bytes between n.bytes n.unread p.uses n.uses;
        entries = p.entries ++ entries;
        found = limited (length (p.bytes ++ n.bytes)) found;
        job = job_of made held constants rid start a b c offer which more place l l' l'' before between n.unread p n.bytes entries found (inl n.stops.2);
        ends = (
          makes_along made a b c p.entries entries p.entered n.stops.3,
          elim n.stops.4 [
            | inl x ↦
                let few = x.1 in
                let all : length (p.bytes ++ n.bytes) ≤ 2 ^ 30 = omega (arith, size, count, few, within) in
                inl (limited_few (length (p.bytes ++ n.bytes)) begins found x.0 all, all, x.2)
            | inr x ↦ inr (x.0, ap (λ (f : JobStop). limited (length (p.bytes ++ n.bytes)) f) x.1)
          ],
          n.stops.5,
        );
      }
  stops_by stop.TooLong offer is choose n =
      let p = passed offer is in
      let entries = n.stops.0 in
      let found = EndsIn n.stops.1 in
      let size = length-append p.bytes n.bytes in
      let count = p.count in
      let within = p.within in
      let past = n.stops.4 in
      let many : 2 ^ 30 < length (p.bytes ++ n.bytes) = omega (arith, size, count, past, within) in
      record {
        bytes = p.bytes ++ n.bytes;
        unread = n.unread;
        uses = uses_along l l' l'' before p.bytes between n.bytes n.unread p.uses n.uses;
        entries = p.entries ++ entries;
        found = limited (length (p.bytes ++ n.bytes)) found;
        job = job_of made held constants rid start a b c offer which more place l l' l'' before between n.unread p n.bytes entries found (inl n.stops.2);
        ends = (
          makes_along made a b c p.entries entries p.entered n.stops.3,
          limited_many (length (p.bytes ++ n.bytes)) n.stops.1 many,
          n.stops.5,
        );
      }
  stops_by (stop.Keep why) offer is choose n = elim n.stops.1 [
    | inl x ↦
        let p = passed offer is in
        let entries = n.stops.0 in
        record {
          bytes = p.bytes ++ n.bytes;
          unread = n.unread;
          uses = uses_along l l' l'' before p.bytes between n.bytes n.unread p.uses n.uses;
          entries = p.entries ++ entries;
          found = limited (length (p.bytes ++ n.bytes)) x.0;
          job = job_of made held constants rid start a b c offer which more place l l' l'' before between n.unread p n.bytes entries x.0 (inl x.1);
          ends = stops_behind made rid constants.caller end a b c p.entries entries why p.entered n.stops.2;
        }
    | inr w ↦
        let o = choose w.head w.section.is_head in
        let p = passed o.0 o.1 in
        let entries = n.stops.0 in
        let new : Held = record { state = p.on.state; objects = put_told p.on.objects w.objects } in
        let tail = runs_none constants rid o.0 more new (place_behind place (take (2 ^ 30 - place) n.bytes) []) in
        record {
          bytes = p.bytes ++ n.bytes;
          unread = n.unread;
          uses = uses_along l l' l'' before p.bytes between n.bytes n.unread p.uses n.uses;
          entries = p.entries ++ entries;
          found = limited (length (p.bytes ++ n.bytes)) tail.0;
          job = job_of made held constants rid start a b c o.0 which more place l l' l'' before between n.unread p n.bytes entries tail.0
              (inr (
                new,
                [],
                entries,
                [],
                record {
                  objects = w.objects;
                  section = subst (λ (head : Part). Sections (take (2 ^ 30 - place) n.bytes) which head w.objects []) o.2 w.section;
                  batches = w.batches;
                  cut = w.cut;
                  made = w.made;
                  held = refl;
                },
                tail.1,
                sym (append-nil entries),
              ));
          ends = stops_behind made rid constants.caller end a b c p.entries entries why p.entered n.stops.2;
        }
  ]

  -- the job stops
  pub stops_job : (why : BundleStop) (offer : Offer) → IsOffered offer
      → ((head : Part) → IsHead which head → (o : Offer) × IsOffered o × (head ≡ head_with o which))
      → StopsNext made (setting_of constants rid) end b c which place (2 ^ 30 - place) l' l'' between why
      → StopsJob made (setting_of constants rid) start end a c l l'' before why
  stops_job = stops_by

module _ {K O : Type 0} (made : K → O → List Item → Type 0) (held : K → Rid → Held) (constants now : Constants) (rid : Rid)
    (start : Held) (a b c : K) (offer : Offer) (which : Which) (more : List Which) (place : ℕ) (l l' l'' : Option (List ℕ))
    (before between : List ℕ) (p : HasPassed made held constants rid start a b offer (which ∷ more) place l l' before between)
    (fits : (head : Part) → IsHead which head → head ≡ head_with offer which) (same : now ≡ constants) where
  -- the job stops in a section whose offer is known
  pub stops_after : (end : ℕ) (why : BundleStop)
      → StopsNext made (setting_of now rid) end b c which place (2 ^ 30 - place) l' l'' between why
      → StopsJob made (setting_of constants rid) start end a c l l'' before why
  stops_after end why n =
      stops_job made held constants rid start end a b c which more place l l' l'' before between (λ o. o ≡ offer)
      (λ o e. subst (λ (x : Offer). HasPassed made held constants rid start a b x (which ∷ more) place l l' before between) (sym e) p)
      why offer refl (λ head h. (offer, refl, fits head h))
      (subst (λ (k : Constants). StopsNext made (setting_of k rid) end b c which place (2 ^ 30 - place) l' l'' between why) same n)

  -- it goes on behind such a section
  pub passed_after : (section : Section) (after : List ℕ)
      → PutsNext made held rid now.caller b c which (2 ^ 30 - place) l' l'' between after section
      → HasPassed made held constants rid start a c offer more (place + section.used) l l'' before after
  passed_after section after n =
      passed_more made held constants rid start a b c offer which more place l l' l'' before between after p section
      (place + section.used)
      (subst (λ (k : Constants). PutsNext made held rid k.caller b c which (2 ^ 30 - place) l' l'' between after section) same n)
      (fits n.head (n.is []).is_head) refl

abbrev head_or : Part → Option Part → Part
head_or other None = other
head_or other (Some head) = head

-- the identity section is put
pub passed_identity : {K O : Type 0} (made : K → O → List Item → Type 0) (held : K → Rid → Held) (constants : Constants) (rid : Rid)
    (a b : K) (offer : Offer) (l l' : Option (List ℕ)) (before after : List ℕ) (section : Section)
    → PutsNext made held rid constants.caller a b Identity (2 ^ 30) l l' before after section
    → section.head ≡ Some (head_with offer Identity)
    → HasPassed made held constants rid (held a rid) a b offer (Sigs ∷ Tips ∷ []) section.used l l' before after
passed_identity made held constants rid a b offer l l' before after section n e =
    passed_more made held constants rid (held a rid) a a b offer Identity (Sigs ∷ Tips ∷ []) 0 l l l' before before after
    (passed_none made held constants rid a offer l before) section section.used n
    (ap (λ (o : Option Part). head_or n.head o) (sym n.head_is ∙ e)) (omega arith)

-- what is judged is no stop by the bytes
judged_stop : (constants : Constants) (rid : Rid) (offer : Offer) (on : Held) (place count : ℕ) (bytes : List ℕ) (last : List Item)
    (found : JobStop) → Runs (setting_of constants rid) offer [] on place bytes last found → found ≡ limited count found
judged_stop constants rid offer on place count bytes last found (inl j) = j.reached ∙ ap (λ (x : JobStop). limited count x) (sym j.reached)
judged_stop constants rid offer on place count bytes last found (inr e) = e.1 ∙ ap (λ (x : JobStop). limited count x) (sym e.1)

-- all sections are put
pub puts_job : {K O : Type 0} (made : K → O → List Item → Type 0) (held : K → Rid → Held) (constants : Constants) (rid : Rid)
    (start : Held) (a b : K) (offer : Offer) (place : ℕ) (l l' : Option (List ℕ)) (before after : List ℕ)
    → HasPassed made held constants rid start a b offer [] place l l' before after
    → PutsJob made held (setting_of constants rid) start a b offer place l l' before after
puts_job made held constants rid start a b offer place l l' before after p = record {
  bytes = p.bytes;
  uses = p.uses;
  count = p.count;
  within = p.within;
  entries = p.entries;
  entered = p.entered;
  on = p.on;
  slice = p.slice;
  untold = p.untold;
  runs = λ rest last found r. record {
    offer = offer;
    found = found;
    runs = p.runs rest last found r;
    stop_is = judged_stop constants rid offer p.on place (length (p.bytes ++ rest)) rest last found r;
  };
}
