-- The run of a job on a front of its bytes, and on all of them.
use Rattle.std.proofs.Common.{◌≡◌, ◌⊎◌, ◌+◌, ◌-◌, ℕ, List, [], ◌∷◌, ◌++◌, length, inl, inr, refl, sym, ap, ◌∙◌, subst, arith, append_assoc}
use Rattle.std.proofs.lemmas.List.{append-nil, length-append, map-append, nil_from_length}
use Rattle.std.proofs.lemmas.List.Concat.{flat_map-append}
use Rattle.rad_base.specs.declared.offer.Offer.{Offer}
use Rattle.commit_graph.specs.Objects.{Object, ObjectMap}
use Rattle.std.specs.Prelude.{Option, None, Some}
use Rattle.repo_entries.specs.Items.{Item, put}
use Rattle.repo_slice.specs.Keeps.{Held, put_told}
use Rattle.fetch_wire.specs.SectionReadings.{read_of}
use Rattle.fetch_wire.specs.declared.part.Part.{Part}
use Rattle.fetch_wire.specs.declared.part.Part.TheVariants as part
use Rattle.fetch_wire.specs.declared.part.Which.{Which}
use Rattle.fetch_wire.specs.declared.part.Which.TheVariants.{Identity, Sigs, Tips}
use Rattle.fetch_wire.proofs.SectionsSpelled.{one_section}
use Rattle.fetch_stages.specs.Batches.{IsCut, IsFrontCut, IsOpenCut}
use Rattle.fetch_stages.specs.JobLaws.{BeginWith, IsTold}
use Rattle.fetch_stages.specs.Jobs.{JobStop, Passes, Runs, Setting, StopsEarly, all_sections, head_with, place_behind}
use Rattle.fetch_stages.specs.Puts.{puts_of}
use Rattle.fetch_stages.specs.Sections.{object_of_part, objects_among}
use Rattle.fetch_stages.proofs.Fronts.{fronts_are_put_first}
use Rattle.fetch_stages.proofs.OneCut.{one_cut}
use Rattle.fetch_stages.proofs.SectionFronts.{Stays, ends_or_stops, one_stop, parts_grow, section_grows, section_objects, stop_stays, stopped_objects}

-- the entries of the puts
abbrev pub puts_in : Setting → List (List Object) → List Item
puts_in s batches = puts_of s.rid s.constants.caller batches

pub puts_more : (s : Setting) (xs ys : List (List Object)) → puts_in s (xs ++ ys) ≡ puts_in s xs ++ puts_in s ys
puts_more s xs ys = map-append (λ (batch : List Object). put s.rid batch s.constants.caller) xs ys

-- the entries begin with puts of the objects that a section gives
abbrev PutsRead : Setting → Which → List ℕ → List Item → Type 0
PutsRead s which bytes all =
    (batches : List (List Object)) × (later : List Item) × IsFrontCut (objects_among (read_of which bytes).items) batches
    × (all ≡ puts_in s batches ++ later)

-- of a section that stops early
early_cut : (s : Setting) (which : Which) (place : ℕ) (bytes : List ℕ) (entries : List Item) (stop : JobStop)
    → (e : StopsEarly s which place bytes entries stop) → IsOpenCut (objects_among (read_of which bytes).items) e.puts e.waiting
early_cut s which place bytes entries stop e =
    subst (λ (l : List Object). IsOpenCut l e.puts e.waiting) (sym (stopped_objects s.may_decline which place bytes e.parts stop e.stops)) e.cut

-- of one that comes to its end
passed_cut : (s : Setting) (offer : Offer) (which : Which) (bytes rest : List ℕ) (old new : Held) (entries : List Item)
    → (p : Passes s offer which bytes rest old new entries) → IsCut (objects_among (read_of which bytes).items) p.batches
passed_cut s offer which bytes rest old new entries p =
    subst (λ (l : List Object). IsCut l p.batches) (sym (section_objects which bytes rest (head_with offer which) p.objects p.section)) p.cut

puts_read : (s : Setting) (offer : Offer) (which : Which) (more : List Which) (held : Held) (place : ℕ) (bytes : List ℕ) (all : List Item)
    (whole : JobStop) → Runs s offer (which ∷ more) held place bytes all whole → PutsRead s which bytes all
puts_read s offer which more held place bytes all whole (inl e) =
    (e.puts, [], inl (e.waiting, early_cut s which place bytes all whole e), e.made ∙ sym (append-nil (puts_in s e.puts)))
puts_read s offer which more held place bytes all whole (inr r) = (
  r.4.batches,
  r.3,
  inr (passed_cut s offer which bytes r.1 held r.0 r.2 r.4),
  r.6 ∙ ap (λ (l : List Item). l ++ r.3) r.4.made,
)

-- A run that stops early on a front: all entries begin with its entries. Where its stop stays, it has the same run
-- on all bytes.
abbrev pub StopsFirst : List ℕ → List Item → List Item → JobStop → JobStop → Type 0
StopsFirst more entries all stop whole = BeginWith all entries × (Stays more stop → (all ≡ entries) × (whole ≡ stop))

-- two lists that begin with one another are one
pub both_begin : {X : Type 0} (xs ys a b : List X) → xs ≡ ys ++ a → ys ≡ xs ++ b → xs ≡ ys
both_begin {X} xs ys a b e f =
    let size = ap (λ (l : List X). length l) e ∙ length-append ys a in
    let count = ap (λ (l : List X). length l) f ∙ length-append xs b in
    let none : a ≡ [] = nil_from_length a (omega (arith, size, count)) in
    e ∙ ap (λ (l : List X). ys ++ l) none ∙ append-nil ys

-- objects of which some wait are put in one way
one_open_cut : (objects waiting others : List Object) (puts those : List (List Object)) → IsOpenCut objects puts waiting
    → IsOpenCut objects those others → puts ≡ those
one_open_cut objects waiting others puts those f g =
    let p = fronts_are_put_first objects [] waiting puts those f (inl (others, subst (λ (l : List Object). IsOpenCut l those others) (sym (append-nil objects)) g)) in
    let q = fronts_are_put_first objects [] others those puts g (inl (waiting, subst (λ (l : List Object). IsOpenCut l puts waiting) (sym (append-nil objects)) f)) in
    both_begin puts those q.0 p.0 q.1 p.1

begins_so : (s : Setting) (puts rest : List (List Object)) (batches : List (List Object)) (later entries all : List Item)
    → entries ≡ puts_in s puts → batches ≡ puts ++ rest → all ≡ puts_in s batches ++ later → all ≡ entries ++ (puts_in s rest ++ later)
begins_so s puts rest batches later entries all e f g =
    g ∙ ap (λ (l : List (List Object)). puts_in s l ++ later) f
    ∙ ap (λ (l : List Item). l ++ later) (puts_more s puts rest)
    ∙ append_assoc (puts_in s puts) (puts_in s rest) later
    ∙ ap (λ (l : List Item). l ++ (puts_in s rest ++ later)) (sym e)

-- what stops early stops so whatever follows
early_stays : (s : Setting) (which : Which) (place : ℕ) (front more : List ℕ) (entries : List Item) (stop : JobStop)
    → StopsEarly s which place front entries stop → Stays more stop → StopsEarly s which place (front ++ more) entries stop
early_stays s which place front more entries stop e stays = record {
  parts = e.parts;
  stops = stop_stays s.may_decline which place front more e.parts stop stays e.stops;
  puts = e.puts;
  waiting = e.waiting;
  cut = e.cut;
  made = e.made;
}

-- a section stops early in one way
one_early : (s : Setting) (which : Which) (place : ℕ) (bytes : List ℕ) (these those : List Item) (stop other : JobStop)
    → StopsEarly s which place bytes these stop → StopsEarly s which place bytes those other → (those ≡ these) × (other ≡ stop)
one_early s which place bytes these those stop other e f =
    let cut = one_open_cut (objects_among (read_of which bytes).items) f.waiting e.waiting f.puts e.puts
    (early_cut s which place bytes those other f) (early_cut s which place bytes these stop e) in (
      f.made ∙ ap (λ (l : List (List Object)). puts_in s l) cut ∙ sym e.made,
      one_stop s.may_decline which place bytes f.parts e.parts other stop f.stops e.stops,
    )

stop_so : (s : Setting) (offer : Offer) (which : Which) (sections : List Which) (held : Held) (place : ℕ) (front more : List ℕ)
    (entries all : List Item) (stop whole : JobStop) → StopsEarly s which place front entries stop
    → Runs s offer (which ∷ sections) held place (front ++ more) all whole → Stays more stop → (all ≡ entries) × (whole ≡ stop)
stop_so s offer which sections held place front more entries all stop whole e (inl f) stays =
    one_early s which place (front ++ more) entries all stop whole (early_stays s which place front more entries stop e stays) f
stop_so s offer which sections held place front more entries all stop whole e (inr r) stays =
    absurd (ends_or_stops s.may_decline offer which place (front ++ more) r.1 r.4.objects e.parts stop r.4.section
    (stop_stays s.may_decline which place front more e.parts stop stays e.stops))

early_first : (s : Setting) (offer : Offer) (which : Which) (sections : List Which) (held : Held) (place : ℕ) (front more : List ℕ)
    (entries all : List Item) (stop whole : JobStop) → StopsEarly s which place front entries stop
    → Runs s offer (which ∷ sections) held place (front ++ more) all whole → StopsFirst more entries all stop whole
early_first s offer which sections held place front more entries all stop whole e r =
    let p = puts_read s offer which sections held place (front ++ more) all whole r in
    let grows = parts_grow which front more in
    let objects : objects_among (read_of which (front ++ more)).items
    ≡ objects_among (read_of which front).items ++ objects_among grows.0 =
    ap (λ (l : List Part). objects_among l) grows.1 ∙ flat_map-append object_of_part (read_of which front).items grows.0 in
    let rest = fronts_are_put_first (objects_among (read_of which front).items) (objects_among grows.0) e.waiting e.puts p.0
    (early_cut s which place front entries stop e) (subst (λ (l : List Object). IsFrontCut l p.0) objects p.2) in (
      (puts_in s rest.0 ++ p.1, begins_so s e.puts rest.0 p.0 p.1 entries all e.made rest.1 p.3),
      stop_so s offer which sections held place front more entries all stop whole e r,
    )

-- both runs pass the sections, put these batches, and come to what is held then
pub record BothPass (s : Setting) (offer : Offer) (held : Held) (entries all : List Item) (stop whole : JobStop) : Type 0 where
  pub batches : List (List Object)
  pub on : Held
  pub place : ℕ
  pub last : List Item
  pub other : List Item
  pub ends : Runs s offer [] on place [] last stop
  pub others : Runs s offer [] on place [] other whole
  pub first : entries ≡ puts_in s batches ++ last
  pub all_are : all ≡ puts_in s batches ++ other
  pub told : IsTold held → IsTold on

abbrev pub Compares : Setting → Offer → Held → List ℕ → List Item → List Item → JobStop → JobStop → Type 0
Compares s offer held more entries all stop whole =
    StopsFirst more entries all stop whole ⊎ BothPass s offer held entries all stop whole

-- the same section is passed
record SamePass (s : Setting) (one other : Offer) (which : Which) (more rest behind : List ℕ) (new next : Held) (puts these : List Item) : Type 0 where
  head : head_with one which ≡ head_with other which
  behind_is : behind ≡ rest ++ more
  held : next ≡ new
  same : these ≡ puts

same_pass : (s : Setting) (one other : Offer) (which : Which) (front more rest behind : List ℕ) (old new next : Held) (puts these : List Item)
    → Passes s one which front rest old new puts → Passes s other which (front ++ more) behind old next these
    → SamePass s one other which more rest behind new next puts these
same_pass s one other which front more rest behind old new next puts these p q =
    let t = one_section which (front ++ more) (head_with one which) (head_with other which) p.objects q.objects (rest ++ more) behind
    (section_grows which front more rest (head_with one which) p.objects p.section) q.section in
    let cut = one_cut q.objects q.batches p.batches q.cut (subst (λ (l : List Object). IsCut l p.batches) t.1 p.cut) in
    record {
      head = t.0;
      behind_is = sym t.2;
      held = q.held ∙ ap (λ (l : List Object). let h : Held = record { state = old.state; objects = put_told old.objects l } in h) (sym t.1) ∙ sym p.held;
      same = q.made ∙ ap (λ (l : List (List Object)). puts_in s l) cut ∙ sym p.made;
    }

-- what is told is told behind a put
told_behind : (o : Option ObjectMap) (objects : List Object) → (o ≡ None → ⊥) → put_told o objects ≡ None → ⊥
told_behind None objects t e = t refl
told_behind (Some x) objects t e = not_none (λ oid. x oid) e
  where
    not_none : (y : ObjectMap) → put_told (Some x) objects ≡ None → ⊥
    not_none y f = cc f

told_passed : (s : Setting) (offer : Offer) (which : Which) (front rest : List ℕ) (old new : Held) (puts : List Item)
    → Passes s offer which front rest old new puts → IsTold old → IsTold new
told_passed s offer which front rest old new puts p t =
    subst (λ (h : Held). IsTold h) (sym p.held) (told_behind old.objects p.objects t)

place_grows : (place : ℕ) (front more rest : List ℕ) → place_behind place (front ++ more) (rest ++ more) ≡ place_behind place front rest
place_grows place front more rest =
    let size = length-append front more in
    let left = length-append rest more in
    let e : length (front ++ more) - length (rest ++ more) ≡ length front - length rest = omega (arith, size, left) in
    ap (λ (n : ℕ). place + n) e

-- the run behind a section that both pass
behind_same : (s : Setting) (offer : Offer) (sections : List Which) (place : ℕ) (front more rest behind : List ℕ) (new next : Held)
    (later : List Item) (whole : JobStop) → behind ≡ rest ++ more → next ≡ new
    → Runs s offer sections next (place_behind place (front ++ more) behind) behind later whole
    → Runs s offer sections new (place_behind place front rest) (rest ++ more) later whole
behind_same s offer sections place front more rest behind new next later whole e f r =
    subst (λ (n : ℕ). Runs s offer sections new n (rest ++ more) later whole) (place_grows place front more rest)
    (subst (λ (l : List ℕ). Runs s offer sections new (place_behind place (front ++ more) l) l later whole) e
    (subst (λ (h : Held). Runs s offer sections h (place_behind place (front ++ more) behind) behind later whole) f r))

puts_behind : (s : Setting) (xs ys : List (List Object)) (puts later last entries : List Item)
    → entries ≡ puts ++ later → puts ≡ puts_in s xs → later ≡ puts_in s ys ++ last → entries ≡ puts_in s (xs ++ ys) ++ last
puts_behind s xs ys puts later last entries e f g =
    e ∙ ap (λ (l : List Item). l ++ later) f ∙ ap (λ (l : List Item). puts_in s xs ++ l) g
    ∙ sym (append_assoc (puts_in s xs) (puts_in s ys) last)
    ∙ ap (λ (l : List Item). l ++ last) (sym (puts_more s xs ys))

pub begin_behind : (puts these later others entries all : List Item) → entries ≡ puts ++ later → these ≡ puts → all ≡ these ++ others
    → BeginWith others later → BeginWith all entries
begin_behind puts these later others entries all e f g b = (
  b.0,
  g ∙ ap (λ (l : List Item). l ++ others) f ∙ ap (λ (l : List Item). puts ++ l) b.1 ∙ sym (append_assoc puts later b.0)
      ∙ ap (λ (l : List Item). l ++ b.0) (sym e),
)

compares_behind : (s : Setting) (offer : Offer) (old new : Held) (more : List ℕ) (batches : List (List Object))
    (puts these later others entries all : List Item) (stop whole : JobStop) → (IsTold old → IsTold new)
    → puts ≡ puts_in s batches → these ≡ puts → entries ≡ puts ++ later → all ≡ these ++ others
    → Compares s offer new more later others stop whole → Compares s offer old more entries all stop whole
compares_behind s offer old new more batches puts these later others entries all stop whole told made same e f (inl x) =
    inl (begin_behind puts these later others entries all e same f x.0, λ stays. let r = x.1 stays in (same_behind r.0, r.1))
  where
    same_behind : others ≡ later → all ≡ entries
    same_behind g = f ∙ ap (λ (l : List Item). l ++ others) same ∙ ap (λ (l : List Item). puts ++ l) g ∙ sym e
compares_behind s offer old new more batches puts these later others entries all stop whole told made same e f (inr x) = inr (record {
  batches = batches ++ x.batches;
  on = x.on;
  place = x.place;
  last = x.last;
  other = x.other;
  ends = x.ends;
  others = x.others;
  first = puts_behind s batches x.batches puts later x.last entries e made x.first;
  all_are = puts_behind s batches x.batches these others x.other all f (same ∙ made) x.all_are;
  told = λ t. x.told (told t);
})

-- with one offer
runs_compare : (s : Setting) (offer : Offer) (sections : List Which) (held : Held) (place : ℕ) (front more : List ℕ) (entries all : List Item)
    (stop whole : JobStop) → Runs s offer sections held place front entries stop → Runs s offer sections held place (front ++ more) all whole
    → Compares s offer held more entries all stop whole
runs_compare s offer [] held place front more entries all stop whole r q = inr (record {
  batches = [];
  on = held;
  place = place;
  last = entries;
  other = all;
  ends = r;
  others = q;
  first = refl;
  all_are = refl;
  told = λ t. t;
})
runs_compare s offer (which ∷ sections) held place front more entries all stop whole (inl e) q =
    inl (early_first s offer which sections held place front more entries all stop whole e q)
runs_compare s offer (which ∷ sections) held place front more entries all stop whole (inr r) (inl e) =
    absurd (ends_or_stops s.may_decline offer which place (front ++ more) (r.1 ++ more) r.4.objects e.parts whole
    (section_grows which front more r.1 (head_with offer which) r.4.objects r.4.section) e.stops)
runs_compare s offer (which ∷ sections) held place front more entries all stop whole (inr r) (inr q) =
    let same = same_pass s offer offer which front more r.1 q.1 held r.0 q.0 r.2 q.2 r.4 q.4 in
    compares_behind s offer held r.0 more r.4.batches r.2 q.2 r.3 q.3 entries all stop whole
    (told_passed s offer which front r.1 held r.0 r.2 r.4) r.4.made same.same r.6 q.6
    (runs_compare s offer sections r.0 (place_behind place front r.1) r.1 more r.3 q.3 stop whole r.5
    (behind_same s offer sections place front more r.1 q.1 r.0 q.0 q.3 whole same.behind_is same.held q.5))

one_offer : (one other : Offer) → part.Offer one ≡ part.Offer other → one ≡ other
one_offer one other e = cc e

-- of all sections, of which the first has the offer
pub jobs_compare : (s : Setting) (one other : Offer) (held : Held) (front more : List ℕ) (entries all : List Item)
    (stop whole : JobStop) → Runs s one all_sections held 0 front entries stop → Runs s other all_sections held 0 (front ++ more) all whole
    → Compares s one held more entries all stop whole
jobs_compare s one other held front more entries all stop whole (inl e) q =
    inl (early_first s other Identity (Sigs ∷ Tips ∷ []) held 0 front more entries all stop whole e q)
jobs_compare s one other held front more entries all stop whole (inr r) (inl e) =
    absurd (ends_or_stops s.may_decline one Identity 0 (front ++ more) (r.1 ++ more) r.4.objects e.parts whole
    (section_grows Identity front more r.1 (head_with one Identity) r.4.objects r.4.section) e.stops)
jobs_compare s one other held front more entries all stop whole (inr r) (inr q) =
    let same = same_pass s one other Identity front more r.1 q.1 held r.0 q.0 r.2 q.2 r.4 q.4 in
    compares_behind s one held r.0 more r.4.batches r.2 q.2 r.3 q.3 entries all stop whole
    (told_passed s one Identity front r.1 held r.0 r.2 r.4) r.4.made same.same r.6 q.6
    (runs_compare s one (Sigs ∷ Tips ∷ []) r.0 (place_behind 0 front r.1) r.1 more r.3 q.3 stop whole r.5
    (behind_same s one (Sigs ∷ Tips ∷ []) 0 front more r.1 q.1 r.0 q.0 q.3 whole same.behind_is same.held
    (subst (λ (o : Offer). Runs s o (Sigs ∷ Tips ∷ []) q.0 (place_behind 0 (front ++ more) q.1) q.1 q.3 whole) (sym (one_offer one other same.head)) q.5)))
