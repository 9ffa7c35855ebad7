-- What is read of a section is what its bytes spell, and a section is read in one way.
use Rattle.std.proofs.Common.{◌≡◌, ℕ, zero, suc, ◌+◌, ◌-◌, ◌<◌, ◌≤◌, Bool, true, false, List, [], ◌∷◌, ◌++◌, length, take, drop, map, slice_index, get_or, refl, sym, ap, subst, ◌∙◌, arith, append_assoc, append-nil, length-append, inl, inr, ⊎_elim}
use Rattle.std.specs.Prelude.{Option, None, Some, ◌⊎◌}
use Rattle.std.specs.List.{AllByRecursion, flat_map}
use Rattle.std.proofs.lemmas.Bool.{cases_lt}
use Rattle.std.proofs.lemmas.List.{append_cancel_right, get_or-append-add}
use Rattle.std.proofs.Math.ListN.{get_or-append, get_or-eq_default}
use Rattle.hex.specs.Hex.{IsBytes}
use Rattle.git_object.specs.declared.kind.Kind.{Kind}
use Rattle.rad_base.specs.declared.names.Nid.{Nid}
use Rattle.rad_base.specs.declared.names.Oid.{Oid}
use Rattle.unit_reader.specs.Units.{Verdict, Begins, Ends, Breaks, AllBegin, FrontsBegin, Place, Reading, At, Broken, behind, only, reading}
use Rattle.unit_reader.specs.Spelling.{BringsOn, Spells, SpellsPlace, only_text}
use Rattle.unit_reader.proofs.Led.{Leads, led}
use Rattle.unit_reader.proofs.Spelled.{spelled}
use Rattle.fetch_wire.specs.Judging.{Said, first_unit, is_nothing, is_over, judge, judge_next}
use Rattle.fetch_wire.specs.SectionReadings.{AreObjects, AreParts, EndsAs, ReadsAs, Tells, begun_text, read_of}
use Rattle.fetch_wire.specs.Sections.{IsCode, IsHead, IsObject, Object, Sections, as_part, part_text, parts_of}
use Rattle.fetch_wire.specs.declared.fault.Break.{Break}
use Rattle.fetch_wire.specs.declared.part.Part.{Part}
use Rattle.fetch_wire.specs.declared.part.Part.TheVariants as part
use Rattle.fetch_wire.specs.declared.part.Which.{Which}
use Rattle.fetch_wire.specs.declared.part.Which.TheVariants as which
use Rattle.fetch_wire.specs.declared.units.Next.{Next}
use Rattle.fetch_wire.specs.declared.units.Next.TheVariants as next
use Rattle.fetch_wire.specs.declared.units.SectionUnits.{SectionUnits}
use Rattle.fetch_wire.proofs.ObjectTexts.{told_part}
use Rattle.fetch_wire.proofs.OfferTexts.{told_front, told_remote}
use Rattle.fetch_wire.proofs.OffersRead.{offer_read}
use Rattle.fetch_wire.proofs.SectionsRead.{ReadsOn, ReadsToEnd, at_end, objects_read, read_behind, refusal_read, sigs_read, tips_read, unit_at}
use Rattle.fetch_wire.proofs.UnitTexts.{Brings, ComeFrom, IsGood, IsGoodUnit, Told, told_content}

-- what a unit of a good state brings
told_next : (p : ℕ) (n : Next) (id : Oid) (remotes : List (Nid × Oid)) (unit : List ℕ) → IsGoodUnit n id remotes → IsBytes unit
    → Told (unit_at p n id remotes) unit (judge_next n (unit_at p n id remotes) unit)
told_next p (next.Head w) id remotes unit good fits =
    subst (λ (rs : List (Nid × Oid)). Told (unit_at p (next.Head w) id rs) unit (judge_next (next.Head w) (unit_at p (next.Head w) id rs) unit)) (sym good) (told_front w p id unit fits)
told_next p (next.Remote left) id remotes unit good fits = told_remote p left id remotes unit good fits
told_next p next.Part id remotes unit good fits = told_part p id remotes unit fits
told_next p (next.Content kind count) id remotes unit good fits = told_content p kind count id remotes unit good fits
told_next p next.Nothing id remotes unit good fits = tt

told : (s : SectionUnits) (unit : List ℕ) → IsGood s → IsBytes unit → Told s unit (judge s unit)
unfolding judge
told s unit good fits = told_next s.place s.next s.id s.remotes unit good fits

brought : (s t : SectionUnits) (unit : List ℕ) (item : Option Part) → IsGood s → IsBytes unit → judge s unit ≡ Ends item t → Brings s unit item t
brought s t unit item good fits is = subst (λ (v : Said). Told s unit v) is (told s unit good fits)

brings : BringsOn judge begun_text part_text IsBytes IsGood
brings s t unit item good fits some fronts is = let b = brought s t unit item good fits is in (b.text, b.good)

-- both parts of bytes are bytes
pub both_fit : (a b : List ℕ) → IsBytes (a ++ b) → IsBytes a × IsBytes b
both_fit a b fits = (front, back)
  where
    front : IsBytes a
    front i = elim (cases_lt i (length a)) [
      | inl below ↦ rw (← get_or-append a b 0 i below) (fits i)
      | inr high ↦ rw (get_or-eq_default a 0 high) (omega arith)
    ]

    back : IsBytes b
    back i = rw (← get_or-append-add a b i 0) (fits (length a + i))

-- the parts that a reading gives, by where it stops
abbrev pub Comes : SectionUnits → List Part → Place SectionUnits Break → Type 0
Comes s parts (At t held rest) = ComeFrom s.next parts (is_over t) × ((rest ≡ []) ⊎ (is_over t ≡ true))
Comes s parts (Broken broken) = ComeFrom s.next parts false

none_come : (n : Next) → ComeFrom n [] (is_nothing n)
none_come (next.Head w) = refl
none_come (next.Remote left) = refl
none_come next.Part = refl
none_come (next.Content kind count) = refl
none_come next.Nothing = (refl, refl)

none_broken : (n : Next) → is_nothing n ≡ false → ComeFrom n [] false
none_broken (next.Head w) live = refl
none_broken (next.Remote left) live = refl
none_broken next.Part live = refl
none_broken (next.Content kind count) live = refl
none_broken next.Nothing live = cc live

comes_behind : (s t : SectionUnits) (item : Option Part) (parts : List Part) (p : Place SectionUnits Break)
    → ((parts : List Part) (over : Bool) → ComeFrom t.next parts over → ComeFrom s.next (only item ++ parts) over) → Comes t parts p → Comes s (only item ++ parts) p
comes_behind s t item parts (At u held rest) on come = (on parts (is_over u) come.0, come.1)
comes_behind s t item parts (Broken broken) on come = on parts false come

leads : Leads is_over judge Comes IsBytes IsGood
leads = record {
  stops = λ s held rest good begun ends. (none_come s.next, ends);
  breaks = λ s fault good live. none_broken s.next live;
  on = λ s t unit item parts p good fits some fronts is come.
      let b = brought s t unit item good fits is in
      (comes_behind s t item parts p b.parts (come b.good), b.good);
}

-- nothing is held behind the end
nothing_held : (t : SectionUnits) (held : List ℕ) → is_over t ≡ true → AllBegin judge t held → held ≡ []
unfolding judge
nothing_held t [] over begun = refl
nothing_held t (b ∷ held) over begun = absurd (never t.place t.next t.id t.remotes (b ∷ []) over (begun 1 (omega arith) (omega arith)))
  where
    never : (p : ℕ) (n : Next) (id : Oid) (remotes : List (Nid × Oid)) (unit : List ℕ) → is_nothing n ≡ true → judge (unit_at p n id remotes) unit ≡ Begins → ⊥
    never p (next.Head w) id remotes unit over is = cc over
    never p (next.Remote left) id remotes unit over is = cc over
    never p next.Part id remotes unit over is = cc over
    never p (next.Content kind count) id remotes unit over is = cc over
    never p next.Nothing id remotes unit over is = cc is

tells : (w : Which) (bytes : List ℕ) (parts : List Part) (p : Place SectionUnits Break) → Comes (first_unit w) parts p → SpellsPlace judge begun_text bytes (flat_map part_text parts) p → Tells w bytes parts p
tells w bytes parts (At t held rest) come spells = (come.0, spells.0, ⊎_elim (λ none. inl none) (λ over. inr (over, nothing_held t held over spells.1)) come.1)
tells w bytes parts (Broken broken) come spells = (come, spells)

-- what is read is spelled
pub read_is_spelled : (w : Which) (bytes : List ℕ) → IsBytes bytes → Tells w bytes (read_of w bytes).items (read_of w bytes).place
read_is_spelled w bytes fits =
    tells w bytes (read_of w bytes).items (read_of w bytes).place
    (led leads both_fit (first_unit w) [] bytes refl fits (λ k some within. absurd (omega arith)))
    (spelled is_over judge begun_text part_text IsBytes IsGood both_fit brings (first_unit w) [] bytes refl fits (λ k some within. absurd (omega arith)))

-- the head of a section is read
head_reads : (w : Which) (head : Part) → IsHead w head → ReadsOn (first_unit w) (part_text head) head next.Part
head_reads which.Identity (part.Offer offer) is = offer_read 0 (first_unit which.Identity).id offer is
head_reads which.Sigs part.SigsHead is = record { place = 1; id = (first_unit which.Sigs).id; on = λ rest. sigs_read 0 (first_unit which.Sigs).id rest }
head_reads which.Tips part.TipsHead is = record { place = 1; id = (first_unit which.Tips).id; on = λ rest. tips_read 0 (first_unit which.Tips).id rest }
head_reads which.Identity part.SigsHead is = absurd is
head_reads which.Identity part.TipsHead is = absurd is
head_reads which.Identity (part.Object kind content) is = absurd is
head_reads which.Identity part.End is = absurd is
head_reads which.Identity (part.Refused code) is = absurd is
head_reads which.Sigs (part.Offer offer) is = absurd is
head_reads which.Sigs part.TipsHead is = absurd is
head_reads which.Sigs (part.Object kind content) is = absurd is
head_reads which.Sigs part.End is = absurd is
head_reads which.Sigs (part.Refused code) is = absurd is
head_reads which.Tips (part.Offer offer) is = absurd is
head_reads which.Tips part.SigsHead is = absurd is
head_reads which.Tips (part.Object kind content) is = absurd is
head_reads which.Tips part.End is = absurd is
head_reads which.Tips (part.Refused code) is = absurd is

-- a section is read as its parts
pub section_reads : (w : Which) (bytes : List ℕ) (head : Part) (objects : List Object) (rest : List ℕ) → Sections bytes w head objects rest → ReadsAs w bytes (parts_of head objects) rest
section_reads w bytes head objects rest is =
    let reads = read_behind (first_unit w) (part_text head) (flat_map part_text (map as_part objects ++ part.End ∷ [])) head (map as_part objects ++ part.End ∷ [])
    (head_reads w head is.is_head) (λ p id. objects_read objects is.each p id) in (
      unit_at reads.place next.Nothing reads.id [],
      refl,
      ap (λ (xs : List ℕ). reading is_over judge (first_unit w) [] xs) is.text
          ∙ (reads.on rest ∙ (ap (λ (r : Reading SectionUnits Part Break). behind (parts_of head objects) r) (at_end reads.place reads.id rest)
          ∙ ap (λ (xs : List Part). record { items = xs; place = At (unit_at reads.place next.Nothing reads.id []) [] rest }) (append-nil (parts_of head objects)))),
    )

pub refusal_reads : (w : Which) (code : ℕ) (rest : List ℕ) → IsCode code → ReadsAs w (82 ∷ code ∷ rest) (part.Refused code ∷ []) rest
refusal_reads w code rest is = (
  unit_at 2 next.Nothing (first_unit w).id [],
  refl,
  refusal_read w 0 code (first_unit w).id rest is
      ∙ ap (λ (r : Reading SectionUnits Part Break). behind (part.Refused code ∷ []) r) (at_end 2 (first_unit w).id rest),
)

-- objects are those of their parts
one_list : (xs ys : List Object) → map as_part xs ≡ map as_part ys → xs ≡ ys
one_list [] [] e = refl
one_list [] (y ∷ ys) e = cc e
one_list (x ∷ xs) [] e = cc e
one_list (x ∷ xs) (y ∷ ys) e =
    let first : as_part x ≡ as_part y = cc e in
    let kind : x.0 ≡ y.0 = cc first in
    let content : x.1 ≡ y.1 = cc first in
    let others : map as_part xs ≡ map as_part ys = cc e in
    let rest : xs ≡ ys = one_list xs ys others in
    let here : x ≡ y = ap (λ (k : Kind). (k, x.1)) kind ∙ ap (λ (c : List ℕ). (y.0, c)) content in
    ap (λ (o : Object). o ∷ xs) here ∙ ap (λ (os : List Object). y ∷ os) rest

-- a reading up to an end
abbrev ended : List Part → SectionUnits → List ℕ → Reading SectionUnits Part Break
ended parts t rest = record { items = parts; place = At t [] rest }

one_end : (xs ys : List Part) (t u : SectionUnits) (r q : List ℕ) → ended xs t r ≡ ended ys u q → (xs ≡ ys) × (r ≡ q)
one_end xs ys t u r q e =
    let places = ap (λ (x : Reading SectionUnits Part Break). x.place) e in
    (ap (λ (x : Reading SectionUnits Part Break). x.items) e, cc places)

one_head : (a b : Part) (xs ys : List Part) → a ∷ xs ≡ b ∷ ys → (a ≡ b) × (xs ≡ ys)
one_head a b xs ys e = (cc e, cc e)

-- no section begins another
pub one_section : (w : Which) (bytes : List ℕ) (a b : Part) (xs ys : List Object) (r q : List ℕ) → Sections bytes w a xs r → Sections bytes w b ys q
    → (a ≡ b) × (xs ≡ ys) × (r ≡ q)
one_section w bytes a b xs ys r q one other =
    let f = section_reads w bytes a xs r one in
    let g = section_reads w bytes b ys q other in
    let same = one_end (parts_of a xs) (parts_of b ys) f.0 g.0 r q (sym f.2 ∙ g.2) in
    let parts = one_head a b (map as_part xs ++ part.End ∷ []) (map as_part ys ++ part.End ∷ []) same.0 in
    (parts.0, one_list xs ys (append_cancel_right (map as_part xs) (map as_part ys) (part.End ∷ []) parts.1), same.1)

-- objects up to the end word
ends_in : (parts : List Part) → AreObjects parts true → (objects : List Object) × AllByRecursion IsObject objects × (parts ≡ map as_part objects ++ part.End ∷ [])
ends_in [] are = cc are
ends_in (p ∷ parts) (inr end) = ([], tt, ap (λ (x : Part). x ∷ parts) end.0 ∙ ap (λ (xs : List Part). part.End ∷ xs) end.1)
ends_in (part.Object kind content ∷ parts) (inl is) =
    let rest = ends_in parts is.1 in
    ((kind, content) ∷ rest.0, (is.0, rest.1), ap (λ (xs : List Part). part.Object kind content ∷ xs) rest.2)
ends_in (part.Offer offer ∷ parts) (inl is) = absurd is.0
ends_in (part.SigsHead ∷ parts) (inl is) = absurd is.0
ends_in (part.TipsHead ∷ parts) (inl is) = absurd is.0
ends_in (part.End ∷ parts) (inl is) = absurd is.0
ends_in (part.Refused code ∷ parts) (inl is) = absurd is.0

-- the parts up to the end are those of a section, or a refusal
ends_as : (w : Which) (bytes : List ℕ) (parts : List Part) (rest : List ℕ) → AreParts w parts true → bytes ≡ flat_map part_text parts ++ rest → EndsAs w bytes parts rest
ends_as w bytes [] rest are text = cc are
ends_as w bytes (p ∷ parts) rest (inl is) text =
    let objects = ends_in parts is.1 in
    let same : p ∷ parts ≡ parts_of p objects.0 = ap (λ (xs : List Part). p ∷ xs) objects.2 in
    inl (p, objects.0, record { is_head = is.0; each = objects.1; text = text ∙ ap (λ (xs : List Part). flat_map part_text xs ++ rest) same }, same)
ends_as w bytes (part.Refused code ∷ parts) rest (inr is) text =
    let none : part.Refused code ∷ parts ≡ part.Refused code ∷ [] = ap (λ (xs : List Part). part.Refused code ∷ xs) is.1 in
    inr (code, is.0, text ∙ ap (λ (xs : List Part). flat_map part_text xs ++ rest) none, none)
ends_as w bytes (part.Offer offer ∷ parts) rest (inr is) text = absurd is.0
ends_as w bytes (part.SigsHead ∷ parts) rest (inr is) text = absurd is.0
ends_as w bytes (part.TipsHead ∷ parts) rest (inr is) text = absurd is.0
ends_as w bytes (part.Object kind content ∷ parts) rest (inr is) text = absurd is.0
ends_as w bytes (part.End ∷ parts) rest (inr is) text = absurd is.0

-- behind the end nothing of a part is begun
begun_none : (p : ℕ) (n : Next) (id : Oid) (remotes : List (Nid × Oid)) → is_nothing n ≡ true → begun_text (unit_at p n id remotes) ≡ []
begun_none p (next.Head w) id remotes over = cc over
begun_none p (next.Remote left) id remotes over = cc over
begun_none p next.Part id remotes over = cc over
begun_none p (next.Content kind count) id remotes over = cc over
begun_none p next.Nothing id remotes over = refl

-- what is read up to an end is a section, or a refusal
pub whole_is_spelled : (w : Which) (bytes : List ℕ) (parts : List Part) (rest : List ℕ) → IsBytes bytes → ReadsAs w bytes parts rest → EndsAs w bytes parts rest
whole_is_spelled w bytes parts rest fits reads =
    let told = subst (λ (r : Reading SectionUnits Part Break). Tells w bytes r.items r.place) reads.2 (read_is_spelled w bytes fits) in
    let begun = begun_none reads.0.place reads.0.next reads.0.id reads.0.remotes reads.1 in
    ends_as w bytes parts rest (subst (λ (b : Bool). AreParts w parts b) reads.1 told.0)
    (told.1 ∙ ap (λ (xs : List ℕ). flat_map part_text parts ++ (xs ++ rest)) begun)
