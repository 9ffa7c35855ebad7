-- What a reader of a section has read, and how long the contents among it are.
use Rattle.std.proofs.Common.{◌≡◌, ◌+◌, ℕ, List, [], ◌∷◌, ◌++◌, Bool, true, false, inl, inr, length, take, refl, sym, ap, ◌∙◌, subst, arith, get_or, ◌<◌, ◌-◌, zero, suc}
use Rattle.std.specs.Prelude.{Err}
use Rattle.std.proofs.lemmas.List.{append-nil, get_or-append-add, get_or-take, get_or_append_left, length-take, take_all}
use Rattle.std.proofs.lemmas.Bool.{cases_lt}
use Rattle.std.proofs.Math.ListN.{get_or-eq_default}
use Rattle.std.proofs.lemmas.List.Concat.{flat_map-append}
use Rattle.hex.specs.Hex.{IsBytes}
use Rattle.git_object.specs.declared.kind.Kind.{Kind}
use Rattle.repo_entries.specs.Batches.{AreContents}
use Rattle.unit_reader.specs.Units.{At, Broken, Place, Reading, behind, reading}
use Rattle.fetch_wire.specs.Judging.{is_over, judge}
use Rattle.fetch_wire.specs.SectionReaders.{FeedsSection, HasRead, before_of, held_of, unit_of}
use Rattle.fetch_wire.specs.SectionReadings.{AreObjects, AreParts, Tells, read_of}
use Rattle.fetch_wire.specs.Sections.{IsHead}
use Rattle.fetch_wire.specs.declared.fault.Break.{Break}
use Rattle.fetch_wire.specs.declared.fault.SectionFault.{SectionFault}
use Rattle.fetch_wire.specs.declared.fault.SectionFault.TheVariants as fault
use Rattle.fetch_wire.specs.declared.part.Part.{Part}
use Rattle.fetch_wire.specs.declared.part.Part.TheVariants as part
use Rattle.fetch_wire.specs.declared.part.Which.{Which}
use Rattle.fetch_wire.specs.declared.part.Which.TheVariants as which
use Rattle.fetch_wire.specs.declared.section_reader.SectionReader.{SectionReader}
use Rattle.fetch_wire.specs.declared.units.SectionUnits.{SectionUnits}
use Rattle.fetch_wire.proofs.SectionsSpelled.{read_is_spelled}
use Rattle.fetch_stages.specs.Sections.{GivesParts, ReadsToEnd, object_of_part, objects_among}
use Rattle.fetch_stages.proofs.Parts.{contents_before}

-- bytes behind bytes
pub bytes_more : (a b : List ℕ) → IsBytes a → IsBytes b → IsBytes (a ++ b)
bytes_more a b f g i = elim (cases_lt i (length a)) [
  | inl below ↦ rw (get_or_append_left a b 0 i below) (f i)
  | inr high ↦ by_rest (i - length a) (omega (arith, high))
]
  where
    by_rest : (k : ℕ) → i ≡ length a + k → get_or (a ++ b) i 0 < 256
    by_rest k e = rw (e, get_or-append-add a b k 0) (g k)

-- the first of some bytes
pub bytes_front : (n : ℕ) (a : List ℕ) → IsBytes a → IsBytes (take n a)
bytes_front n a f i = elim (cases_lt i n) [
  | inl below ↦ rw (get_or-take n a i 0 below) (f i)
  | inr high ↦ elim (cases_lt i (length (take n a))) [
    | inl inside ↦ absurd (omega (arith, length-take n a))
    | inr outside ↦ rw (get_or-eq_default (take n a) 0 outside) (omega arith)
  ]
]

no_object_ends : (p : Part) (parts : List Part) → p ≡ part.End → parts ≡ [] → AreContents (objects_among (p ∷ parts))
no_object_ends p parts e f = rw (e, f) tt

contents_of_objects : (parts : List Part) (over : Bool) → AreObjects parts over → AreContents (objects_among parts)
contents_of_objects [] over h = tt
contents_of_objects (p ∷ parts) over (inr h) = no_object_ends p parts h.0 h.1
contents_of_objects (part.Object kind content ∷ parts) over (inl h) = (h.0.1, contents_of_objects parts over h.1)
contents_of_objects (part.Offer offer ∷ parts) over (inl h) = absurd h.0
contents_of_objects (part.SigsHead ∷ parts) over (inl h) = absurd h.0
contents_of_objects (part.TipsHead ∷ parts) over (inl h) = absurd h.0
contents_of_objects (part.End ∷ parts) over (inl h) = absurd h.0
contents_of_objects (part.Refused code ∷ parts) over (inl h) = absurd h.0

no_head : (w : Which) (kind : Kind) (content : List ℕ) → IsHead w (part.Object kind content) → ⊥
no_head which.Identity kind content h = h
no_head which.Sigs kind content h = h
no_head which.Tips kind content h = h

refusal_alone : (code : ℕ) (parts : List Part) → parts ≡ [] → AreContents (objects_among (part.Refused code ∷ parts))
refusal_alone code parts e = rw e tt

contents_of_parts : (w : Which) (parts : List Part) (over : Bool) → AreParts w parts over → AreContents (objects_among parts)
contents_of_parts w [] over h = tt
contents_of_parts w (part.Object kind content ∷ parts) over (inl h) = absurd (no_head w kind content h.0)
contents_of_parts w (part.Offer offer ∷ parts) over (inl h) = contents_of_objects parts over h.1
contents_of_parts w (part.SigsHead ∷ parts) over (inl h) = contents_of_objects parts over h.1
contents_of_parts w (part.TipsHead ∷ parts) over (inl h) = contents_of_objects parts over h.1
contents_of_parts w (part.End ∷ parts) over (inl h) = contents_of_objects parts over h.1
contents_of_parts w (part.Refused code ∷ parts) over (inl h) = contents_of_objects parts over h.1
contents_of_parts w (part.Refused code ∷ parts) over (inr h) = refusal_alone code parts h.1
contents_of_parts w (part.Object kind content ∷ parts) over (inr h) = absurd h.0
contents_of_parts w (part.Offer offer ∷ parts) over (inr h) = absurd h.0
contents_of_parts w (part.SigsHead ∷ parts) over (inr h) = absurd h.0
contents_of_parts w (part.TipsHead ∷ parts) over (inr h) = absurd h.0
contents_of_parts w (part.End ∷ parts) over (inr h) = absurd h.0

contents_told : (w : Which) (bytes : List ℕ) (parts : List Part) (place : Place SectionUnits Break)
    → Tells w bytes parts place → AreContents (objects_among parts)
contents_told w bytes parts (At units held rest) h = contents_of_parts w parts (is_over units) h.0
contents_told w bytes parts (Broken broken) h = contents_of_parts w parts false h.0

-- the contents among what is read are within their limit
contents_read : (w : Which) (bytes : List ℕ) (r : Reading SectionUnits Part Break) → IsBytes bytes
    → read_of w bytes ≡ r → AreContents (objects_among r.items)
contents_read w bytes r fits e =
    subst (λ (x : Reading SectionUnits Part Break). AreContents (objects_among x.items)) e
    (contents_told w bytes (read_of w bytes).items (read_of w bytes).place (read_is_spelled w bytes fits))

contents_last : (parts more : List Part) → AreContents (objects_among (parts ++ more)) → AreContents (objects_among more)
contents_last parts more h =
    contents_before (objects_among parts) (objects_among more)
    (subst (λ (l : List _). AreContents l) (flat_map-append object_of_part parts more) h)

-- what the bytes that a reader has read give
pub reads_so_far : (w : Which) (fed : List ℕ) (parts : List Part) (reader : SectionReader) → HasRead w fed parts reader
    → read_of w fed ≡ record { items = parts; place = At (unit_of reader) (held_of reader) [] }
reads_so_far w fed parts reader h =
    let r = h.read [] in
    ap (λ (l : List ℕ). read_of w l) (sym (append-nil fed)) ∙ r
    ∙ ap (λ (l : List Part). record { items = l; place = At (unit_of reader) (held_of reader) [] }) (append-nil parts)

-- the contents among the parts that a piece gave
pub contents_fed : (w : Which) (fed more : List ℕ) (parts got : List Part) (reader : SectionReader) → IsBytes fed → IsBytes more
    → HasRead w (fed ++ more) (parts ++ got) reader → AreContents (objects_among got)
contents_fed w fed more parts got reader f g h =
    contents_last parts got
    (contents_read w (fed ++ more) (record { items = parts ++ got; place = At (unit_of reader) (held_of reader) [] }) (bytes_more fed more f g)
    (reads_so_far w (fed ++ more) (parts ++ got) reader h))

-- the contents among the parts before a break
pub contents_before_break : (w : Which) (fed piece : List ℕ) (parts got : List Part) (broken : Break) → IsBytes fed → IsBytes piece
    → read_of w (fed ++ piece) ≡ record { items = parts ++ got; place = Broken broken } → AreContents (objects_among got)
contents_before_break w fed piece parts got broken f g e =
    contents_last parts got (contents_read w (fed ++ piece) (record { items = parts ++ got; place = Broken broken }) (bytes_more fed piece f g) e)

-- the parts that what a reader has read gives
pub gives_so_far : (w : Which) (fed : List ℕ) (parts : List Part) (reader : SectionReader) → HasRead w fed parts reader
    → GivesParts w fed parts
gives_so_far w fed parts reader h = (At (unit_of reader) (held_of reader) [], reads_so_far w fed parts reader h, refl)

-- a broken unit, behind the same parts
pub broken_at : (w : Which) (fed piece : List ℕ) (parts before got : List Part) (broken : Break) → got ≡ before
    → read_of w (fed ++ piece) ≡ record { items = parts ++ before; place = Broken broken }
    → read_of w (fed ++ piece) ≡ record { items = parts ++ got; place = Broken broken }
broken_at w fed piece parts before got broken e h = rw e h

-- the parts before a broken unit, all of the piece used
pub gives_before_break : (w : Which) (fed piece : List ℕ) (parts before got : List Part) (broken : Break) → got ≡ before
    → read_of w (fed ++ piece) ≡ record { items = parts ++ before; place = Broken broken }
    → GivesParts w (fed ++ take (length piece) piece) (parts ++ got)
gives_before_break w fed piece parts before got broken e h = (
  Broken broken,
  ap (λ (l : List ℕ). read_of w (fed ++ l)) (take_all (length piece) piece (omega arith))
      ∙ broken_at w fed piece parts before got broken e h,
  tt,
)

-- what is read where a piece shows a break
pub fed_broken : (w : Which) (fed : List ℕ) (parts : List Part) (piece : List ℕ) (reader : SectionReader)
    (why : SectionFault) (broken : Break) → why ≡ fault.Bad broken → FeedsSection w fed parts piece reader (Err why)
    → read_of w (fed ++ piece) ≡ record { items = parts ++ before_of reader; place = Broken broken }
fed_broken w fed parts piece reader why broken e h =
    let was : FeedsSection w fed parts piece reader (Err (fault.Bad broken)) =
    subst (λ (f : SectionFault). FeedsSection w fed parts piece reader (Err f)) e h in was.1

over_uses_none : (units : SectionUnits) (held rest : List ℕ) (over : Bool) → is_over units ≡ over → over ≡ true
    → reading is_over judge units held rest ≡ record { items = []; place = At units held rest }
over_uses_none units held [] over e t = refl
over_uses_none units held (b ∷ rest) over e t = rw (e, t) refl

held_at : Place SectionUnits Break → List ℕ
held_at (At units held rest) = held
held_at (Broken broken) = []

some_rest : (bytes : List ℕ) (parts : List Part) (units : SectionUnits) (held : List ℕ) (w : Which)
    → Tells w bytes parts (At units held (0 ∷ [])) → held ≡ []
some_rest bytes parts units held w h = elim h.2 [
  | inl none ↦ absurd (nothing 0 none)
  | inr over ↦ over.1
]
  where
    nothing : (x : ℕ) → x ∷ [] ≡ [] → ⊥
    nothing x e = cc e

-- behind the end nothing is held, and the same parts are read whatever follows
pub reads_to_end : (w : Which) (fed : List ℕ) (parts : List Part) (reader : SectionReader) → IsBytes fed
    → HasRead w fed parts reader → is_over (unit_of reader) ≡ true → ReadsToEnd w fed parts
reads_to_end w fed parts reader fits h over rest = (
  unit_of reader,
  over,
  subst (λ (held : List ℕ). read_of w (fed ++ rest) ≡ record { items = parts; place = At (unit_of reader) held rest }) none (reads rest),
)
  where
    reads : (rest : List ℕ) → read_of w (fed ++ rest) ≡ record { items = parts; place = At (unit_of reader) (held_of reader) rest }
    reads rest =
        h.read rest
        ∙ ap (λ (r : Reading SectionUnits Part Break). behind parts r)
        (over_uses_none (unit_of reader) (held_of reader) rest true over refl)
        ∙ ap (λ (l : List Part). record { items = l; place = At (unit_of reader) (held_of reader) rest }) (append-nil parts)

    one : IsBytes (0 ∷ [])
    one zero = omega arith
    one (suc i) = omega arith

    none : held_of reader ≡ []
    none =
        some_rest (fed ++ 0 ∷ []) parts (unit_of reader) (held_of reader) w
        (subst (λ (r : Reading SectionUnits Part Break). Tells w (fed ++ 0 ∷ []) r.items r.place) (reads (0 ∷ []))
        (read_is_spelled w (fed ++ 0 ∷ []) (bytes_more fed (0 ∷ []) fits one)))
