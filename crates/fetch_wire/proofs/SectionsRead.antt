-- What is spelled is read.
use Rattle.std.proofs.Common.{◌≡◌, ℕ, suc, ◌+◌, ◌-◌, ◌<◌, ◌≤◌, ◌==◌, nat_lt, Bool, true, false, if◌then◌else◌, List, [], ◌∷◌, ◌++◌, length, map, take, drop, refl, sym, ap, subst, ◌∙◌, arith, append_assoc, append-nil, length-append, ⊎_elim, inl, inr}
use Rattle.std.specs.Prelude.{Option, None, Some, ◌⊎◌}
use Rattle.std.specs.List.{AllByRecursion, flat_map}
use Rattle.std.specs.Int.{byte_at, from_be_bytes, to_be_bytes, w16, w32}
use Rattle.std.proofs.lemmas.Bool.{eqb-false, eqb-true, ltb-true}
use Rattle.std.proofs.lemmas.List.{length-take-le}
use Rattle.std.proofs.lemmas.Nat.{from_be_bytes-to_be_bytes_2, from_be_bytes-to_be_bytes_4}
use Rattle.git_object.specs.declared.kind.Kind.{Kind}
use Rattle.git_object.specs.declared.kind.Kind.TheVariants as kinds
use Rattle.rad_base.specs.declared.names.Nid.{Nid}
use Rattle.rad_base.specs.declared.names.Oid.{Oid}
use Rattle.unit_reader.specs.Units.{Verdict, Begins, Ends, Breaks, FrontsBegin, Reading, At, behind, only, reading}
use Rattle.unit_reader.specs.Units.{next as go_on}
use Rattle.unit_reader.proofs.Readings.{unit_read}
use Rattle.fetch_wire.specs.Judging.{Said, break_at, further, is_over, judge, judge_kind, judge_length, kind_in, onto}
use Rattle.fetch_wire.specs.declared.fault.Break.{Break}
use Rattle.fetch_wire.specs.Sections.{IsCode, IsContent, IsObject, Object, as_part, end_word, kind_byte, object_text, part_text}
use Rattle.fetch_wire.specs.declared.part.Part.{Part}
use Rattle.fetch_wire.specs.declared.part.Part.TheVariants as part
use Rattle.fetch_wire.specs.declared.part.Which.{Which}
use Rattle.fetch_wire.specs.declared.part.Which.TheVariants as which
use Rattle.fetch_wire.specs.declared.units.Next.{Next}
use Rattle.fetch_wire.specs.declared.units.Next.TheVariants as next
use Rattle.fetch_wire.specs.declared.units.SectionUnits.{SectionUnits}

-- a unit in its place
abbrev pub unit_at : ℕ → Next → Oid → List (Nid × Oid) → SectionUnits
unit_at place stands id remotes = record { place = place; next = stands; id = id; remotes = remotes }

-- these bytes are read as this part, and reading goes on at a unit
pub record ReadsOn (s : SectionUnits) (text : List ℕ) (item : Part) (stands : Next) : Type 0 where
  pub place : ℕ
  pub id : Oid
  pub on : (rest : List ℕ) → reading is_over judge s [] (text ++ rest) ≡ behind (item ∷ []) (reading is_over judge (unit_at place stands id []) [] rest)

-- fewer bytes than a unit has begin it
pub begins_short : (n m : ℕ) (v : Said) → n < m → (if n == m then v else Begins) ≡ Begins
begins_short n m v less = by_test (n == m) refl
  where
    by_test : (b : Bool) → (n == m) ≡ b → (if b then v else Begins) ≡ Begins
    by_test true e = let same = eqb-true n m e in absurd (omega arith)
    by_test false e = refl

-- and as many are judged
pub judged_full : (n m : ℕ) (v : Said) → n ≡ m → (if n == m then v else Begins) ≡ v
judged_full n m v e = by_test (n == m) refl
  where
    by_test : (b : Bool) → (n == m) ≡ b → (if b then v else Begins) ≡ v
    by_test true is = refl
    by_test false is = absurd (eqb-false n m is e)

-- a head of one letter
pub sigs_read : (p : ℕ) (id : Oid) (rest : List ℕ) → reading is_over judge (unit_at p (next.Head which.Sigs) id []) [] (83 ∷ rest)
    ≡ behind (part.SigsHead ∷ []) (reading is_over judge (unit_at (further p 1) next.Part id []) [] rest)
unfolding judge
sigs_read p id rest = refl

pub tips_read : (p : ℕ) (id : Oid) (rest : List ℕ) → reading is_over judge (unit_at p (next.Head which.Tips) id []) [] (68 ∷ rest)
    ≡ behind (part.TipsHead ∷ []) (reading is_over judge (unit_at (further p 1) next.Part id []) [] rest)
unfolding judge
tips_read p id rest = refl

-- the end word
pub end_read : (p : ℕ) (id : Oid) (rest : List ℕ) → reading is_over judge (unit_at p next.Part id []) [] (end_word ++ rest)
    ≡ behind (part.End ∷ []) (reading is_over judge (unit_at (further p 4) next.Nothing id []) [] rest)
unfolding judge
end_read p id rest = refl

-- a refusal, in place of a section of any kind
pub refusal_read : (w : Which) (p code : ℕ) (id : Oid) (rest : List ℕ) → IsCode code → reading is_over judge (unit_at p (next.Head w) id []) [] (82 ∷ code ∷ rest)
    ≡ behind (part.Refused code ∷ []) (reading is_over judge (unit_at (further p 2) next.Nothing id []) [] rest)
unfolding judge
refusal_read w p code id rest (inl e) = rw e refl
refusal_read w p code id rest (inr e) = rw e refl

-- behind the end nothing is read
pub at_end : (p : ℕ) (id : Oid) (rest : List ℕ) → reading is_over judge (unit_at p next.Nothing id []) [] rest ≡ record { items = []; place = At (unit_at p next.Nothing id []) [] rest }
at_end p id [] = refl
at_end p id (b ∷ rest) = refl

-- the six bytes of an object's head are judged by its kind and its length
head_read : (p : ℕ) (id : Oid) (k a b c d : ℕ) (rest : List ℕ)
    → reading is_over judge (unit_at p next.Part id []) [] (79 ∷ k ∷ a ∷ b ∷ c ∷ d ∷ rest)
    ≡ go_on (judge_kind (kind_in k) (unit_at p next.Part id []) (from_be_bytes w32 (a ∷ b ∷ c ∷ d ∷ []))) (unit_at p next.Part id []) (79 ∷ k ∷ a ∷ b ∷ c ∷ d ∷ [])
    (λ t keeps. reading is_over judge t keeps rest)
unfolding judge
head_read p id k a b c d rest = refl

kind_back : (kind : Kind) → kind_in (kind_byte kind) ≡ Some kind
kind_back kinds.Commit = refl
kind_back kinds.Tree = refl
kind_back kinds.Blob = refl
kind_back kinds.Tag = refl

-- fewer bytes than a content has begin it
content_fronts : (p : ℕ) (id : Oid) (kind : Kind) (content : List ℕ) → FrontsBegin judge (unit_at p (next.Content kind (length content)) id []) content
unfolding judge
content_fronts p id kind content k some within =
    let size : length (take k content) ≡ k = length-take-le k content (omega arith) in
    begins_short (length (take k content)) (length content)
    (Ends (Some (part.Object kind (take k content))) (unit_at (further p (length content)) next.Part id [])) (omega arith)

content_judged : (p : ℕ) (id : Oid) (kind : Kind) (content : List ℕ) → judge (unit_at p (next.Content kind (length content)) id []) content
    ≡ Ends (Some (part.Object kind content)) (unit_at (further p (length content)) next.Part id [])
unfolding judge
content_judged p id kind content =
    judged_full (length content) (length content) (Ends (Some (part.Object kind content)) (unit_at (further p (length content)) next.Part id [])) refl

-- a content is taken when it is whole
content_read : (p : ℕ) (id : Oid) (kind : Kind) (content rest : List ℕ) → 0 < length content
    → reading is_over judge (unit_at p (next.Content kind (length content)) id []) [] (content ++ rest)
    ≡ behind (part.Object kind content ∷ []) (reading is_over judge (unit_at (further p (length content)) next.Part id []) [] rest)
content_read p id kind content rest some =
    unit_read is_over judge (unit_at p (next.Content kind (length content)) id []) (unit_at (further p (length content)) next.Part id [])
    (Some (part.Object kind content)) content rest refl some (content_fronts p id kind content) (content_judged p id kind content)

-- a length within the limit, by whether it is 0
length_judged : (kind : Kind) (s : SectionUnits) (n : ℕ) → n ≤ 33554432 → 0 < n → judge_length kind s n ≡ Ends None (unit_at (further s.place 6) (next.Content kind n) s.id s.remotes)
length_judged kind s n fits some = by_test (nat_lt 33554432 n) (n == 0) refl refl
  where
    by_test : (a b : Bool) → nat_lt 33554432 n ≡ a → (n == 0) ≡ b
        → (if a then Breaks (break_at s 6) else if b then Ends (Some (part.Object kind [])) (onto s 6 next.Part) else Ends None (onto s 6 (next.Content kind n)))
        ≡ Ends None (unit_at (further s.place 6) (next.Content kind n) s.id s.remotes)
    by_test true b ea eb = let above = ltb-true 33554432 n ea in absurd (omega arith)
    by_test false true ea eb = let none = eqb-true n 0 eb in absurd (omega arith)
    by_test false false ea eb = refl

-- the head of an object is judged by its kind and its length
object_head : (p : ℕ) (id : Oid) (kind : Kind) (n : ℕ) (rest : List ℕ) → n ≤ 33554432
    → reading is_over judge (unit_at p next.Part id []) [] (79 ∷ kind_byte kind ∷ (to_be_bytes w32 n ++ rest))
    ≡ go_on (judge_length kind (unit_at p next.Part id []) n) (unit_at p next.Part id []) (79 ∷ kind_byte kind ∷ to_be_bytes w32 n)
    (λ t keeps. reading is_over judge t keeps rest)
object_head p id kind n rest fits =
    head_read p id (kind_byte kind) (byte_at 3 n) (byte_at 2 n) (byte_at 1 n) (byte_at 0 n) rest
    ∙ ap (λ (v : Said). go_on v (unit_at p next.Part id []) (79 ∷ kind_byte kind ∷ to_be_bytes w32 n) (λ t keeps. reading is_over judge t keeps rest)) judged
  where
    judged : judge_kind (kind_in (kind_byte kind)) (unit_at p next.Part id []) (from_be_bytes w32 (to_be_bytes w32 n)) ≡ judge_length kind (unit_at p next.Part id []) n
    judged = ap (λ (o : Option Kind). judge_kind o (unit_at p next.Part id []) (from_be_bytes w32 (to_be_bytes w32 n))) (kind_back kind)
        ∙ ap (λ (m : ℕ). judge_length kind (unit_at p next.Part id []) m) (from_be_bytes-to_be_bytes_4 n (omega arith))

-- an object is read
pub object_read : (p : ℕ) (id : Oid) (kind : Kind) (content : List ℕ) → IsContent content → ReadsOn (unit_at p next.Part id []) (object_text kind content) (part.Object kind content) next.Part
object_read p id kind [] is = record {
  place = further p 6;
  id = id;
  on = λ rest. object_head p id kind 0 rest (omega arith);
}
object_read p id kind (b ∷ content) is = record {
  place = further (further p 6) (length (b ∷ content));
  id = id;
  on = λ rest.
      let some : 0 < length (b ∷ content) = omega arith in
      object_head p id kind (length (b ∷ content)) ((b ∷ content) ++ rest) is.1
      ∙ (ap (λ (v : Said). go_on v (unit_at p next.Part id []) (79 ∷ kind_byte kind ∷ to_be_bytes w32 (length (b ∷ content))) (λ t keeps. reading is_over judge t keeps ((b ∷ content) ++ rest)))
      (length_judged kind (unit_at p next.Part id []) (length (b ∷ content)) is.1 some)
      ∙ content_read (further p 6) id kind (b ∷ content) rest some);
}

-- these bytes are read as these parts, up to the end
pub record ReadsToEnd (s : SectionUnits) (text : List ℕ) (parts : List Part) : Type 0 where
  pub place : ℕ
  pub id : Oid
  pub on : (rest : List ℕ) → reading is_over judge s [] (text ++ rest) ≡ behind parts (reading is_over judge (unit_at place next.Nothing id []) [] rest)

-- a part, and those behind it
pub read_behind : (s : SectionUnits) (text more : List ℕ) (item : Part) (parts : List Part) → ReadsOn s text item next.Part
    → ((p : ℕ) (id : Oid) → ReadsToEnd (unit_at p next.Part id []) more parts) → ReadsToEnd s (text ++ more) (item ∷ parts)
read_behind s text more item parts one others = record {
  place = (others one.place one.id).place;
  id = (others one.place one.id).id;
  on = λ rest. ap (λ (xs : List ℕ). reading is_over judge s [] xs) (append_assoc text more rest)
      ∙ (one.on (more ++ rest) ∙ ap (λ (r : Reading SectionUnits Part Break). behind (item ∷ []) r) ((others one.place one.id).on rest));
}

-- objects and the end word are read
pub objects_read : (objects : List Object) → AllByRecursion IsObject objects → (p : ℕ) (id : Oid)
    → ReadsToEnd (unit_at p next.Part id []) (flat_map part_text (map as_part objects ++ part.End ∷ [])) (map as_part objects ++ part.End ∷ [])
objects_read [] each p id = record { place = further p 4; id = id; on = λ rest. end_read p id rest }
objects_read (object ∷ objects) each p id =
    read_behind (unit_at p next.Part id []) (object_text object.0 object.1) (flat_map part_text (map as_part objects ++ part.End ∷ [])) (as_part object) (map as_part objects ++ part.End ∷ [])
    (object_read p id object.0 object.1 each.0) (objects_read objects each.1)
