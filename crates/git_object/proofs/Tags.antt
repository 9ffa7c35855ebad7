-- Texts of tags.
use Rattle.std.proofs.Common.{◌≡◌, ℕ, ◌+◌, ◌-◌, inl, inr, List, ◌++◌, length, take, drop, Some, refl, sym, ap, subst, ◌∙◌, arith, append_assoc, length-append, take-append-drop}
use Rattle.std.specs.Prelude.{codes}
use Rattle.std.proofs.lemmas.List.{take_at, drop_at}
use Rattle.rad_base.specs.Sizes.{IsOid}
use Rattle.rad_base.specs.declared.names.Oid.{Oid}
use Rattle.rad_base.specs.Lists.{BeginsWith}
use Rattle.git_object.specs.Grammar.{IsTag, SpellsTag, oid_line, type_line}
use Rattle.git_object.specs.Grammar.{Tag as TagValue}
use Rattle.git_object.specs.Places.{BreaksTag, HasNoType}
use Rattle.git_object.specs.Reading.{tag_in, type_front}
use Rattle.git_object.specs.declared.kind.Kind.{Kind}
use Rattle.git_object.specs.declared.kind.Kind.TheVariants.{Blob, Tree, Commit, Tag}
use Rattle.git_object.proofs.Lines.{line_reads, one_line}
use Rattle.rad_base.proofs.Options.{some_is}

-- the line of a kind is read
pub type_reads : (kind : Kind) (rest : List ℕ) → type_front (type_line kind ++ rest) ≡ Some (kind, rest)
type_reads Blob rest = refl
type_reads Tree rest = refl
type_reads Commit rest = refl
type_reads Tag rest = refl

-- the line of a kind in front is one
pub one_type : (k l : Kind) (a b : List ℕ) → type_line k ++ a ≡ type_line l ++ b → (k ≡ l) × (a ≡ b)
one_type k l a b h =
    let same = some_is _ _ (sym (type_reads k a) ∙ ap type_front h ∙ type_reads l b) in
    (ap (λ (r : Kind × List ℕ). r.0) same, ap (λ (r : Kind × List ℕ). r.1) same)

-- a tag that bytes spell is read
pub tag_reads : (tag : TagValue) (bytes : List ℕ) → SpellsTag tag bytes → tag_in bytes ≡ Some tag
unfolding tag_in
tag_reads tag bytes s =
    rw (s.text, line_reads (codes "object ") tag.object (type_line tag.kind ++ tag.rest) s.object, type_reads tag.kind tag.rest) refl

-- bytes spell one tag
pub one_tag : (a b : TagValue) (bytes : List ℕ) → SpellsTag a bytes → SpellsTag b bytes → a ≡ b
one_tag a b bytes s t = some_is a b (sym (tag_reads a bytes s) ∙ tag_reads b bytes t)

-- the parts that were read are those of a tag
pub tag_parts : (bytes behind rest : List ℕ) (object : Oid) (kind : Kind) → IsOid object → bytes ≡ oid_line (codes "object ") object ++ behind
    → behind ≡ type_line kind ++ rest → BeginsWith (codes "tag ") rest → SpellsTag (record { object = object; kind = kind; rest = rest }) bytes
tag_parts bytes behind rest object kind is h t begins = record {
  object = is;
  rest = begins;
  text = h ∙ ap (λ (l : List ℕ). oid_line (codes "object ") object ++ l) t;
}

-- behind the line of the object no line of a kind stands
pub broken_type : (bytes behind : List ℕ) (object : Oid) (place : ℕ) → IsOid object → bytes ≡ oid_line (codes "object ") object ++ behind
    → HasNoType behind → place ≡ length bytes - length behind → BreaksTag bytes place
broken_type bytes behind object place is h none at =
    let line = oid_line (codes "object ") object in
    let size : length bytes ≡ length line + length behind = ap length h ∙ length-append line behind in
    let here : length line ≡ place = omega (arith, size, at) in
    let back : drop place bytes ≡ behind = ap (drop place) h ∙ drop_at line behind place here in
    inr (inl (record {
      object = object;
      object_is = is;
      inside = omega (arith, size, here);
      before = ap (take place) h ∙ take_at line behind place here;
      no_type = subst HasNoType (sym back) none;
    }))

-- behind the lines of the object and its kind, the rest does not begin as it should
pub broken_tag_rest : (bytes behind rest : List ℕ) (object : Oid) (kind : Kind) (place : ℕ) → IsOid object → bytes ≡ oid_line (codes "object ") object ++ behind
    → behind ≡ type_line kind ++ rest → (BeginsWith (codes "tag ") rest → ⊥) → place ≡ length bytes - length rest → BreaksTag bytes place
broken_tag_rest bytes behind rest object kind place is h t none at =
    let line = oid_line (codes "object ") object in
    let front = line ++ type_line kind in
    let text : bytes ≡ front ++ rest = h ∙ ap (λ (l : List ℕ). line ++ l) t ∙ sym (append_assoc line (type_line kind) rest) in
    let size : length bytes ≡ length front + length rest = ap length text ∙ length-append front rest in
    let here : length front ≡ place = omega (arith, size, at) in
    let back : drop place bytes ≡ rest = ap (drop place) text ∙ drop_at front rest place here in
    inr (inr (record {
      object = object;
      kind = kind;
      object_is = is;
      inside = omega (arith, size, here);
      before = ap (take place) text ∙ take_at front rest place here;
      no_rest = λ begins. none (subst (λ (l : List ℕ). BeginsWith (codes "tag ") l) back begins);
    }))

-- a tag is broken nowhere
pub broken_no_tag : (bytes : List ℕ) (place : ℕ) → BreaksTag bytes place → IsTag bytes → ⊥
broken_no_tag bytes place (inl first) t = first.1 t.0.object (type_line t.0.kind ++ t.0.rest) t.1.object t.1.text
broken_no_tag bytes place (inr (inl b)) t =
    let text : bytes ≡ oid_line (codes "object ") b.object ++ drop place bytes =
    sym (take-append-drop place bytes) ∙ ap (λ (l : List ℕ). l ++ drop place bytes) b.before in
    let one = one_line (codes "object ") b.object t.0.object _ _ b.object_is t.1.object (sym text ∙ t.1.text) in
    b.no_type t.0.kind t.0.rest one.1
broken_no_tag bytes place (inr (inr b)) t =
    let line = oid_line (codes "object ") b.object in
    let rest = drop place bytes in
    let text : bytes ≡ line ++ (type_line b.kind ++ rest) =
    sym (take-append-drop place bytes) ∙ ap (λ (l : List ℕ). l ++ rest) b.before ∙ append_assoc line (type_line b.kind) rest in
    let one = one_line (codes "object ") b.object t.0.object _ _ b.object_is t.1.object (sym text ∙ t.1.text) in
    let kinds = one_type b.kind t.0.kind rest t.0.rest one.1 in
    b.no_rest (subst (λ (l : List ℕ). BeginsWith (codes "tag ") l) (sym kinds.1) t.1.rest)

-- no line of a kind stands in front where that of none does
pub no_type : (bytes : List ℕ) → ((rest : List ℕ) → bytes ≡ type_line Blob ++ rest → ⊥) → ((rest : List ℕ) → bytes ≡ type_line Tree ++ rest → ⊥)
    → ((rest : List ℕ) → bytes ≡ type_line Commit ++ rest → ⊥) → ((rest : List ℕ) → bytes ≡ type_line Tag ++ rest → ⊥) → HasNoType bytes
no_type bytes b t c g Blob rest h = b rest h
no_type bytes b t c g Tree rest h = t rest h
no_type bytes b t c g Commit rest h = c rest h
no_type bytes b t c g Tag rest h = g rest h
