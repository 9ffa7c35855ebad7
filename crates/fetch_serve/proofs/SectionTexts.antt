-- The bytes of sections.
use Rattle.std.proofs.Common.{◌≡◌, ℕ, ◌+◌, ◌<◌, ◌≤◌, List, [], ◌∷◌, ◌++◌, length, take, get_or, Some, sym, ap, subst, ◌∙◌, refl, append_assoc, append-nil}
use Rattle.std.specs.Prelude.{map}
use Rattle.std.specs.List.{flat_map}
use Rattle.std.proofs.lemmas.Grind.{flat_map-append}
use Rattle.std.proofs.lemmas.List.{take_all, take_more}
use Rattle.rad_base.specs.declared.names.Oid.{Oid}
use Rattle.commit_graph.specs.Objects.{ObjectMap}
use Rattle.fetch_wire.specs.Sections.{Object, as_part, end_word, part_text}
use Rattle.fetch_wire.specs.declared.part.Part.TheVariants as part
use Rattle.fetch_wire.specs.declared.request.Request.{Request}
use Rattle.fetch_serve.specs.Good.{Showing}
use Rattle.fetch_serve.specs.Parts.{WritesObjects, object_bytes}
use Rattle.fetch_serve.specs.Replies.{AreObjects, IsSection, IsSentAs, head_of}

are_more : (m : ObjectMap) (names : List Oid) (objects : List Object) (oid : Oid) (object : Object) → AreObjects m names objects → m oid ≡ Some object
    → AreObjects m (names ++ oid ∷ []) (objects ++ object ∷ [])
are_more m [] [] oid object are is = (is, tt)
are_more m [] (x ∷ xs) oid object are is = absurd are
are_more m (n ∷ ns) [] oid object are is = absurd are
are_more m (n ∷ ns) (x ∷ xs) oid object are is = (are.0, are_more m ns xs oid object are.1 is)

writes_more : (m : ObjectMap) (names : List Oid) (oid : Oid) (object : Object) (a b c : List ℕ) → WritesObjects m names a b → m oid ≡ Some object → c ≡ b ++ object_bytes object
    → WritesObjects m (names ++ oid ∷ []) a c
writes_more m names oid object a b c w is text = record {
  list = w.list ++ object ∷ [];
  are = are_more m names w.list oid object w.are is;
  text = text ∙ (ap (λ (xs : List ℕ). xs ++ object_bytes object) w.text
      ∙ (append_assoc a (flat_map object_bytes w.list) (object_bytes object)
      ∙ ap (λ (xs : List ℕ). a ++ xs) (ap (λ (xs : List ℕ). flat_map object_bytes w.list ++ xs) (sym (append-nil (object_bytes object)))
      ∙ sym (flat_map-append object_bytes w.list (object ∷ [])))));
}

-- one turn of a loop over the names
pub writes_turn : (m : ObjectMap) (names : List Oid) (i : ℕ) (d : Oid) (object : Object) (a b c : List ℕ) → i < length names → WritesObjects m (take i names) a b
    → m (get_or names i d) ≡ Some object → c ≡ b ++ object_bytes object → WritesObjects m (take (i + 1) names) a c
writes_turn m names i d object a b c inside w is text =
    subst (λ (xs : List Oid). WritesObjects m xs a c) (sym (take_more names i d inside)) (writes_more m (take i names) (get_or names i d) object a b c w is text)

-- all of its turns
pub writes_all : (m : ObjectMap) (names : List Oid) (i : ℕ) (a b : List ℕ) → length names ≤ i → WritesObjects m (take i names) a b → WritesObjects m names a b
writes_all m names i a b whole w = subst (λ (xs : List Oid). WritesObjects m xs a b) (take_all i names whole) w

with_end : (objects : List Object) → flat_map object_bytes objects ++ end_word ≡ flat_map part_text (map as_part objects ++ part.End ∷ [])
with_end [] = refl
with_end (x ∷ xs) = append_assoc (object_bytes x) (flat_map object_bytes xs) end_word ∙ ap (λ (ys : List ℕ). object_bytes x ++ ys) (with_end xs)

-- the head, the objects and the end word are the section
pub is_section : (shown : Showing) (r : Request) (names : List Oid) (head body all : List ℕ) → IsSentAs shown r names → head ≡ part_text (head_of shown r)
    → WritesObjects shown.objects names head body → all ≡ body ++ end_word → IsSection shown r all
is_section shown r names head body all sent first w last = record {
  names = names;
  sent = sent;
  objects = w.list;
  are = w.are;
  text = last ∙ (ap (λ (xs : List ℕ). xs ++ end_word) w.text ∙ (append_assoc head (flat_map object_bytes w.list) end_word
      ∙ (ap (λ (xs : List ℕ). xs ++ (flat_map object_bytes w.list ++ end_word)) first
      ∙ ap (λ (xs : List ℕ). part_text (head_of shown r) ++ xs) (with_end w.list))));
}
