-- Objects that were read so far.
use Rattle.std.proofs.Common.{◌≡◌, ℕ, ◌+◌, ◌<◌, List, [], ◌∷◌, ◌++◌, length, sym, ap, ◌∙◌, arith, append-nil, length-append}
use Rattle.std.specs.List.{flat_map}
use Rattle.rad_base.proofs.EachItem.{each_more}
use Rattle.rad_base.proofs.Texts.{all_one, next_one, texts_more}
use Rattle.commit_graph.specs.Objects.{Object}
use Rattle.repo_entries.specs.Batches.{AreContents}
use Rattle.entry_bodies.specs.Bodies.{held_text}
use Rattle.entry_bodies.specs.Lists.{SpellObjects}
use Rattle.entry_bodies.proofs.Contents.{IsHeld, one_object}

-- so many objects were read, and this is left
pub record HasObjects (bytes : List ℕ) (n : ℕ) (objects : List Object) (rest : List ℕ) : Type 0 where
  pub each : AreContents objects
  pub count : length objects ≡ n
  pub text : bytes ≡ flat_map held_text objects ++ rest

-- one more object was read
pub objects_more : (bytes : List ℕ) (n : ℕ) (objects : List Object) (rest more : List ℕ) (object : Object) → HasObjects bytes n objects rest → IsHeld object
    → rest ≡ held_text object ++ more → HasObjects bytes (n + 1) (objects ++ object ∷ []) more
objects_more bytes n objects rest more object h is e = record {
  each = each_more IsHeld objects object h.each is;
  count = omega (arith, h.count, length-append objects (object ∷ []));
  text = texts_more held_text objects object bytes rest more h.text e;
}

-- where no object stands next, there are not so many
pub no_objects : (bytes : List ℕ) (n count : ℕ) (objects : List Object) (rest : List ℕ) → HasObjects bytes n objects rest → n < count
    → ((object : Object) (more : List ℕ) → IsHeld object → rest ≡ held_text object ++ more → ⊥)
    → (all : List Object) → SpellObjects bytes count all → ⊥
no_objects bytes n count objects rest h few none all are =
    let s = next_one IsHeld held_text one_object objects all rest (omega (arith, few, h.count, are.count)) h.each are.each (sym h.text ∙ are.text) in
    none s.next (flat_map held_text s.more) s.is s.begins

-- where all were read and something is left, they are not all of the bytes
pub objects_not_all : (bytes : List ℕ) (n : ℕ) (objects : List Object) (rest : List ℕ) → HasObjects bytes n objects rest → (rest ≡ [] → ⊥)
    → (all : List Object) → SpellObjects bytes n all → ⊥
objects_not_all bytes n objects rest h left all are =
    left ((all_one IsHeld held_text one_object objects all rest [] (h.count ∙ sym are.count) h.each are.each
    (sym h.text ∙ are.text ∙ sym (append-nil (flat_map held_text all)))).1)

-- where all were read and nothing is left, they are the bytes
pub objects_all : (bytes : List ℕ) (n : ℕ) (objects : List Object) (rest : List ℕ) → HasObjects bytes n objects rest → rest ≡ [] → SpellObjects bytes n objects
objects_all bytes n objects rest h done = record {
  each = h.each;
  count = h.count;
  text = h.text ∙ ap (λ (l : List ℕ). flat_map held_text objects ++ l) done ∙ append-nil (flat_map held_text objects);
}
