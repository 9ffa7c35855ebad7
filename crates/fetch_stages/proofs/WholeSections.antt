-- Parts that are read up to the end are those of a section.
use Rattle.std.proofs.Common.{◌≡◌, ◌<◌, ℕ, List, [], ◌∷◌, ◌++◌, Some, length, get_or, inl, inr, refl, ap, ◌∙◌, arith}
use Rattle.std.specs.Prelude.{map}
use Rattle.std.specs.List.{flat_map}
use Rattle.std.proofs.lemmas.List.{append-nil}
use Rattle.hex.specs.Hex.{IsBytes}
use Rattle.commit_graph.specs.Objects.{Object}
use Rattle.fetch_wire.specs.SectionReadings.{ReadsAs}
use Rattle.fetch_wire.specs.Sections.{IsHead, Sections, as_part, part_text, parts_of}
use Rattle.fetch_wire.specs.declared.part.Part.{Part}
use Rattle.fetch_wire.specs.declared.part.Part.TheVariants as part
use Rattle.fetch_wire.specs.declared.part.Which.{Which}
use Rattle.fetch_wire.specs.declared.part.Which.TheVariants as which
use Rattle.fetch_wire.proofs.SectionsSpelled.{whole_is_spelled}
use Rattle.rad_base.specs.declared.offer.Offer.{Offer}
use Rattle.fetch_stages.specs.Jobs.{BeginsRefusal, head_with}
use Rattle.fetch_stages.specs.Sections.{head_of, objects_among}

objects_mapped : (objects : List Object) → objects_among (map as_part objects ++ part.End ∷ []) ≡ objects
objects_mapped [] = refl
objects_mapped (o ∷ objects) = ap (λ (l : List Object). o ∷ l) (objects_mapped objects)

-- the objects among the parts of a section
pub objects_of_parts : (w : Which) (head : Part) (objects : List Object) → IsHead w head → objects_among (parts_of head objects) ≡ objects
objects_of_parts which.Identity (part.Offer offer) objects h = objects_mapped objects
objects_of_parts which.Identity part.SigsHead objects h = absurd h
objects_of_parts which.Identity part.TipsHead objects h = absurd h
objects_of_parts which.Identity (part.Object kind content) objects h = absurd h
objects_of_parts which.Identity part.End objects h = absurd h
objects_of_parts which.Identity (part.Refused code) objects h = absurd h
objects_of_parts which.Sigs (part.Offer offer) objects h = absurd h
objects_of_parts which.Sigs part.SigsHead objects h = objects_mapped objects
objects_of_parts which.Sigs part.TipsHead objects h = absurd h
objects_of_parts which.Sigs (part.Object kind content) objects h = absurd h
objects_of_parts which.Sigs part.End objects h = absurd h
objects_of_parts which.Sigs (part.Refused code) objects h = absurd h
objects_of_parts which.Tips (part.Offer offer) objects h = absurd h
objects_of_parts which.Tips part.SigsHead objects h = absurd h
objects_of_parts which.Tips part.TipsHead objects h = objects_mapped objects
objects_of_parts which.Tips (part.Object kind content) objects h = absurd h
objects_of_parts which.Tips part.End objects h = absurd h
objects_of_parts which.Tips (part.Refused code) objects h = absurd h

-- the head among them
head_of_parts : (w : Which) (head : Part) (objects : List Object) → IsHead w head → head_of (parts_of head objects) ≡ Some head
head_of_parts which.Identity (part.Offer offer) objects h = refl
head_of_parts which.Identity part.SigsHead objects h = absurd h
head_of_parts which.Identity part.TipsHead objects h = absurd h
head_of_parts which.Identity (part.Object kind content) objects h = absurd h
head_of_parts which.Identity part.End objects h = absurd h
head_of_parts which.Identity (part.Refused code) objects h = absurd h
head_of_parts which.Sigs (part.Offer offer) objects h = absurd h
head_of_parts which.Sigs part.SigsHead objects h = refl
head_of_parts which.Sigs part.TipsHead objects h = absurd h
head_of_parts which.Sigs (part.Object kind content) objects h = absurd h
head_of_parts which.Sigs part.End objects h = absurd h
head_of_parts which.Sigs (part.Refused code) objects h = absurd h
head_of_parts which.Tips (part.Offer offer) objects h = absurd h
head_of_parts which.Tips part.SigsHead objects h = absurd h
head_of_parts which.Tips part.TipsHead objects h = refl
head_of_parts which.Tips (part.Object kind content) objects h = absurd h
head_of_parts which.Tips part.End objects h = absurd h
head_of_parts which.Tips (part.Refused code) objects h = absurd h

-- a head is that of an identity section with some offer
pub offered : (head : Part) → IsHead which.Identity head → (offer : Offer) × (head ≡ head_with offer which.Identity)
offered (part.Offer offer) h = (offer, refl)
offered part.SigsHead h = absurd h
offered part.TipsHead h = absurd h
offered (part.Object kind content) h = absurd h
offered part.End h = absurd h
offered (part.Refused code) h = absurd h

-- or that of a section of signed refs
pub sigs_head : (head : Part) (offer : Offer) → IsHead which.Sigs head → head ≡ head_with offer which.Sigs
sigs_head (part.Offer other) offer h = absurd h
sigs_head part.SigsHead offer h = refl
sigs_head part.TipsHead offer h = absurd h
sigs_head (part.Object kind content) offer h = absurd h
sigs_head part.End offer h = absurd h
sigs_head (part.Refused code) offer h = absurd h

-- or that of a section of tips
pub tips_head : (head : Part) (offer : Offer) → IsHead which.Tips head → head ≡ head_with offer which.Tips
tips_head (part.Offer other) offer h = absurd h
tips_head part.SigsHead offer h = absurd h
tips_head part.TipsHead offer h = refl
tips_head (part.Object kind content) offer h = absurd h
tips_head part.End offer h = absurd h
tips_head (part.Refused code) offer h = absurd h

-- bytes that are read as parts and no more are a section
pub record IsSectionOf (w : Which) (bytes : List ℕ) (parts : List Part) : Type 0 where
  pub head : Part
  pub objects : List Object
  pub section : Sections bytes w head objects []
  pub objects_are : objects_among parts ≡ objects
  pub head_is : head_of parts ≡ Some head

pub read_whole : (w : Which) (bytes : List ℕ) (parts : List Part) → IsBytes bytes → ReadsAs w bytes parts []
    → (BeginsRefusal bytes → ⊥) → IsSectionOf w bytes parts
read_whole w bytes parts fits reads bars = elim (whole_is_spelled w bytes parts [] fits reads) [
  | inl s ↦ record {
    head = s.0;
    objects = s.1;
    section = s.2;
    objects_are = ap (λ (l : List Part). objects_among l) s.3 ∙ objects_of_parts w s.0 s.1 s.2.is_head;
    head_is = ap (λ (l : List Part). head_of l) s.3 ∙ head_of_parts w s.0 s.1 s.2.is_head;
  }
  | inr r ↦ absurd (bars (r.0 ∷ [], r.2))
]

-- with what follows it
pub followed : (w : Which) (bytes rest : List ℕ) (head : Part) (objects : List Object) → Sections bytes w head objects []
    → Sections (bytes ++ rest) w head objects rest
followed w bytes rest head objects s = record {
  is_head = s.is_head;
  each = s.each;
  text = ap (λ (l : List ℕ). l ++ rest) (s.text ∙ append-nil (flat_map part_text (parts_of head objects)));
}

-- bytes begin with no refusal, if what waits does not
pub no_refusal : (waiting taken bytes after : List ℕ) → 0 < length waiting → (BeginsRefusal waiting → ⊥)
    → waiting ++ taken ≡ bytes ++ after → BeginsRefusal bytes → ⊥
no_refusal [] taken bytes after some bars e r = absurd (omega (arith, some))
no_refusal (b ∷ waiting) taken bytes after some bars e r =
    let text : b ∷ (waiting ++ taken) ≡ 82 ∷ (r.0 ++ after) = e ∙ ap (λ (l : List ℕ). l ++ after) r.1 in
    let first : b ≡ 82 = ap (λ (l : List ℕ). get_or l 0 0) text in
    bars (waiting, ap (λ (x : ℕ). x ∷ waiting) first)
