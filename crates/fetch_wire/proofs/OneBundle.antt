-- Bytes are at most one bundle.
use Rattle.std.proofs.Common.{◌≡◌, ℕ, List, [], ◌∷◌, ◌++◌, refl, sym, ap, ◌∙◌, append-nil}
use Rattle.std.specs.List.{AllByRecursion, flat_map}
use Rattle.rad_base.proofs.OneFront.{one_front}
use Rattle.rad_base.specs.declared.names.Oid.{Oid}
use Rattle.rad_base.specs.declared.names.Rid.{Rid}
use Rattle.rad_base.specs.declared.offer.Offer.{Offer}
use Rattle.fetch_wire.specs.Bundles.{Bundle, SpellsBundle}
use Rattle.fetch_wire.specs.Sections.{IsHead, IsObject, Object, Sections, part_text, parts_of}
use Rattle.fetch_wire.specs.declared.part.Part.{Part}
use Rattle.fetch_wire.specs.declared.part.Part.TheVariants as part
use Rattle.fetch_wire.specs.declared.part.Which.{Which}
use Rattle.fetch_wire.specs.declared.part.Which.TheVariants as which
use Rattle.fetch_wire.proofs.SectionsSpelled.{one_section}

-- two sections in front of one list of bytes are one
same_section : (w : Which) (a b : Part) (xs ys : List Object) (r q : List ℕ) → IsHead w a → IsHead w b → AllByRecursion IsObject xs → AllByRecursion IsObject ys
    → flat_map part_text (parts_of a xs) ++ r ≡ flat_map part_text (parts_of b ys) ++ q → (a ≡ b) × (xs ≡ ys) × (r ≡ q)
same_section w a b xs ys r q ha hb each other e =
    one_section w (flat_map part_text (parts_of a xs) ++ r) a b xs ys r q (record { is_head = ha; each = each; text = refl }) (record { is_head = hb; each = other; text = e })

abbrev made : Rid → Offer → List Object → List Object → List Object → Bundle
made rid offer identity sigs tips = record { rid = rid; offer = offer; identity = identity; sigs = sigs; tips = tips }

one_offer : (a b : Offer) → part.Offer a ≡ part.Offer b → a ≡ b
one_offer a b e = cc e

-- bytes are at most one bundle
pub one_bundle : (bytes : List ℕ) (a b : Bundle) → SpellsBundle a bytes → SpellsBundle b bytes → a ≡ b
one_bundle bytes a b sa sb =
    let text = sym sa.text ∙ sb.text in
    let rids = one_front a.rid.0.0 b.rid.0.0 _ _ (sa.is.rid.size ∙ sym sb.is.rid.size) text in
    let first = same_section which.Identity (part.Offer a.offer) (part.Offer b.offer) a.identity b.identity _ _ sa.is.offer sb.is.offer sa.is.identity sb.is.identity rids.1 in
    let second = same_section which.Sigs part.SigsHead part.SigsHead a.sigs b.sigs _ _ tt tt sa.is.sigs sb.is.sigs first.2 in
    let third = same_section which.Tips part.TipsHead part.TipsHead a.tips b.tips [] [] tt tt sa.is.tips sb.is.tips
    (append-nil (flat_map part_text (parts_of part.TipsHead a.tips)) ∙ (second.2 ∙ sym (append-nil (flat_map part_text (parts_of part.TipsHead b.tips))))) in
    ap (λ (xs : List ℕ). made (record { 0 = record { 0 = xs } }) a.offer a.identity a.sigs a.tips) rids.0
    ∙ (ap (λ (o : Offer). made b.rid o a.identity a.sigs a.tips) (one_offer a.offer b.offer first.0)
    ∙ (ap (λ (os : List Object). made b.rid b.offer os a.sigs a.tips) first.1
    ∙ (ap (λ (os : List Object). made b.rid b.offer b.identity os a.tips) second.1
    ∙ ap (λ (os : List Object). made b.rid b.offer b.identity b.sigs os) third.1)))
