-- Bundles: a repository's name and three sections.
use Rattle.std.specs.Prelude.{◌≡◌, ℕ, List, [], ◌∷◌, ◌++◌}
use Rattle.std.specs.List.{AllByRecursion, flat_map}
use Rattle.rad_base.specs.Sizes.{IsOid}
use Rattle.rad_base.specs.declared.names.Rid.{Rid}
use Rattle.rad_base.specs.declared.offer.Offer.{Offer}
use Rattle.fetch_wire.specs.Sections.{IsObject, IsOffer, Object, part_text, parts_of}
use Rattle.fetch_wire.specs.declared.part.Part.TheVariants as part

-- a repository, what is offered of it, and the objects of each section
pub record Bundle : Type 0 where
  pub rid : Rid
  pub offer : Offer
  pub identity : List Object
  pub sigs : List Object
  pub tips : List Object

-- within its limits
pub record IsBundle (bundle : Bundle) : Type 0 where
  pub rid : IsOid bundle.rid.0
  pub offer : IsOffer bundle.offer
  pub identity : AllByRecursion IsObject bundle.identity
  pub sigs : AllByRecursion IsObject bundle.sigs
  pub tips : AllByRecursion IsObject bundle.tips

-- the repository's name in 20 bytes, the identity section, the signed refs section, the tips section
abbrev pub bundle_text : Bundle → List ℕ
bundle_text bundle =
    bundle.rid.0.0
    ++ (flat_map part_text (parts_of (part.Offer bundle.offer) bundle.identity)
    ++ (flat_map part_text (parts_of part.SigsHead bundle.sigs)
    ++ flat_map part_text (parts_of part.TipsHead bundle.tips)))

-- the bytes are this bundle and nothing more
pub record SpellsBundle (bundle : Bundle) (bytes : List ℕ) : Type 0 where
  pub is : IsBundle bundle
  pub text : bytes ≡ bundle_text bundle
