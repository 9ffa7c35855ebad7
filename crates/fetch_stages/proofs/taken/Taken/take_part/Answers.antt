use Rattle.std.proofs.Common.{◌≡◌, ℕ, List, [], refl}
use Rattle.git_object.specs.declared.kind.Kind.{Kind}
use Rattle.fetch_wire.specs.declared.part.Part.{Part}
use Rattle.fetch_wire.specs.declared.part.Part.TheVariants as part
use Rattle.fetch_stages.specs.Sections.{object_of_part}
use Rattle.fetch_stages.proofs.Joining.{joins_none}
use Rattle.fetch_stages.proofs.taken.Taken.take_part.Goals as goal

-- a part that is no object has none
no_object : (p : Part) → ((kind : Kind) (content : List ℕ) → p ≡ part.Object kind content → ⊥) → object_of_part p ≡ []
no_object (part.Object kind content) other = absurd (other kind content refl)
no_object (part.Offer offer) other = refl
no_object part.SigsHead other = refl
no_object part.TipsHead other = refl
no_object part.End other = refl
no_object (part.Refused code) other = refl

pub returns-in-Object-clause-joins : goal.returns-in-Object-clause-joins
returns-in-Object-clause-joins g c = rw c.in-Object.is c.add.ensures.joins

pub returns-in_default-clause-joins : goal.returns-in_default-clause-joins
returns-in_default-clause-joins g c =
    rw (c.set_head.ensures.batcher, no_object c.args.part c.in_default.not-Object)
    (joins_none g.K.Keep.made g.K.Keep.held c.args.rid.now (g.K.Keep.constants c.args.keep.now).caller c.args.keep.now c.args.self.now.batcher)
