use Rattle.std.proofs.Common.{◌≡◌, length, refl, arith}
use Rattle.std.specs.Prelude.{codes}
use Rattle.rad_vectors.proofs.FixtureParts.{tag_size}
use Rattle.rad_vectors.proofs.three_delegates.tag_of.Goals as goal

pub of-requires : goal.of-requires
of-requires c =
    let size : length (codes "tag v1\ntagger a <a@b> 0 +0000\n\nv1\n") ≡ 34 = refl in
    tag_size c.args.commit.now (codes "tag v1\ntagger a <a@b> 0 +0000\n\nv1\n") c.in_ok-content.content.items c.in_ok-content.ensures (omega (arith, size))
