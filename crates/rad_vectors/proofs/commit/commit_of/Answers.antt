use Rattle.std.proofs.Common.{◌≤◌, length, arith}
use Rattle.rad_vectors.proofs.CommitSizes.{commit_size}
use Rattle.rad_vectors.proofs.commit.commit_of.Goals as goal

pub of-requires : goal.of-requires
of-requires c =
    let short : length c.deref.result.now ≤ 1000 = omega (arith, c.deref.ensures.len, c.in_ok-push.ensures.len, c.in_ok-extend_from_slice.ensures.len, c.in_ok-rest.ensures.len, c.requires) in
    commit_size c.args.tree.now.oid c.args.before c.deref.result.now c.in_ok-content.content.items c.in_ok-content.ensures short
