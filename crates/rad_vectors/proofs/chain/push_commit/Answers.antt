use Rattle.std.proofs.Common.{rules}
use Rattle.rad_vectors.specs.Chains.{number_blob, number_commit, number_tree}
use Rattle.rad_vectors.proofs.MoreObjects.{three_more}
use Rattle.rad_vectors.proofs.chain.push_commit.Goals as goal

pub returns-clause-objects : goal.returns-clause-objects
returns-clause-objects c = three_more c.args.objects.now.items c.push-3.new.self.items c.in_ok-blob.blob c.in_ok-tree.tree c.in_ok-commit.commit
    (number_blob c.args.number) (number_tree c.args.number c.args.submodule) (number_commit c.args.number c.args.submodule c.args.before)
    (search rules) (search rules) (search rules) (search rules)
