use Rattle.std.proofs.Common.{refl, sym, ◌∙◌}
use Rattle.repo_slice.specs.Slices.{objects_of, state_of}
use Rattle.repo_slice.proofs.RefsOf.{refs_are}
use Rattle.repo_slice.proofs.slice.Slice.refs_of.Goals as goal

pub returns-clause-told : goal.returns-clause-told
returns-clause-told c = λ keyring good.
    refs_are (objects_of c.args.self.now) keyring (state_of c.args.self.now) c.args.node.now c.in-Some.commit (sym c.get.ensures ∙ c.in-Some.is)
    c.refs_said.result good (c.refs_said.ensures.told (objects_of c.args.self.now) refl)
