use Rattle.std.proofs.Common.{sym, subst}
use Rattle.std.specs.Prelude.{IsTrue}
use Rattle.repo_slice.specs.Keeps.{Constants}
use Rattle.store_keep.proofs.tests.called.Goals as goal

pub asked-requires : goal.asked-requires
asked-requires c =
    subst (λ (k : Constants). IsTrue (k.stands c.args.rid.now)) (sym c.has_head-head.ensures)
    (c.new-keep.ensures.stands c.requires.free c.args.rid.now)
