use Rattle.std.proofs.Common.{sym, subst, List}
use Rattle.rad_base.specs.declared.names.Nid.{Nid}
use Rattle.repo_slice.proofs.Turns.{none_among}
use Rattle.repo_slice.proofs.mem_keep.MemKeepKeep.wants.Goals as goal
use Rattle.repo_slice.specs.Wanted.{AreAmong}

pub returns-clause-among : goal.returns-clause-among
returns-clause-among c =
    let pairs = c.args._offer.now.remotes in
    subst (λ (nodes : List Nid). AreAmong pairs nodes) (sym c.new.ensures) (none_among pairs)
