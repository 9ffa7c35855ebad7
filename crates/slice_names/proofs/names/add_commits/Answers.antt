use Rattle.std.proofs.Common.{◌≡◌, List, take, subst, arith}
use Rattle.std.proofs.lemmas.List.{take_all}
use Rattle.rad_base.specs.declared.names.Nid.{Nid}
use Rattle.rad_base.specs.declared.names.Oid.{Oid}
use Rattle.slice_names.specs.Names.{AreTold}
use Rattle.slice_names.proofs.Told.{told_more, told_none}
use Rattle.slice_names.proofs.names.add_commits.Goals as goal

pub loop-remote-init : goal.loop-remote-init
loop-remote-init c = told_none c.args.names.now

pub loop-remote-preserved : goal.loop-remote-preserved
loop-remote-preserved c =
    told_more c.args.names.now c.loop-remote.names c.insert.new.self c.args.remotes.now c.loop-remote.remote-index _ c.loop-remote-test.true
    c.in_ok-insert.ensures.updates.0 c.loop-remote.invariant

pub returns : goal.returns
returns c =
    let whole : take c.loop-remote.remote-index c.args.remotes.now ≡ c.args.remotes.now = take_all c.loop-remote.remote-index c.args.remotes.now (omega arith) in
    subst (λ (xs : List (Nid × Oid)). AreTold c.args.names.now c.loop-remote.names xs) whole c.loop-remote.invariant
