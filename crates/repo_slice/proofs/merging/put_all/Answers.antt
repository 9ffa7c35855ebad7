use Rattle.std.proofs.Common.{◌≡◌, ◌+◌, ◌++◌, ◌∷◌, [], get_or, take, arith}
use Rattle.std.proofs.lemmas.List.{take_more}
use Rattle.std.proofs.lemmas.Option.{slice_get-get_or}
use Rattle.rad_base.specs.declared.names.Nid.{Nid}
use Rattle.rad_base.specs.declared.names.Oid.{Oid}
use Rattle.repo_slice.proofs.MapPuts.{put_turn}
use Rattle.rad_base.proofs.Lookups.{take_below}
use Rattle.repo_slice.proofs.merging.put_all.Goals as goal

no_remote : Nid × Oid
no_remote = (record { 0 = [] }, record { 0 = [] })

pub loop-node-preserved : goal.loop-node-preserved
unfolding no_remote
loop-node-preserved c = λ node.
    let pairs = c.args.pairs.now in
    let i = c.loop-node.node-index in
    let p = get_or pairs i no_remote in
    let more : take (i + 1) pairs ≡ take i pairs ++ p ∷ [] = take_more pairs i no_remote (omega arith) in
    rw more
    (put_turn _ (take i pairs) p _ _ node (λ x h. take_below pairs i x p c.requires (slice_get-get_or pairs i no_remote (omega arith)) h)
    (c.loop-node.invariant node) (c.in_ok-insert.ensures.updates.0 node))
