use Rattle.std.proofs.Common.{◌≡◌, ◌+◌, ◌++◌, ◌∷◌, [], get_or, take, arith}
use Rattle.std.proofs.lemmas.List.{take_more}
use Rattle.rad_base.specs.declared.names.Nid.{Nid}
use Rattle.rad_base.specs.declared.names.Oid.{Oid}
use Rattle.repo_slice.specs.Wanted.{IsWanted}
use Rattle.repo_slice.proofs.Passes.{progress_at}
use Rattle.repo_slice.proofs.Turns.{among_turn, picks_turn}
use Rattle.repo_slice.proofs.wanting.waiting.Goals as goal

no_remote : Nid × Oid
no_remote = (record { 0 = [] }, record { 0 = [] })

pub loop-i-preserved : goal.loop-i-preserved
unfolding no_remote
loop-i-preserved c =
    let pairs = c.as_slice-pairs.result.now in
    let i = c.loop-i.i in
    let p = get_or pairs i no_remote in
    let more : take (i + 1) pairs ≡ take i pairs ++ p ∷ [] = take_more pairs i no_remote (omega arith) in
    let inv = c.loop-i.invariant in
    record {
      told = λ m case stage roots all.
          rw (more, c.in_ok-add.ensures)
          (picks_turn (IsWanted m case stage) c.is_waiting.result (take i pairs) c.loop-i.nodes p
          (c.is_waiting.ensures m case stage roots p (progress_at m case stage roots pairs c.args.found.now i no_remote _ c.loop-i-test.true all))
          (inv.told m case stage roots all));
      among = rw (more, c.in_ok-add.ensures) (among_turn c.is_waiting.result (take i pairs) c.loop-i.nodes p inv.among);
    }
