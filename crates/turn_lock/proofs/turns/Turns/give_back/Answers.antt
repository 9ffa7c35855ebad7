use Rattle.std.proofs.Common.{rules, ◌∙◌, arith}
use Rattle.turn_lock.proofs.Counted.{counts, passes}
use Rattle.turn_lock.proofs.turns.Turns.give_back.Goals as goal

pub fetch_add-requires : goal.fetch_add-requires
fetch_add-requires g c = (
  c.loop.invariant.0.0 ∙ c.requires.pass.0,
  search rules,
  rw c.loop.invariant.1 (counts _ _ _ _ _ _ _ _ _ c.args.held.value c.args.pass.now.live c.requires.pass.1.0 c.requires.grown c.count.ensures.short (let length_is = c.count.ensures.counted in let before_is = c.requires.pass.2 in let left = c.loop-test.true in omega arith)),
)

pub fetch_add-requires-2 : goal.fetch_add-requires-2
fetch_add-requires-2 g c = (
  c.loop.invariant.0.0 ∙ c.requires.pass.0,
  search rules,
  rw c.loop.invariant.1 (passes _ _ _ _ _ _ _ _ _ c.args.held.value c.args.pass.now.live c.requires.pass.1.0 c.requires.grown c.requires.constants (let length_is = c.count.ensures.counted in let before_is = c.requires.pass.2 in let done = c.loop-test.false in let most = c.loop.auto.counter-end in omega arith)),
)
