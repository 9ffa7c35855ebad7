use Rattle.std.proofs.Common.{◌∙◌, ap}
use mathlib.Core.Option.{some}
use Rattle.turn_lock.proofs.Closes.{closes_some, closes_with}
use Rattle.turn_lock.proofs.turns.Turns.close.Goals as goal

pub unwrap-value-requires : goal.unwrap-value-requires
unwrap-value-requires g c = closes_some _ _ _ _ _ _ _ _ _ c.close_with-closed.ensures.values.2 c.args.pass.live c.requires.pass.1.1 c.requires.alone c.take.result c.take.ensures.value

pub returns-clause-list : goal.returns-clause-list
returns-clause-list g c = (closes_with _ _ _ _ _ _ _ _ _ c.close_with-closed.ensures.values.2 c.args.pass.live c.requires.pass.1.1 c.requires.alone c.unwrap-value.result (c.take.ensures.value ∙ ap some c.unwrap-value.ensures)).0

pub returns-clause-constants : goal.returns-clause-constants
returns-clause-constants g c = (closes_with _ _ _ _ _ _ _ _ _ c.close_with-closed.ensures.values.2 c.args.pass.live c.requires.pass.1.1 c.requires.alone c.unwrap-value.result (c.take.ensures.value ∙ ap some c.unwrap-value.ensures)).1.1

pub returns-clause-made : goal.returns-clause-made
returns-clause-made g c = (closes_with _ _ _ _ _ _ _ _ _ c.close_with-closed.ensures.values.2 c.args.pass.live c.requires.pass.1.1 c.requires.alone c.unwrap-value.result (c.take.ensures.value ∙ ap some c.unwrap-value.ensures)).1.2

pub returns-clause-added : goal.returns-clause-added
returns-clause-added g c = (closes_with _ _ _ _ _ _ _ _ _ c.close_with-closed.ensures.values.2 c.args.pass.live c.requires.pass.1.1 c.requires.alone c.unwrap-value.result (c.take.ensures.value ∙ ap some c.unwrap-value.ensures)).2

pub returns-clause-numbers : goal.returns-clause-numbers
returns-clause-numbers g c = (closes_with _ _ _ _ _ _ _ _ _ c.close_with-closed.ensures.values.2 c.args.pass.live c.requires.pass.1.1 c.requires.alone c.unwrap-value.result (c.take.ensures.value ∙ ap some c.unwrap-value.ensures)).3
