use Rattle.ref_name.proofs.Numbers.{Kept}
use Rattle.ref_name.proofs.rules.check_ref_name.Given as goal

abbrev pub invariant-loop-rule : goal.invariant-loop-rule
invariant-loop-rule l = Kept l.rule l.name
