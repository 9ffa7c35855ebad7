use Rattle.std.proofs.Common.{◌↔◌, length}
use Rattle.std.specs.List.{Any}
use Rattle.ref_name.specs.Rules.{IsBadComponent, components}
use Rattle.ref_name.proofs.components.has_bad_component.Given as goal

abbrev pub invariant-parts : goal.invariant-parts
invariant-parts l = Any IsBadComponent (components l.name) ↔ Any IsBadComponent (components l.rest)

abbrev pub decreases-parts : goal.decreases-parts
decreases-parts l = length l.rest
