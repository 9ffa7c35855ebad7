use Rattle.std.proofs.Common.{arith}
use Rattle.gossip_wire.specs.Fields.{IsAlias}
use Rattle.gossip_wire.proofs.FieldTexts.{no_sized}
use Rattle.gossip_wire.proofs.fields.alias_front.Goals as goal

pub returns-then-not-is_alias-clause-none : goal.returns-then-not-is_alias-clause-none
returns-then-not-is_alias-clause-none c =
    no_sized IsAlias c.args.bytes.now c.in_ok-alias.alias.now c.in_ok-alias.rest.now c.in_ok-alias.ensures.found.1
    (λ is. let yes = c.is_alias.ensures.no is in grind (arith, yes))
