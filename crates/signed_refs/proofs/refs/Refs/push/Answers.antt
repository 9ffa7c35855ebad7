use Rattle.std.proofs.Common.{None}
use Rattle.signed_refs.specs.Lines.{name_in}
use Rattle.rad_base.proofs.Rising.{rise_more}
use Rattle.signed_refs.proofs.refs.Refs.push.Goals as goal

pub invariant_of-self-2 : goal.invariant_of-self-2
invariant_of-self-2 c =
    rw c.in_ok-push.ensures.items
    (rise_more name_in None c.self.inside.items.items (c.args.name, c.args.oid) c.self.invariant (rw c.self.view_is c.requires))
