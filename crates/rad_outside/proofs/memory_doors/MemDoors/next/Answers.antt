use Rattle.std.proofs.Common.{◌≡◌}
use Rattle.std.proofs.lemmas.List.Elements.{All-drop}
use Rattle.rad_outside.specs.declared.memory_link.MemLink.{MemLink}
use Rattle.rad_outside.proofs.memory_doors.MemDoors.next.Goals as goal

pub invariant_of-self : goal.invariant_of-self
invariant_of-self c =
    rw c.pop_front.ensures.rest (record {
      fresh = All-drop (λ (link : MemLink). link.faults ≡ 0) 1 c.args.self.now.links.items c.args.self.now.fresh;
    })
