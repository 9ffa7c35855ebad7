use Rattle.std.proofs.Common.{◌≡◌, ◌++◌, take}
use Rattle.std.specs.List.{flat_map}
use Rattle.entry_bodies.specs.Bodies.{held_text}
use Rattle.entry_bodies.proofs.writing.push_objects.Given as goal

abbrev pub invariant-objects : goal.invariant-objects
invariant-objects l = l.body.items ≡ l.initial.body.items ++ flat_map held_text (take l.kind-index l.objects)
