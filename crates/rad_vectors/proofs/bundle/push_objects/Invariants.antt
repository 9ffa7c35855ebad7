use Rattle.std.proofs.Common.{◌≡◌, ◌++◌, map, take}
use Rattle.std.specs.List.{flat_map}
use Rattle.fetch_wire.specs.Sections.{as_part, part_text}
use Rattle.rad_vectors.specs.Shown.{all_shown}
use Rattle.rad_vectors.proofs.bundle.push_objects.Given as goal

abbrev pub invariant-objects : goal.invariant-objects
invariant-objects l =
    l.bytes.items ≡ l.initial.bytes.items ++ flat_map part_text (map as_part (all_shown (take l.object-index l.objects)))
