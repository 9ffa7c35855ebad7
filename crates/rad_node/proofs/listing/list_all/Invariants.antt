use Rattle.std.proofs.Common.{◌≡◌, ◌≤◌, length}
use Rattle.rad_node.specs.Listing.{HasListed}
use Rattle.rad_node.proofs.listing.list_all.Given as goal

abbrev pub invariant-reading : goal.invariant-reading
invariant-reading g l = record {
  later : g.I.Source.faults l.initial.input ≤ g.I.Source.faults l.input;
  listed : HasListed (g.I.Source.left l.initial.input) (g.I.Source.left l.input) l.reader l.text.items l.room;
  piece : length l.piece.items ≡ 65536;
}

abbrev pub decreases-reading : goal.decreases-reading
decreases-reading g l = l.room
