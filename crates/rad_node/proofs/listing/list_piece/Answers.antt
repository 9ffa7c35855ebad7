use Rattle.std.proofs.Common.{◌++◌, sym, subst}
use Rattle.rad_node.specs.Listing.{StopsListing}
use Rattle.rad_node.proofs.Listings.{read_bodies, stops_at}
use Rattle.rad_node.proofs.listing.list_piece.Goals as goal

pub returns-in-Err-clause-err : goal.returns-in-Err-clause-err
returns-in-Err-clause-err c = λ fed frames had.
    subst (StopsListing (fed ++ c.args.piece.now)) (sym c.status_at.ensures) (stops_at (fed ++ c.args.piece.now) _ c.in-Err.fault (c.in-Err.ensures.err fed frames had).breaks)

pub push_frames-requires : goal.push_frames-requires
push_frames-requires c =
    rw c.deref.ensures.value (read_bodies _ c.requires.frames c.in-Ok.frames.items _ (c.in-Ok.ensures.ok c.requires.bytes c.requires.frames c.requires.read))
