use Rattle.gossip_wire.proofs.Recordings.{never_broken, never_inside}
use Rattle.gossip_wire.proofs.laws.whole_frames_do_not_break.Goals as goal

pub returns : goal.returns
returns c = record { inside = never_inside; breaks = never_broken }
