use Rattle.std.proofs.Common.{◌≡◌, ◌++◌, take}
use Rattle.std.specs.List.{flat_map}
use Rattle.rad_base.specs.RemoteTexts.{pair_text}
use Rattle.gossip_wire.proofs.writing.push_remotes.Given as goal

abbrev pub invariant-remotes : goal.invariant-remotes
invariant-remotes l = l.out.items ≡ l.initial.out.items ++ flat_map pair_text (take l.remote-index l.remotes)
