use Rattle.std.proofs.Common.{◌≡◌, ◌++◌, ◌*◌, length, take}
use Rattle.std.specs.List.{flat_map}
use Rattle.rad_base.specs.RemoteTexts.{pair_text}
use Rattle.entry_bodies.proofs.writing.push_remotes.Given as goal

abbrev pub invariant-remotes : goal.invariant-remotes
invariant-remotes l = record {
  text : l.body.items ≡ l.initial.body.items ++ flat_map pair_text (take l.remote-index l.remotes);
  size : length (flat_map pair_text (take l.remote-index l.remotes)) ≡ 52 * l.remote-index;
}
