use Rattle.std.proofs.Common.{map, take}
use Rattle.serde_json.specs.View.{view}
use Rattle.routing.specs.RulesFiles.{AreKeys}
use Rattle.routing.proofs.repos.keys_in.Given as goal

abbrev pub invariant-loop-element : goal.invariant-loop-element
invariant-loop-element l = AreKeys (map view (take l.element-index l.elements)) l.nids
