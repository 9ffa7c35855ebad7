use Rattle.std.proofs.Common.{take}
use Rattle.rad_base.specs.declared.names.Oid.{Oid}
use Rattle.commit_graph.specs.Objects.{ObjectMap}
use Rattle.fetch_serve.specs.Parts.{Adds}
use Rattle.fetch_serve.specs.Replies.{Among, IsSigsRoot}
use Rattle.fetch_serve.specs.Showings.{showing}
use Rattle.fetch_serve.proofs.roots.add_commits.Given as goal

abbrev pub invariant-loop-node : goal.invariant-loop-node
invariant-loop-node l = (m : ObjectMap) (id : Oid) → Adds (Among (take l.node-index l.nodes) (IsSigsRoot (showing m id l.remotes))) l.initial.roots.items l.roots.items
