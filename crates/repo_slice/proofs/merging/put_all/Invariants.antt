use Rattle.std.proofs.Common.{◌≡◌, take}
use Rattle.std.specs.Option.{option_or}
use Rattle.std.specs.BTreeMap.{get}
use Rattle.rad_base.specs.declared.names.Nid.{Nid}
use Rattle.rad_base.specs.Order.{commit_of, nid_cmp}
use Rattle.repo_slice.proofs.merging.put_all.Given as goal

abbrev pub invariant-loop-node : goal.invariant-loop-node
invariant-loop-node l = (node : Nid) → get nid_cmp l.map node ≡ option_or (commit_of (take l.node-index l.pairs) node) (get nid_cmp l.fn.map node)
