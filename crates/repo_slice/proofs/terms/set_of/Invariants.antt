use Rattle.std.proofs.Common.{◌≡◌, take}
use Rattle.std.specs.BTreeSet.{contains}
use Rattle.std.specs.List.{list_any}
use Rattle.std.specs.Ordering.{eq_by_cmp}
use Rattle.rad_base.specs.declared.names.Nid.{Nid}
use Rattle.rad_base.specs.Order.{nid_cmp}
use Rattle.repo_slice.proofs.terms.set_of.Given as goal

abbrev pub invariant-loop-node : goal.invariant-loop-node
invariant-loop-node l = (q : Nid) → contains nid_cmp l.set q ≡ list_any (eq_by_cmp nid_cmp q) (take l.node-index l.nodes)
