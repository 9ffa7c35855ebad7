-- The order of pairs.
use Rattle.std.specs.declared.cmp.Ordering.{Ordering}
use Rattle.commit_graph.specs.declared.root.Root.{Root}
use Rattle.commit_graph.specs.contracts.root.RootOrd.TheImpl.{cmp-value}

-- the order of pairs: by name, and then by kind
abbrev pub pair_cmp : Root → Root → Ordering
pair_cmp = cmp-value.it
