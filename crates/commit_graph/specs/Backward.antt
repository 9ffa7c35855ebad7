-- Links that are kept backwards.
use Rattle.std.specs.Prelude.{List, [], Contains, option_map}
use Rattle.std.specs.Option.{unwrap_or}
use Rattle.std.specs.BTreeMap.{get}
use Rattle.commit_graph.specs.declared.root.Root.{Root}
use Rattle.commit_graph.specs.declared.backward.Backward.{Backward}
use Rattle.commit_graph.specs.PairOrder.{pair_cmp}

-- the pairs that link to one
abbrev pub before_in : Backward → Root → List Root
before_in back q = unwrap_or (option_map (λ v. v.items) (get pair_cmp back.from q)) []

-- p links to q
abbrev pub LinksTo : Backward → Root → Root → Type 0
LinksTo back p q = Contains (before_in back q) p
