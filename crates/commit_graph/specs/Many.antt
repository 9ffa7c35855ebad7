-- The closures of many roots.
use Rattle.std.specs.Prelude.{List, [], ◌∷◌}
use Rattle.commit_graph.specs.declared.root.Root.{Root}
use Rattle.commit_graph.specs.declared.answer.Closure.{Closure}
use Rattle.commit_graph.specs.Objects.{ObjectMap}
use Rattle.commit_graph.specs.Closures.{IsClosure}

-- the closure of each root by itself, in order
abbrev pub AreClosures : ObjectMap → List Root → List Closure → Type 0
AreClosures objects [] [] = Unit {0}
AreClosures objects [] (answer ∷ answers) = ⊥
AreClosures objects (root ∷ roots) [] = ⊥
AreClosures objects (root ∷ roots) (answer ∷ answers) =
    IsClosure objects (root ∷ []) answer × AreClosures objects roots answers
