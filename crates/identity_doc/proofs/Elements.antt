-- The elements of an array, as the program holds them.
use Rattle.std.proofs.Common.{◌≡◌, List, [], ◌∷◌, map, refl, ap}
use Rattle.serde_json.specs.View.{items_view, view}
use Rattle.serde_json.specs.declared.value.Value.{Value}
use Rattle.identity_doc.specs.Documents.{elements}

-- the elements of an array's value are the values of its elements
pub elements_view : (vs : List Value) → elements (items_view vs) ≡ map view vs
elements_view [] = refl
elements_view (v ∷ vs) = ap (λ ds. view v ∷ ds) (elements_view vs)
