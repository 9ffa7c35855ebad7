use Rattle.std.proofs.Common.{◌≡◌, ◌++◌, map, drop, option_map}
use Rattle.serde_json.specs.View.{view}
use Rattle.identity_doc.specs.Documents.{all_of, key_in}
use Rattle.identity_doc.proofs.visibility.all_keys.Given as goal

-- the keys so far and those of the elements that are left are the answer
abbrev pub invariant-loop-element : goal.invariant-loop-element
invariant-loop-element l =
    option_map (λ rest. l.keys ++ rest) (all_of (map (key_in l.keyring) (map view (drop l.element-index l.elements))))
    ≡ all_of (map (key_in l.keyring) (map view l.elements))
