use Rattle.std.proofs.Common.{◌≡◌, length, map, drop}
use Rattle.serde_json.specs.View.{view}
use Rattle.identity_doc.specs.Documents.{key_in, keys_behind, element_keys}
use Rattle.identity_doc.proofs.delegates.element_keys.Given as goal

abbrev pub invariant-loop-element : goal.invariant-loop-element
invariant-loop-element l = record {
  -- the keys so far and the elements that are left decide the answer
  decided : keys_behind l.keys (map (key_in l.keyring) (map view (drop l.element-index l.elements))) ≡ element_keys l.keyring (map view l.elements);
  count : length l.keys ≡ l.element-index;
}
