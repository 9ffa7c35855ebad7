-- Names of refs under the namespace of a node.
use Rattle.std.specs.Prelude.{ℕ, List, ◌++◌, codes}
use Rattle.hex.specs.Hex.{encode_lower}
use Rattle.rad_base.specs.declared.names.Nid.{Nid}

-- the words, the 64 digits of the node's key, a slash and the name
abbrev pub namespaced : Nid → List ℕ → List ℕ
namespaced node name = codes "refs/namespaces/" ++ encode_lower node.0 ++ codes "/" ++ name
