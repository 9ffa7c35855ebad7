-- Which delegates signed a change of an identity document.
use Rattle.std.specs.Prelude.{ℕ, ◌+◌, ◌/◌, List, [], ◌∷◌, ◌++◌, codes, Bool, ◌&&◌}
use Rattle.std.specs.List.{list_any, count_by}
use Rattle.std.specs.Ordering.{eq_by_cmp}
use Rattle.hex.specs.Hex.{encode_lower}
use Rattle.rad_base.specs.declared.names.Nid.{Nid}
use Rattle.rad_base.specs.declared.names.Oid.{Oid}
use Rattle.rad_base.specs.Order.{nid_cmp}
use Rattle.keyring.specs.Contents.{Contents, accepts}
use Rattle.identity_doc.specs.declared.signatures.SignatureLine.{SignatureLine}

-- what is signed at a change: the parent commit, and the document blob of the commit that changes
abbrev pub change_message : Oid → Oid → List ℕ
change_message parent document = codes "rad-id 1 " ++ encode_lower parent.0 ++ 32 ∷ encode_lower document.0 ++ 10 ∷ []

-- the line is of this key, and the keyring accepts its signature over the message
abbrev pub is_accepted_of : Contents → List ℕ → Nid → SignatureLine → Bool
is_accepted_of keyring message key line = eq_by_cmp nid_cmp line.key key && accepts keyring key message line.sig

-- an accepted line is of this key
abbrev pub has_signed : Contents → List ℕ → List SignatureLine → Nid → Bool
has_signed keyring message lines key = list_any (is_accepted_of keyring message key) lines

-- how many of the delegates have an accepted line
abbrev pub signed_by : Contents → List ℕ → List SignatureLine → List Nid → ℕ
signed_by keyring message lines delegates = count_by (has_signed keyring message lines) delegates

-- the least number that is more than half of n
abbrev pub majority : ℕ → ℕ
majority n = n / 2 + 1
