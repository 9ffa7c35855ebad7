-- The bundle and the keyring of a repository that is made.
use Rattle.std.specs.Prelude.{◌≡◌, ℕ, List, [], ◌∷◌, ◌++◌, codes, map}
use Rattle.std.specs.List.{flat_map}
use Rattle.std.specs.List.Sorted.{IsPermutation, IsSortedByKey}
use Rattle.sha2.specs.Sha256.{sha256}
use Rattle.hex.specs.Hex.{encode_lower}
use Rattle.git_object.specs.declared.mode.Mode.TheVariants.{Directory, File}
use Rattle.keyring.specs.Lines.{KeyringLine, accepted, file_text, named}
use Rattle.rad_base.specs.Order.{oid_cmp}
use Rattle.rad_base.specs.declared.names.Nid.{Nid}
use Rattle.rad_base.specs.declared.names.Oid.{Oid}
use Rattle.fetch_wire.specs.Bundles.{bundle_text}
use Rattle.fetch_wire.specs.Sections.{Object}
use Rattle.rad_vectors.specs.Objects.{blob, commit, entry, object_name, tree}

-- a delegate: its key, and the text of its refs
pub record Signer : Type 0 where
  pub key : Nid
  pub refs : List ℕ

-- a repository: its identity document, the names of keys, the delegates by rising key, what their refs reach
pub record Repository : Type 0 where
  pub document : List ℕ
  pub names : List (List ℕ × Nid)
  pub signers : List Signer
  pub tips : List Object

-- the tree of the document
abbrev pub embeds_tree : List ℕ → Object
embeds_tree document = tree (entry File (codes "radicle.json") (object_name (blob document)) ∷ [])

abbrev pub identity_tree : List ℕ → Object
identity_tree document = tree (entry Directory (codes "embeds") (object_name (embeds_tree document)) ∷ [])

-- the identity commit
abbrev pub identity_commit : List ℕ → Object
identity_commit document = commit (identity_tree document) [] (codes "id")

abbrev pub identity_objects : List ℕ → List Object
identity_objects document = blob document ∷ embeds_tree document ∷ identity_tree document ∷ identity_commit document ∷ []

-- the signature of a key: its 32 bytes, twice
abbrev pub signature_of : Nid → List ℕ
signature_of key = key.0 ++ key.0

-- the tree of these two blobs
abbrev pub signed_tree_of : Oid → Oid → Object
signed_tree_of refs signature = tree (entry File (codes "refs") refs ∷ entry File (codes "signature") signature ∷ [])

-- the tree of a delegate's refs and their signature
abbrev pub signed_tree : Signer → Object
signed_tree signer = signed_tree_of (object_name (blob signer.refs)) (object_name (blob (signature_of signer.key)))

-- the commit of a delegate's signed refs
abbrev pub signed_commit : Signer → Object
signed_commit signer = commit (signed_tree signer) [] (codes "sigrefs")

abbrev pub signed_objects : Signer → List Object
signed_objects signer = blob signer.refs ∷ blob (signature_of signer.key) ∷ signed_tree signer ∷ signed_commit signer ∷ []

-- the delegates' commits
abbrev pub remotes_of : List Signer → List (Nid × Oid)
remotes_of signers = map (λ signer. (signer.key, object_name (signed_commit signer))) signers

-- the same objects, in order of name
pub record IsInOrder (made objects : List Object) : Type 0 where
  pub same : IsPermutation made objects
  pub sorted : IsSortedByKey object_name oid_cmp objects

-- the bytes are the repository's bundle: it offers the identity commit and each delegate's commit, and
-- each section has its objects in order of name
pub record IsBundleOf (repository : Repository) (bytes : List ℕ) : Type 0 where
  pub identity : List Object
  pub sigs : List Object
  pub tips : List Object
  pub of_identity : IsInOrder (identity_objects repository.document) identity
  pub of_sigs : IsInOrder (flat_map signed_objects repository.signers) sigs
  pub of_tips : IsInOrder repository.tips tips
  pub text : bytes ≡ bundle_text (record {
    rid = record { 0 = object_name (blob repository.document) };
    offer = record { id = object_name (identity_commit repository.document); remotes = remotes_of repository.signers };
    identity = identity;
    sigs = sigs;
    tips = tips;
  })

-- the accept line of a delegate
abbrev pub accept_line_of : Signer → KeyringLine
accept_line_of signer = accepted (record { key = signer.key; digest = record { 0 = sha256 signer.refs }; sig = record { 0 = signature_of signer.key } })

-- the keyring: a line for each name, and one for each delegate
abbrev pub keyring_text : List (List ℕ × Nid) → List Signer → List ℕ
keyring_text names signers = file_text (map (λ pair. named pair.0 pair.1) names) ++ file_text (map accept_line_of signers)

-- a line of refs: the name of a commit in digits, a space, the ref, a line feed
abbrev pub ref_line : Oid → List ℕ → List ℕ
ref_line oid ref = encode_lower oid.0 ++ (32 ∷ (ref ++ 10 ∷ []))
