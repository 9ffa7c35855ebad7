-- The repository of three delegates.
use Rattle.std.specs.Prelude.{ℕ, ◌+◌, ◌/◌, ◌%◌, List, [], ◌∷◌, ◌++◌, Option, None, Some, codes, replicate, take}
use Rattle.git_object.specs.Grammar.{tag_text}
use Rattle.git_object.specs.declared.kind.Kind.TheVariants as kinds
use Rattle.rad_base.specs.declared.names.Nid.{Nid}
use Rattle.rad_base.specs.declared.names.Oid.{Oid}
use Rattle.fetch_wire.specs.Sections.{Object}
use Rattle.rad_vectors.specs.Chains.{chain_commits, chain_objects, number_commit, number_objects, tip_of}
use Rattle.rad_vectors.specs.Generated.{master_line}
use Rattle.rad_vectors.specs.Objects.{object_name}
use Rattle.rad_vectors.specs.Repositories.{Repository, Signer, identity_commit, identity_objects, ref_line}

-- the key of 32 equal bytes
abbrev pub key_filled_with : ℕ → Nid
key_filled_with byte = record { 0 = replicate 32 byte }

-- the document: of three delegates two agree
abbrev pub fixture_document : List ℕ
fixture_document = codes "{\"delegates\":[\"did:key:z6MkOne\",\"did:key:z6MkTwo\",\"did:key:z6MkThree\"],\"payload\":{\"xyz.radicle.project\":{\"defaultBranch\":\"master\",\"description\":\"\",\"name\":\"heart\"}},\"threshold\":2}"

-- what the keyring calls them
abbrev pub fixture_names : List (List ℕ × Nid)
fixture_names =
    (codes "did:key:z6MkOne", key_filled_with 17) ∷ (codes "did:key:z6MkTwo", key_filled_with 34) ∷ (codes "did:key:z6MkThree", key_filled_with 51) ∷ []

-- the submodule of the last commit: 20 bytes 77
abbrev pub fixture_submodule : Option Oid
fixture_submodule = Some (record { 0 = replicate 20 119 })

-- the last commit but one and the last, behind so many
abbrev pub next_to_last : ℕ → Object
next_to_last m = number_commit (m + 1) None (tip_of m)

abbrev pub last_commit : ℕ → Object
last_commit m = number_commit (m + 2) fixture_submodule (Some (object_name (next_to_last m)))

-- the tag on a commit
abbrev pub tag_on : Oid → Object
tag_on commit = (kinds.Tag, tag_text (record { object = commit; kind = kinds.Commit; rest = codes "tag v1\ntagger a <a@b> 0 +0000\n\nv1\n" }))

-- the tag of the last commit
abbrev pub fixture_tag : ℕ → Object
fixture_tag m = tag_on (object_name (last_commit m))

-- the branch of a number below 100, in two digits
abbrev pub branch_name : ℕ → List ℕ
branch_name j = codes "refs/heads/b" ++ ((48 + j / 10) ∷ (48 + j % 10) ∷ [])

-- a branch for each commit, numbered from j
abbrev pub branch_lines : ℕ → List Oid → List ℕ
branch_lines j [] = []
branch_lines j (oid ∷ oids) = ref_line oid (branch_name j) ++ branch_lines (j + 1) oids

-- the refs of the first delegate: its branches, `master`, the identity, the tag
abbrev pub first_lines : List Oid → Oid → Oid → Oid → List ℕ
first_lines branches last identity tag =
    branch_lines 0 branches ++ (ref_line last (codes "refs/heads/master") ++ (ref_line identity (codes "refs/rad/root") ++ ref_line tag (codes "refs/tags/v1")))

-- these refs, with 17 branches at the first commits
abbrev pub first_refs : ℕ → List ℕ
first_refs m = first_lines (take 17 (chain_commits m)) (object_name (last_commit m)) (object_name (identity_commit fixture_document)) (object_name (fixture_tag m))

-- the delegates with the texts of their refs
abbrev pub fixture_signers : List ℕ → List ℕ → List ℕ → List Signer
fixture_signers one two three =
    record { key = key_filled_with 17; refs = one } ∷ record { key = key_filled_with 34; refs = two } ∷ record { key = key_filled_with 51; refs = three } ∷ []

-- the commits and the tag
abbrev pub fixture_history : ℕ → List Object
fixture_history m =
    ((chain_objects m ++ number_objects (m + 1) None (tip_of m)) ++ number_objects (m + 2) fixture_submodule (Some (object_name (next_to_last m)))) ++ fixture_tag m ∷ []

-- what the refs reach: the commits, the tag and the identity
abbrev pub fixture_tips : ℕ → List Object
fixture_tips m = fixture_history m ++ identity_objects fixture_document

-- the repository of these refs, and of what they reach
abbrev pub fixture_with : List ℕ → List ℕ → List ℕ → List Object → Repository
fixture_with one two three tips =
    record { document = fixture_document; names = fixture_names; signers = fixture_signers one two three; tips = tips }

-- the repository of so many commits and two more: the last is the first delegate's, the one before it the
-- second's, the one before that the third's
abbrev pub fixture_of : ℕ → Repository
fixture_of m =
    fixture_with (first_refs m) (master_line (Some (object_name (next_to_last m)))) (master_line (tip_of m)) (fixture_tips m)
