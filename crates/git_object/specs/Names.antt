-- The names of objects.
use Rattle.std.specs.Prelude.{ℕ, List, [], ◌∷◌, ◌++◌, length, codes}
use Rattle.std.specs.Fmt.{decimal}
use Rattle.sha1.specs.Sha1.{sha1}
use Rattle.rad_base.specs.declared.names.Oid.{Oid}
use Rattle.git_object.specs.declared.kind.Kind.{Kind}
use Rattle.git_object.specs.declared.kind.Kind.TheVariants.{Blob, Tree, Commit, Tag}

-- the word of a kind
abbrev pub kind_word : Kind → List ℕ
kind_word Blob = codes "blob"
kind_word Tree = codes "tree"
kind_word Commit = codes "commit"
kind_word Tag = codes "tag"

-- the kind's word, a space, the length in decimal, a zero byte, the content
abbrev pub named_bytes : Kind → List ℕ → List ℕ
named_bytes kind bytes = kind_word kind ++ codes " " ++ decimal (length bytes) ++ 0 ∷ [] ++ bytes

-- the SHA-1 of these
unfoldable pub name : Kind → List ℕ → Oid
name kind bytes = record { 0 = sha1 (named_bytes kind bytes) }
