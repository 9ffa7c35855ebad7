-- The objects that vectors are made of.
use Rattle.std.specs.Prelude.{ℕ, List, [], ◌∷◌, ◌++◌, codes}
use Rattle.git_object.specs.Grammar.{Entry, commit_text, tree_text}
use Rattle.git_object.specs.Names.{name}
use Rattle.git_object.specs.declared.kind.Kind.TheVariants as kinds
use Rattle.git_object.specs.declared.mode.Mode.{Mode}
use Rattle.rad_base.specs.declared.names.Oid.{Oid}
use Rattle.fetch_wire.specs.Sections.{Object}

-- the name of an object
abbrev pub object_name : Object → Oid
object_name object = name object.0 object.1

-- a blob
abbrev pub blob : List ℕ → Object
blob content = (kinds.Blob, content)

-- an entry of a tree
abbrev pub entry : Mode → List ℕ → Oid → Entry
entry mode word oid = record { mode = mode; name = word; oid = oid }

-- the tree with these entries
abbrev pub tree : List Entry → Object
tree entries = (kinds.Tree, tree_text entries)

-- the lines of the author and of the committer, and an empty line
abbrev pub people : List ℕ
people = codes "author a <a@b> 0 +0000\ncommitter a <a@b> 0 +0000\n\n"

-- the commit of a tree with these parents, whose message is a word and a line feed
abbrev pub commit : Object → List Oid → List ℕ → Object
commit of parents word =
    (kinds.Commit, commit_text (record { tree = object_name of; parents = parents; rest = people ++ (word ++ 10 ∷ []) }))
