-- Chains of numbered commits.
use Rattle.std.specs.Prelude.{ℕ, zero, suc, List, [], ◌∷◌, ◌++◌, Option, None, Some, codes, decimal}
use Rattle.std.specs.Option.{option_to_list}
use Rattle.git_object.specs.Grammar.{Entry}
use Rattle.git_object.specs.declared.mode.Mode.TheVariants.{File, Gitlink}
use Rattle.rad_base.specs.declared.names.Oid.{Oid}
use Rattle.fetch_wire.specs.Sections.{Object}
use Rattle.rad_vectors.specs.Objects.{blob, commit, entry, object_name, tree}

-- the file of a number: the number in decimal and a line feed
abbrev pub number_blob : ℕ → Object
number_blob k = blob (decimal k ++ 10 ∷ [])

-- a submodule, if there is one
abbrev pub submodule : Option Oid → List Entry
submodule None = []
submodule (Some oid) = entry Gitlink (codes "sub") oid ∷ []

-- the tree with the file `n`, and a submodule `sub` if there is one
abbrev pub number_tree_of : Object → Option Oid → Object
number_tree_of file sub = tree (entry File (codes "n") (object_name file) ∷ submodule sub)

-- the tree of a number
abbrev pub number_tree : ℕ → Option Oid → Object
number_tree k sub = number_tree_of (number_blob k) sub

-- the commit of a number, behind the one before it if there is one
abbrev pub number_commit : ℕ → Option Oid → Option Oid → Object
number_commit k sub before = commit (number_tree k sub) (option_to_list before) (decimal k)

-- the three objects of a number
abbrev pub number_objects : ℕ → Option Oid → Option Oid → List Object
number_objects k sub before = number_blob k ∷ number_tree k sub ∷ number_commit k sub before ∷ []

-- the name of the last commit of a chain of so many, numbered from 1
unfoldable pub tip_of : ℕ → Option Oid
tip_of zero = None
tip_of (suc k) = Some (object_name (number_commit (suc k) None (tip_of k)))

-- the objects of the chain
unfoldable pub chain_objects : ℕ → List Object
chain_objects zero = []
chain_objects (suc k) = chain_objects k ++ number_objects (suc k) None (tip_of k)

-- the names of its commits, from the first
unfoldable pub chain_commits : ℕ → List Oid
chain_commits zero = []
chain_commits (suc k) = chain_commits k ++ object_name (number_commit (suc k) None (tip_of k)) ∷ []
