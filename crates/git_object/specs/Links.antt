-- The links of an object, in the order of its bytes.
use Rattle.std.specs.Prelude.{◌≡◌, ℕ, List, [], ◌∷◌, ◌++◌, map, Option, None, Some}
use Rattle.rad_base.specs.declared.names.Oid.{Oid}
use Rattle.git_object.specs.Grammar.{Commit, Entry, IsCommit, IsTag, IsTree, Tag}
use Rattle.git_object.specs.Places.{StandsBehindParents}
use Rattle.git_object.specs.Reading.{commit_in, entries_in, tag_in}
use Rattle.git_object.specs.declared.kind.Kind.{Kind}
use Rattle.git_object.specs.declared.kind.Kind.TheVariants as kinds
use Rattle.git_object.specs.declared.link.LinkTo.{LinkTo}
use Rattle.git_object.specs.declared.mode.Mode.{Mode}
use Rattle.git_object.specs.declared.mode.Mode.TheVariants.{File, Executable, GroupFile, Symlink, Directory, Gitlink}

-- a link to the object of a name
abbrev pub link_to : Oid → Kind → LinkTo
link_to oid kind = record { oid = oid; kind = kind }

-- what an entry of this mode links to; a gitlink is no link
abbrev pub kind_of : Mode → Option Kind
kind_of File = Some kinds.Blob
kind_of Executable = Some kinds.Blob
kind_of GroupFile = Some kinds.Blob
kind_of Symlink = Some kinds.Blob
kind_of Directory = Some kinds.Tree
kind_of Gitlink = None

-- the link to a name, where there is a kind
abbrev pub link_if : Oid → Option Kind → List LinkTo
link_if oid None = []
link_if oid (Some kind) = link_to oid kind ∷ []

-- those of each entry
abbrev pub tree_links : List Entry → List LinkTo
tree_links [] = []
tree_links (entry ∷ entries) = link_if entry.oid (kind_of entry.mode) ++ tree_links entries

-- the tree, then each parent
abbrev pub commit_links : Commit → List LinkTo
commit_links commit = link_to commit.tree kinds.Tree ∷ map (λ parent. link_to parent kinds.Commit) commit.parents

-- lines of parents stand in front of the rest, and their links were added
pub record LinksParents (bytes rest : List ℕ) (old new : List LinkTo) : Type 0 where
  pub behind : StandsBehindParents bytes rest
  pub added : new ≡ old ++ map (λ parent. link_to parent kinds.Commit) behind.parents

-- what stood in a list stands at its front
abbrev pub KeepsFront : List LinkTo → List LinkTo → Type 0
KeepsFront old new = (more : List LinkTo) × (new ≡ old ++ more)

-- the object that the tag is put on
abbrev pub tag_links : Tag → List LinkTo
tag_links tag = link_to tag.object tag.kind ∷ []

-- the links of what was read, none where nothing was
abbrev pub links_if : {A : Type 0} → (A → List LinkTo) → Option A → List LinkTo
links_if of None = []
links_if of (Some x) = of x

-- the links of an object of this kind with these bytes
unfoldable pub links : Kind → List ℕ → List LinkTo
links kinds.Blob bytes = []
links kinds.Tree bytes = tree_links (entries_in bytes)
links kinds.Commit bytes = links_if commit_links (commit_in bytes)
links kinds.Tag bytes = links_if tag_links (tag_in bytes)

-- the bytes are those of an object of this kind; any bytes are a blob's
abbrev pub IsWellFormed : Kind → List ℕ → Type 0
IsWellFormed kinds.Blob bytes = Unit {0}
IsWellFormed kinds.Tree bytes = IsTree bytes
IsWellFormed kinds.Commit bytes = IsCommit bytes
IsWellFormed kinds.Tag bytes = IsTag bytes
