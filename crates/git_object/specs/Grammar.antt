-- The grammar of trees, commits and tags: what a value has, and the bytes that spell it.
use Rattle.std.specs.Prelude.{◌≡◌, ◌≢◌, ℕ, ◌<◌, List, [], ◌∷◌, ◌++◌, length, codes, Option, None}
use Rattle.std.specs.List.{All, AllByRecursion}
use Rattle.hex.specs.Hex.{encode_lower}
use Rattle.rad_base.specs.Lists.{BeginsWith}
use Rattle.rad_base.specs.Order.{RiseFrom}
use Rattle.rad_base.specs.Sizes.{IsOid}
use Rattle.rad_base.specs.declared.names.Oid.{Oid}
use Rattle.git_object.specs.Names.{kind_word}
use Rattle.git_object.specs.declared.kind.Kind.{Kind}
use Rattle.git_object.specs.declared.mode.Mode.{Mode}
use Rattle.git_object.specs.declared.mode.Mode.TheVariants.{File, Executable, GroupFile, Symlink, Directory, Gitlink}

-- the text of a mode
abbrev pub mode_text : Mode → List ℕ
mode_text File = codes "100644"
mode_text Executable = codes "100755"
mode_text GroupFile = codes "100664"
mode_text Symlink = codes "120000"
mode_text Directory = codes "40000"
mode_text Gitlink = codes "160000"

-- an entry of a tree
pub record Entry : Type 0 where
  pub mode : Mode
  pub name : List ℕ
  pub oid : Oid

-- not empty, and without NUL and `/`
pub record IsName (name : List ℕ) : Type 0 where
  pub some : 0 < length name
  pub allowed : All (λ byte. (byte ≢ 0) × (byte ≢ 47)) name

-- an entry that a tree may have: its name is allowed, and it names an object by 20 bytes
pub record IsEntry (entry : Entry) : Type 0 where
  pub name : IsName entry.name
  pub oid : length entry.oid.0 ≡ 20

-- mode text, one space, name, NUL, 20 bytes of name
abbrev pub entry_text : Entry → List ℕ
entry_text entry = mode_text entry.mode ++ codes " " ++ entry.name ++ 0 ∷ [] ++ entry.oid.0

-- one `/` behind the name of a directory
abbrev pub slash_of : Mode → List ℕ
slash_of Directory = 47 ∷ []
slash_of File = []
slash_of Executable = []
slash_of GroupFile = []
slash_of Symlink = []
slash_of Gitlink = []

-- what entries are in order of
abbrev pub order_key : Entry → List ℕ
order_key entry = entry.name ++ slash_of entry.mode

-- each key is below the next, the first above the key before, where there is one
abbrev pub IsRisingFrom : Option (List ℕ) → List Entry → Type 0
IsRisingFrom before entries = RiseFrom order_key before entries

-- the texts of the entries, one after the other
abbrev pub tree_text : List Entry → List ℕ
tree_text [] = []
tree_text (entry ∷ entries) = entry_text entry ++ tree_text entries

-- entries that rise from a key, where there is one before, and the bytes that spell them
pub record SpellsEntries (before : Option (List ℕ)) (entries : List Entry) (bytes : List ℕ) : Type 0 where
  pub each : AllByRecursion IsEntry entries
  pub rising : IsRisingFrom before entries
  pub text : bytes ≡ tree_text entries

-- the bytes of the tree that has these entries
abbrev pub SpellsTree : List Entry → List ℕ → Type 0
SpellsTree entries bytes = SpellsEntries None entries bytes

-- the bytes of a tree
abbrev pub IsTree : List ℕ → Type 0
IsTree bytes = (entries : List Entry) × SpellsTree entries bytes

-- a line of a word and the 40 digits of a name
abbrev pub oid_line : List ℕ → Oid → List ℕ
oid_line word oid = word ++ encode_lower oid.0 ++ 10 ∷ []

-- a commit: its tree, its parents, and all that follows them
pub record Commit : Type 0 where
  pub tree : Oid
  pub parents : List Oid
  pub rest : List ℕ

-- a line for each parent
abbrev pub parents_text : List Oid → List ℕ
parents_text [] = []
parents_text (parent ∷ parents) = oid_line (codes "parent ") parent ++ parents_text parents

-- the line of the tree, a line for each parent, the rest
abbrev pub commit_text : Commit → List ℕ
commit_text commit = oid_line (codes "tree ") commit.tree ++ (parents_text commit.parents ++ commit.rest)

-- the bytes of this commit
pub record SpellsCommit (commit : Commit) (bytes : List ℕ) : Type 0 where
  pub tree : IsOid commit.tree
  pub parents : AllByRecursion IsOid commit.parents
  pub rest : BeginsWith (codes "author ") commit.rest
  pub text : bytes ≡ commit_text commit

-- the bytes of a commit
abbrev pub IsCommit : List ℕ → Type 0
IsCommit bytes = (commit : Commit) × SpellsCommit commit bytes

-- a tag: the object that it is put on, that object's kind, and all that follows
pub record Tag : Type 0 where
  pub object : Oid
  pub kind : Kind
  pub rest : List ℕ

-- the line of the object's kind
abbrev pub type_line : Kind → List ℕ
type_line kind = codes "type " ++ kind_word kind ++ 10 ∷ []

-- the line of the object, the line of its kind, the rest
abbrev pub tag_text : Tag → List ℕ
tag_text tag = oid_line (codes "object ") tag.object ++ (type_line tag.kind ++ tag.rest)

-- the bytes of this tag
pub record SpellsTag (tag : Tag) (bytes : List ℕ) : Type 0 where
  pub object : IsOid tag.object
  pub rest : BeginsWith (codes "tag ") tag.rest
  pub text : bytes ≡ tag_text tag

-- the bytes of a tag
abbrev pub IsTag : List ℕ → Type 0
IsTag bytes = (tag : Tag) × SpellsTag tag bytes
