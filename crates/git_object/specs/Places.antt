-- The places at which bytes leave a grammar: all units before a place are whole and good, and no good unit stands there.
use Rattle.std.specs.Prelude.{◌≡◌, ℕ, ◌<◌, ◌≤◌, ◌⊎◌, List, ◌++◌, length, take, drop, codes, Option}
use Rattle.std.specs.List.{AllByRecursion}
use Rattle.rad_base.specs.Sizes.{IsOid}
use Rattle.rad_base.specs.declared.names.Oid.{Oid}
use Rattle.rad_base.specs.Lists.{BeginsWith}
use Rattle.rad_base.specs.Order.{IsBelow}
use Rattle.git_object.specs.Grammar.{Entry, IsEntry, IsTree, entry_text, order_key, oid_line, parents_text, type_line}
use Rattle.git_object.specs.declared.kind.Kind.{Kind}
use Rattle.git_object.specs.declared.kind.Kind.TheVariants.{Blob, Tree, Commit, Tag}

-- no entry that may stand behind a key stands at the front
abbrev pub HasNoEntryAbove : Option (List ℕ) → List ℕ → Type 0
HasNoEntryAbove last bytes = (entry : Entry) (rest : List ℕ) → IsEntry entry → bytes ≡ entry_text entry ++ rest → IsBelow last (order_key entry) → ⊥

-- what stands before the place is a tree, and no entry at the place would make it a longer one
pub record BreaksTree (bytes : List ℕ) (place : ℕ) : Type 0 where
  pub inside : place < length bytes
  pub before : IsTree (take place bytes)
  pub broken : (entry : Entry) (rest : List ℕ) → drop place bytes ≡ entry_text entry ++ rest → IsTree (take place bytes ++ entry_text entry) → ⊥

-- no line of the word and a name stands at the front
abbrev pub HasNoLine : List ℕ → List ℕ → Type 0
HasNoLine word bytes = (oid : Oid) (rest : List ℕ) → IsOid oid → bytes ≡ oid_line word oid ++ rest → ⊥

-- lines of parents stand before a rest, and none at its front
pub record StandsBehindParents (bytes rest : List ℕ) : Type 0 where
  pub parents : List Oid
  pub each : AllByRecursion IsOid parents
  pub text : bytes ≡ parents_text parents ++ rest
  pub no_parent : HasNoLine (codes "parent ") rest

-- the line of the tree and lines of parents stand before the place, and neither a parent's line nor `author ` at it
pub record BreaksBehindTree (bytes : List ℕ) (place : ℕ) : Type 0 where
  pub tree : Oid
  pub parents : List Oid
  pub tree_is : IsOid tree
  pub parents_are : AllByRecursion IsOid parents
  pub inside : place ≤ length bytes
  pub before : take place bytes ≡ oid_line (codes "tree ") tree ++ parents_text parents
  pub no_parent : HasNoLine (codes "parent ") (drop place bytes)
  pub no_rest : BeginsWith (codes "author ") (drop place bytes) → ⊥

-- no line of a tree stands at the front, or the break is behind one
abbrev pub BreaksCommit : List ℕ → ℕ → Type 0
BreaksCommit bytes place = ((place ≡ 0) × HasNoLine (codes "tree ") bytes) ⊎ BreaksBehindTree bytes place

-- no line of a kind stands at the front
abbrev pub HasNoType : List ℕ → Type 0
HasNoType bytes = (kind : Kind) (rest : List ℕ) → bytes ≡ type_line kind ++ rest → ⊥

-- the line of the object stands before the place, and none of a kind at it
pub record BreaksAtType (bytes : List ℕ) (place : ℕ) : Type 0 where
  pub object : Oid
  pub object_is : IsOid object
  pub inside : place ≤ length bytes
  pub before : take place bytes ≡ oid_line (codes "object ") object
  pub no_type : HasNoType (drop place bytes)

-- the lines of the object and of its kind stand before the place, and no `tag ` at it
pub record BreaksBehindType (bytes : List ℕ) (place : ℕ) : Type 0 where
  pub object : Oid
  pub kind : Kind
  pub object_is : IsOid object
  pub inside : place ≤ length bytes
  pub before : take place bytes ≡ oid_line (codes "object ") object ++ type_line kind
  pub no_rest : BeginsWith (codes "tag ") (drop place bytes) → ⊥

-- no line of an object stands at the front, or the break is behind one, or behind one of a kind
abbrev pub BreaksTag : List ℕ → ℕ → Type 0
BreaksTag bytes place =
    ((place ≡ 0) × HasNoLine (codes "object ") bytes) ⊎ BreaksAtType bytes place ⊎ BreaksBehindType bytes place

-- the place at which bytes leave the grammar of a kind; those of a blob leave it nowhere
abbrev pub Breaks : Kind → List ℕ → ℕ → Type 0
Breaks Blob bytes place = ⊥
Breaks Tree bytes place = BreaksTree bytes place
Breaks Commit bytes place = BreaksCommit bytes place
Breaks Tag bytes place = BreaksTag bytes place
