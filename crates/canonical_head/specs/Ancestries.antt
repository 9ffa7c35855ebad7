-- The histories of some tips, by the numbers of their commits.
use Rattle.std.specs.Prelude.{◌≡◌, ℕ, ◌<◌, ◌≤◌, ◌⊎◌, ◌↔◌, List, [], ◌∷◌, ◌++◌, length, Contains, slice_get, Option, Some}
use Rattle.std.specs.Option.{ForSome}
use Rattle.rad_base.specs.declared.names.Oid.{Oid}
use Rattle.rad_base.specs.Lists.{AllDiffer}
use Rattle.git_object.specs.declared.kind.Kind.TheVariants.{Commit}
use Rattle.git_object.specs.Links.{links, IsWellFormed}
use Rattle.commit_graph.specs.Chains.{linked_commits}
use Rattle.commit_graph.specs.Histories.{IsParent, InHistory}
use Rattle.commit_graph.specs.Lists.{Extends}
use Rattle.commit_graph.specs.Objects.{ObjectMap}
use Rattle.commit_graph.specs.Pairs.{as_commit}
use Rattle.commit_graph.specs.Walks.{Reached}
use Rattle.canonical_head.specs.declared.ancestry.Ancestry.{Ancestry}
use Rattle.canonical_head.specs.Numbers.{AreNumbers}

-- the second commit is a parent of the first
abbrev pub IsParentOf : ObjectMap → Oid → Oid → Type 0
IsParentOf objects child parent = IsParent objects (as_commit child) (as_commit parent)

-- these are the parents of the commit
abbrev pub AreParents : ObjectMap → Oid → List Oid → Type 0
AreParents objects oid parents = (parent : Oid) → Contains parents parent ↔ IsParentOf objects oid parent

-- these are the parents that the content of a commit names; none where it is malformed
abbrev pub ReadsParents : List ℕ → List Oid → Type 0
ReadsParents bytes parents =
    (IsWellFormed Commit bytes × (parents ≡ linked_commits (links Commit bytes))) ⊎ ((IsWellFormed Commit bytes → ⊥) × (parents ≡ []))

-- the names are on the new list, which is the old one with those that it lacked, and the row has their places there
pub record IsNumberedAs (old names new : List Oid) (row : List ℕ) : Type 0 where
  pub grown : Extends old names new
  pub numbers : AreNumbers new names row

-- the parents of a commit were numbered, and one row more has their numbers
pub record AddsParents (content : Option ObjectMap) (oid : Oid) (old new : List Oid) (rows rows' : List (List ℕ)) : Type 0 where
  pub names : List Oid
  pub row : List ℕ
  pub are : ForSome content (λ m. AreParents m oid names)
  pub numbered : IsNumberedAs old names new row
  pub is : rows' ≡ rows ++ row ∷ []

-- the second number stands in the row of the first
pub record IsNext (rows : List (List ℕ)) (a b : ℕ) : Type 0 where
  pub row : List ℕ
  pub there : slice_get rows a ≡ Some row
  pub among : Contains row b

-- a search goes on from where it starts, and from numbers from a limit on
abbrev pub GoesOn : ℕ → ℕ → ℕ → Type 0
GoesOn start ends number = (number ≡ start) ⊎ (ends ≤ number)

-- the second number stands in the row of the first, from which a search goes on
pub record IsNextFrom (rows : List (List ℕ)) (start ends a b : ℕ) : Type 0 where
  pub next : IsNext rows a b
  pub on : GoesOn start ends a

-- each number in a row has a row
abbrev pub IsInside : List (List ℕ) → Type 0
IsInside rows = (a b : ℕ) → IsNext rows a b → b < length rows

-- as many rows as are wanted, which lead from each of their numbers to those of them to which the other rows do
pub record LeadAlike (rows : List (List ℕ)) (count : ℕ) (short : List (List ℕ)) : Type 0 where
  pub counted : length short ≡ count
  pub inside : IsInside short
  pub alike : (i j : ℕ) → i < count → j < count → Reached (IsNext short) (j ∷ []) i ↔ Reached (IsNext rows) (j ∷ []) i

-- each tip stands once, and each number has a row
pub record IsWellNumbered (ancestry : Ancestry) : Type 0 where
  pub differ : AllDiffer ancestry.tips.items
  pub counted : length ancestry.tips.items ≤ length ancestry.parents
  pub inside : IsInside ancestry.parents

-- rows lead from one tip to another exactly where that lies in the history of the first
abbrev pub RowsTell : ObjectMap → List (List ℕ) → List Oid → Type 0
RowsTell objects rows commits =
    (i j : ℕ) (old new : Oid) → slice_get commits i ≡ Some old → slice_get commits j ≡ Some new
    → Reached (IsNext rows) (j ∷ []) i ↔ InHistory objects old new

-- the tips are there, and the rows tell their histories
pub record IsAncestry (objects : ObjectMap) (tips : List Oid) (ancestry : Ancestry) : Type 0 where
  pub has : (tip : Oid) → Contains tips tip → Contains ancestry.tips.items tip
  pub told : RowsTell objects ancestry.parents ancestry.tips.items

-- the tip is one whose number was found
abbrev pub IsFoundTip : List Oid → List ℕ → Oid → Type 0
IsFoundTip tips found oid = (i : ℕ) × (slice_get tips i ≡ Some oid) × Contains found i
