-- Laws of spellings and links.
use Rattle.std.specs.Prelude.{◌≡◌, ℕ, List, []}
use Rattle.std.specs.Prelude.{Some}
use Rattle.git_object.specs.Grammar.{Commit, Entry, SpellsCommit, SpellsTag, SpellsTree, Tag}
use Rattle.git_object.specs.Links.{IsWellFormed, commit_links, links, tag_links, tree_links}
use Rattle.git_object.specs.Places.{Breaks}
use Rattle.git_object.specs.Reading.{commit_in, entries_in, tag_in}
use Rattle.git_object.specs.declared.kind.Kind.{Kind}
use Rattle.git_object.specs.declared.kind.Kind.TheVariants as kinds

-- each value has one spelling, and each spelling one value
pub record IsOneToOne {V : Type 0} (Spells : V → List ℕ → Type 0) : Type 0 where
  pub one_spelling : (value : V) (a b : List ℕ) → Spells value a → Spells value b → a ≡ b
  pub one_value : (v w : V) (bytes : List ℕ) → Spells v bytes → Spells w bytes → v ≡ w

-- what spells entries is read as them
abbrev pub TreeIsReadBack : Type 0
TreeIsReadBack = (entries : List Entry) (bytes : List ℕ) → SpellsTree entries bytes → entries_in bytes ≡ entries

-- what spells a commit is read as it
abbrev pub CommitIsReadBack : Type 0
CommitIsReadBack = (commit : Commit) (bytes : List ℕ) → SpellsCommit commit bytes → commit_in bytes ≡ Some commit

-- what spells a tag is read as it
abbrev pub TagIsReadBack : Type 0
TagIsReadBack = (tag : Tag) (bytes : List ℕ) → SpellsTag tag bytes → tag_in bytes ≡ Some tag

-- the links of bytes are those of the value that they spell
pub record LinksAreTheValues : Type 0 where
  pub blob : (bytes : List ℕ) → links kinds.Blob bytes ≡ []
  pub tree : (entries : List Entry) (bytes : List ℕ) → SpellsTree entries bytes → links kinds.Tree bytes ≡ tree_links entries
  pub commit : (commit : Commit) (bytes : List ℕ) → SpellsCommit commit bytes → links kinds.Commit bytes ≡ commit_links commit
  pub tag : (tag : Tag) (bytes : List ℕ) → SpellsTag tag bytes → links kinds.Tag bytes ≡ tag_links tag

-- bytes leave the grammar of a kind at one place at most
abbrev pub BreakAtOnePlace : Type 0
BreakAtOnePlace = (kind : Kind) (bytes : List ℕ) (p q : ℕ) → Breaks kind bytes p → Breaks kind bytes q → p ≡ q

-- bytes that leave the grammar of a kind are not those of an object of the kind
abbrev pub WhatBreaksIsRefused : Type 0
WhatBreaksIsRefused = (kind : Kind) (bytes : List ℕ) (place : ℕ) → Breaks kind bytes place → IsWellFormed kind bytes → ⊥
