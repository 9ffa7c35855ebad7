-- Laws of spellings and links.
use Rattle.std.proofs.Common.{◌≡◌, ℕ, List, [], refl, sym, ap, ◌∙◌}
use Rattle.git_object.specs.Grammar.{Entry, SpellsCommit, SpellsTag, SpellsTree}
use Rattle.git_object.specs.Grammar.{Commit as CommitValue, Tag as TagValue}
use Rattle.git_object.specs.Laws.{IsOneToOne, LinksAreTheValues, WhatBreaksIsRefused}
use Rattle.git_object.specs.Links.{commit_links, links, links_if, tag_links, tree_links}
use Rattle.git_object.specs.declared.kind.Kind.TheVariants.{Blob, Tree, Commit, Tag}
use Rattle.git_object.proofs.Commits.{broken_no_commit, commit_reads, one_commit}
use Rattle.git_object.proofs.Tags.{broken_no_tag, one_tag, tag_reads}
use Rattle.git_object.proofs.TreeTexts.{broken_no_tree, one_tree, tree_reads}
use Rattle.std.specs.Prelude.{None}

-- one spelling a tree, one tree a spelling
pub tree_spelling : IsOneToOne SpellsTree
tree_spelling = record { one_spelling = λ es a b s t. s.text ∙ sym t.text; one_value = λ es fs bytes s t. one_tree es fs bytes s t }

-- one spelling a commit, one commit a spelling
pub commit_spelling : IsOneToOne SpellsCommit
commit_spelling = record { one_spelling = λ v a b s t. s.text ∙ sym t.text; one_value = one_commit }

-- one spelling a tag, one tag a spelling
pub tag_spelling : IsOneToOne SpellsTag
tag_spelling = record { one_spelling = λ v a b s t. s.text ∙ sym t.text; one_value = one_tag }

-- the links of a blob
pub blob_links_are : (bytes : List ℕ) → links Blob bytes ≡ []
unfolding links
blob_links_are bytes = refl

-- the links of a tree
pub tree_links_are : (entries : List Entry) (bytes : List ℕ) → SpellsTree entries bytes → links Tree bytes ≡ tree_links entries
unfolding links
tree_links_are entries bytes s = ap tree_links (tree_reads None entries bytes s)

-- the links of a commit
pub commit_links_are : (commit : CommitValue) (bytes : List ℕ) → SpellsCommit commit bytes → links Commit bytes ≡ commit_links commit
unfolding links
commit_links_are commit bytes s = ap (links_if commit_links) (commit_reads commit bytes s)

-- the links of a tag
pub tag_links_are : (tag : TagValue) (bytes : List ℕ) → SpellsTag tag bytes → links Tag bytes ≡ tag_links tag
unfolding links
tag_links_are tag bytes s = ap (links_if tag_links) (tag_reads tag bytes s)

-- the links of each kind
pub links_are : LinksAreTheValues
links_are = record { blob = blob_links_are; tree = tree_links_are; commit = commit_links_are; tag = tag_links_are }

-- what leaves a grammar is not in it
pub breaks_refused : WhatBreaksIsRefused
breaks_refused Blob bytes place b w = b
breaks_refused Tree bytes place b w = broken_no_tree bytes place b w
breaks_refused Commit bytes place b w = broken_no_commit bytes place b w
breaks_refused Tag bytes place b w = broken_no_tag bytes place b w
