-- Links as they are added to a list.
use Rattle.std.proofs.Common.{◌≡◌, ℕ, ◌-◌, List, [], ◌∷◌, ◌++◌, map, length, None, Result, Ok, Err, inl, refl, sym, ap, ◌∙◌, append_assoc}
use Rattle.std.specs.Prelude.{OnErr, codes}
use Rattle.std.proofs.lemmas.List.{append-nil, map-append}
use Rattle.rad_base.specs.Lists.{BeginsWith}
use Rattle.rad_base.specs.Sizes.{IsOid}
use Rattle.rad_base.specs.declared.names.Oid.{Oid}
use Rattle.git_object.specs.Faults.{IsBadAt}
use Rattle.git_object.specs.Grammar.{Entry, IsCommit, SpellsTag, SpellsTree, oid_line}
use Rattle.git_object.specs.Grammar.{Tag as TagValue}
use Rattle.git_object.specs.Links.{KeepsFront, LinksParents, link_to, links, tree_links}
use Rattle.git_object.specs.Places.{BreaksCommit, HasNoLine}
use Rattle.git_object.specs.Reading.{entries_in, parents_in}
use Rattle.git_object.specs.declared.kind.Kind.TheVariants.{Tree, Commit, Tag}
use Rattle.git_object.specs.declared.link.LinkTo.{LinkTo}
use Rattle.git_object.proofs.Commits.{broken_no_commit, broken_rest, commit_parts}
use Rattle.git_object.proofs.Lines.{HasReadParents, parents_end, parents_more, parents_read, parents_start}
use Rattle.git_object.proofs.SpellingLaws.{commit_links_are, tag_links_are}
use Rattle.git_object.proofs.TreeTexts.{tree_reads}

-- what holds is so at an error
pub at_error : {T E P : Type 0} (result : Result T E) → P → OnErr result P
at_error (Ok value) holds = tt
at_error (Err fault) holds = holds

-- nothing was put behind a list
pub front_same : (old : List LinkTo) → KeepsFront old old
front_same old = ([], sym (append-nil old))

-- no link of a tree is added yet
pub tree_begun : (bytes : List ℕ) (entries left : List Entry) (old : List LinkTo) → SpellsTree entries bytes → left ≡ entries
    → old ++ tree_links (entries_in bytes) ≡ old ++ tree_links left
tree_begun bytes entries left old s same =
    ap (λ (l : List Entry). old ++ tree_links l) (tree_reads None entries bytes s ∙ sym same)

-- all links of a tree are added
pub tree_ended : (bytes : List ℕ) (left : List Entry) (old items : List LinkTo) → old ++ tree_links (entries_in bytes) ≡ items ++ tree_links left → left ≡ []
    → items ≡ old ++ links Tree bytes
unfolding links
tree_ended bytes left old items h none =
    sym (h ∙ ap (λ (l : List Entry). items ++ tree_links l) none ∙ append-nil items)

-- the links to the parents that were read
pub record Gathered (bytes rest : List ℕ) (old new : List LinkTo) : Type 0 where
  pub read : HasReadParents bytes rest
  pub added : new ≡ old ++ map (λ parent. link_to parent Commit) read.parents

-- none at the start
pub gather_start : (bytes : List ℕ) (old : List LinkTo) → Gathered bytes bytes old old
gather_start bytes old = record { read = parents_start bytes; added = sym (append-nil old) }

-- one more
pub gather_more : (bytes rest more : List ℕ) (old mid new : List LinkTo) (p : Oid)
    → Gathered bytes rest old mid → IsOid p → rest ≡ oid_line (codes "parent ") p ++ more
    → new ≡ mid ++ link_to p Commit ∷ [] → Gathered bytes more old new
gather_more bytes rest more old mid new p g is h e = record {
  read = parents_more bytes rest more p g.read is h;
  added =
      e ∙ ap (λ (l : List LinkTo). l ++ link_to p Commit ∷ []) g.added
      ∙ append_assoc old (map (λ parent. link_to parent Commit) g.read.parents) (link_to p Commit ∷ [])
      ∙ ap (λ (l : List LinkTo). old ++ l) (sym (map-append (λ parent. link_to parent Commit) g.read.parents (p ∷ [])));
}

-- all of them
pub gather_end : (bytes rest : List ℕ) (old new : List LinkTo) → Gathered bytes rest old new
    → HasNoLine (codes "parent ") rest → LinksParents bytes rest old new
gather_end bytes rest old new g none = record { behind = parents_end bytes rest g.read none; added = g.added }

module _ (bytes behind rest : List ℕ) (tree : Oid) (is : IsOid tree) (text : bytes ≡ oid_line (codes "tree ") tree ++ behind) where
  -- the links of a commit are added
  pub commit_ended : (old mid items : List LinkTo) → mid ≡ old ++ link_to tree Tree ∷ []
      → LinksParents behind rest mid items → BeginsWith (codes "author ") rest
      → items ≡ old ++ links Commit bytes
  commit_ended old mid items one l begins =
      let s = commit_parts bytes behind rest tree is text l.behind begins in
      let same : parents_in behind ≡ l.behind.parents =
      ap parents_in l.behind.text ∙ parents_read l.behind.parents rest l.behind.each l.behind.no_parent in
      let parents : List LinkTo = map (λ parent. link_to parent Commit) l.behind.parents in
      l.added
      ∙ ap (λ (xs : List LinkTo). xs ++ parents) one
      ∙ append_assoc old (link_to tree Tree ∷ []) parents
      ∙ ap (λ (ps : List Oid). old ++ link_to tree Tree ∷ map (λ parent. link_to parent Commit) ps) (sym same)
      ∙ ap (λ (xs : List LinkTo). old ++ xs) (sym (commit_links_are (record { tree = tree; parents = parents_in behind; rest = rest }) bytes s))

  pub commit_is : (old new : List LinkTo) → LinksParents behind rest old new
      → BeginsWith (codes "author ") rest → IsCommit bytes
  commit_is old new l begins = (_, commit_parts bytes behind rest tree is text l.behind begins)

  -- or the bytes are broken behind them
  pub commit_broken : (old new : List LinkTo) (place : ℕ) → LinksParents behind rest old new
      → (BeginsWith (codes "author ") rest → ⊥) → place ≡ length bytes - length rest
      → IsBadAt Commit bytes place
  commit_broken old new place l none at =
      let broken = broken_rest bytes behind rest tree place is text l.behind none at in
      record { broken = broken; refused = broken_no_commit bytes place broken }

-- no line of a tree stands at the front
pub commit_no_tree : (bytes : List ℕ) → HasNoLine (codes "tree ") bytes → IsBadAt Commit bytes 0
commit_no_tree bytes none =
    let broken : BreaksCommit bytes 0 = inl (refl, none) in
    record { broken = broken; refused = broken_no_commit bytes 0 broken }

-- the link of a tag is added
pub tag_ended : (bytes : List ℕ) (tag : TagValue) (old items : List LinkTo) → SpellsTag tag bytes → items ≡ old ++ link_to tag.object tag.kind ∷ []
    → items ≡ old ++ links Tag bytes
tag_ended bytes tag old items s one = one ∙ ap (λ (l : List LinkTo). old ++ l) (sym (tag_links_are tag bytes s))
