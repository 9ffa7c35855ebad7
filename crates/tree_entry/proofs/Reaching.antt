-- What a commit embeds is reached from it, and so is there where the commit is closed.
use Rattle.std.proofs.Common.{◌≡◌, ℕ, List, [], ◌∷◌, ◌++◌, Some, refl, sym, ap, subst, ◌∙◌, ⊎_elim}
use Rattle.std.specs.Prelude.{Contains, map}
use Rattle.std.proofs.lemmas.List.Elements.{Contains-append_left, Contains-append_right}
use Rattle.rad_base.specs.declared.names.Oid.{Oid}
use Rattle.rad_base.proofs.Members.{contains_cases, contains_head, contains_nothing, map_has}
use Rattle.git_object.specs.Grammar.{Commit, Entry}
use Rattle.git_object.specs.Links.{kind_of, link_if, link_to, links, tree_links}
use Rattle.git_object.specs.declared.kind.Kind.{Kind}
use Rattle.git_object.specs.declared.kind.Kind.TheVariants as kinds
use Rattle.git_object.proofs.SpellingLaws.{commit_links_are, tree_links_are}
use Rattle.commit_graph.specs.Objects.{ObjectMap}
use Rattle.commit_graph.specs.Pairs.{IsLink, as_commit, pair_of}
use Rattle.commit_graph.specs.Closures.{IsClosed, IsReached}
use Rattle.commit_graph.specs.declared.root.Root.{Root}
use Rattle.commit_graph.proofs.Walked.{reached_step}
use Rattle.tree_entry.specs.Embedded.{HasEmbedded}
use Rattle.tree_entry.specs.Entries.{HasCommit, HasCommitEntry, HasEntry}

-- a name as of a kind
abbrev as_kind : Oid → Kind → Root
as_kind oid kind = record { oid = oid; kind = Some kind }

-- an entry is one of the links of its tree
entry_link : (entries : List Entry) (entry : Entry) (kind : Kind) → Contains entries entry → kind_of entry.mode ≡ Some kind
    → Contains (tree_links entries) (link_to entry.oid kind)
entry_link [] entry kind c e = absurd (contains_nothing entry c)
entry_link (x ∷ entries) entry kind c e =
    ⊎_elim
    (λ first.
    let own : link_if x.oid (kind_of x.mode) ≡ link_to entry.oid kind ∷ [] = ap (λ (y : Entry). link_if y.oid (kind_of y.mode)) first ∙ ap (link_if entry.oid) e in
    Contains-append_left (link_if x.oid (kind_of x.mode)) (tree_links entries) (link_to entry.oid kind)
    (rw own (contains_head (link_to entry.oid kind) [])))
    (λ later. Contains-append_right (link_if x.oid (kind_of x.mode)) (tree_links entries) (link_to entry.oid kind) (entry_link entries entry kind later e))
    (contains_cases x entries entry c)

-- an entry of a tree is linked to
entry_linked : (m : ObjectMap) (tree : Oid) (kind : Kind) (name : List ℕ) (oid : Oid) → HasEntry m tree kind name oid
    → IsLink m (as_kind tree kinds.Tree) (as_kind oid kind)
entry_linked m tree kind name oid h =
    let link = entry_link h.is.entries h.is.is.entry kind h.is.is.among h.is.is.linked in
    let among : Contains (map pair_of (links kinds.Tree h.bytes)) (as_kind h.is.is.entry.oid kind) =
    rw (tree_links_are h.is.entries h.bytes h.is.spells) (map_has pair_of (tree_links h.is.entries) (link_to h.is.is.entry.oid kind) link) in
    record {
      fit = record { kind = kinds.Tree; bytes = h.bytes; there = h.there; expected = refl; formed = (h.is.entries, h.is.spells) };
      link = subst (λ (o : Oid). Contains (map pair_of (links kinds.Tree h.bytes)) (as_kind o kind)) h.is.is.is among;
    }

-- so is the tree of a commit
tree_linked : (m : ObjectMap) (oid : Oid) (commit : Commit) → HasCommit m oid commit → IsLink m (as_commit oid) (as_kind commit.tree kinds.Tree)
tree_linked m oid commit h =
    let first = contains_head (pair_of (link_to commit.tree kinds.Tree)) (map pair_of (map (λ (parent : Oid). link_to parent kinds.Commit) commit.parents)) in
    record {
      fit = record { kind = kinds.Commit; bytes = h.bytes; there = h.there; expected = refl; formed = (commit, h.spells) };
      link = rw (commit_links_are commit h.bytes h.spells) first;
    }

module _ {m : ObjectMap} {roots : List Root} where
  -- what an entry of a tree links to is reached, where the tree is
  entry_reached : (tree : Oid) (kind : Kind) (name : List ℕ) (oid : Oid) → IsReached m roots (as_kind tree kinds.Tree) → HasEntry m tree kind name oid
      → IsReached m roots (as_kind oid kind)
  entry_reached tree kind name oid r h = reached_step (as_kind tree kinds.Tree) (as_kind oid kind) r (entry_linked m tree kind name oid h)

  -- so is that of a commit's tree, where the commit is
  pub commit_entry_reached : (oid : Oid) (kind : Kind) (name : List ℕ) (found : Oid) → IsReached m roots (as_commit oid) → HasCommitEntry m oid kind name found
      → IsReached m roots (as_kind found kind)
  commit_entry_reached oid kind name found r h =
      entry_reached h.commit.tree kind name found (reached_step (as_commit oid) (as_kind h.commit.tree kinds.Tree) r (tree_linked m oid h.commit h.has)) h.entry

  -- and what a commit embeds
  pub embedded_reached : (oid : Oid) (name : List ℕ) (blob : Oid) → IsReached m roots (as_commit oid) → HasEmbedded m oid name blob
      → IsReached m roots (as_kind blob kinds.Blob)
  embedded_reached oid name blob r h =
      entry_reached h.embeds kinds.Blob name blob (commit_entry_reached oid kinds.Tree _ h.embeds r h.directory) h.entry

-- where all that is reached is there, what a commit embeds is a blob
pub embedded_there : (m : ObjectMap) (roots : List Root) (oid : Oid) (name : List ℕ) (blob : Oid) → IsClosed m roots → IsReached m roots (as_commit oid)
    → HasEmbedded m oid name blob → (bytes : List ℕ) × (m blob ≡ Some (kinds.Blob, bytes))
embedded_there m roots oid name blob closed r h =
    let fit = (closed (as_kind blob kinds.Blob) (embedded_reached oid name blob r h)).fit in
    (fit.bytes, fit.there ∙ ap (λ (k : Kind). Some (k, fit.bytes)) (sym fit.expected))
