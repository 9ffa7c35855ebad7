-- From a commit through its tree to an entry.
use Rattle.std.proofs.Common.{◌≡◌, ℕ, Bool, true, false, ◌↔◌, IsTrue, List, Option, Some, None, sym, ap, subst, ◌∙◌}
use Rattle.std.specs.Prelude.{codes}
use Rattle.std.proofs.lemmas.Bool.{false≢true}
use Rattle.rad_base.specs.declared.names.Oid.{Oid}
use Rattle.rad_base.specs.declared.names.Rid.{Rid}
use Rattle.git_object.specs.Grammar.{Commit}
use Rattle.git_object.specs.declared.kind.Kind.{Kind}
use Rattle.git_object.specs.declared.kind.Kind.TheVariants as kinds
use Rattle.commit_graph.specs.Objects.{ObjectMap}
use Rattle.tree_entry.specs.Commits.{IsTreeOf, ShowsCommit}
use Rattle.tree_entry.specs.Embedded.{HasDocumentBlob, HasEmbedded, IsIdentityRoot}
use Rattle.tree_entry.specs.Entries.{Finds, HasCommit, HasCommitEntry, HasEntry, IsEntryIn}
use Rattle.tree_entry.specs.declared.commits.CommitTree.{CommitTree}
use Rattle.tree_entry.proofs.OneEntry.{one_commit_entry, one_commit_of, one_content, one_embedded}

-- what was found in the bytes of a tree is found in the tree
pub through_tree : (objects : ObjectMap) (tree : Oid) (kind : Kind) (name bytes : List ℕ) (r : Option Oid)
    → objects tree ≡ Some (kinds.Tree, bytes) → Finds (IsEntryIn bytes kind name) r → Finds (HasEntry objects tree kind name) r
through_tree objects tree kind name bytes None there none = λ oid h.
    none oid (subst (λ (l : List ℕ). IsEntryIn l kind name oid) (one_content (objects tree) kinds.Tree h.bytes bytes h.there there) h.is)
through_tree objects tree kind name bytes (Some oid) there is = record { bytes = bytes; there = there; is = is }

-- there is no commit
pub no_commit : (objects : ObjectMap) (oid : Oid) (r : Option CommitTree) (commit : Commit) → ShowsCommit objects oid r → r ≡ None → HasCommit objects oid commit → ⊥
no_commit objects oid r commit shows none has = subst (ShowsCommit objects oid) none shows commit has

-- the commit that was shown
shown_commit : (objects : ObjectMap) (oid : Oid) (found : CommitTree) (commit : Commit) → ShowsCommit objects oid (Some found) → HasCommit objects oid commit → IsTreeOf commit found
shown_commit objects oid found commit shows has =
    subst (λ (c : Commit). IsTreeOf c found) (one_commit_of objects oid shows.0 commit shows.1 has) shows.2

-- what was found in the tree of a commit
pub through_commit : (objects : ObjectMap) (oid : Oid) (kind : Kind) (name : List ℕ) (shown : Option CommitTree) (found : CommitTree) (r : Option Oid)
    → ShowsCommit objects oid shown → shown ≡ Some found → Finds (HasEntry objects found.tree kind name) r → Finds (HasCommitEntry objects oid kind name) r
through_commit objects oid kind name shown found None shows e none = λ entry h.
    let tree = shown_commit objects oid found h.commit (subst (ShowsCommit objects oid) e shows) h.has in
    none entry (subst (λ (t : Oid). HasEntry objects t kind name entry) tree.tree h.entry)
through_commit objects oid kind name shown found (Some entry) shows e is =
    let s = subst (ShowsCommit objects oid) e shows in
    record { commit = s.0; has = s.1; entry = subst (λ (t : Oid). HasEntry objects t kind name entry) (sym s.2.tree) is }

-- there is no directory
pub no_directory : (objects : ObjectMap) (oid : Oid) (name : List ℕ) (r : Option Oid) (blob : Oid) → Finds (HasCommitEntry objects oid kinds.Tree (codes "embeds")) r → r ≡ None
    → HasEmbedded objects oid name blob → ⊥
no_directory objects oid name r blob finds none h = subst (Finds (HasCommitEntry objects oid kinds.Tree (codes "embeds"))) none finds h.embeds h.directory

-- what was found in the directory
pub through_directory : (objects : ObjectMap) (oid : Oid) (name : List ℕ) (directory : Option Oid) (embeds : Oid) (r : Option Oid)
    → Finds (HasCommitEntry objects oid kinds.Tree (codes "embeds")) directory → directory ≡ Some embeds → Finds (HasEntry objects embeds kinds.Blob name) r
    → Finds (HasEmbedded objects oid name) r
through_directory objects oid name directory embeds None finds e none = λ blob h.
    let has = subst (Finds (HasCommitEntry objects oid kinds.Tree (codes "embeds"))) e finds in
    let same = one_commit_entry objects oid kinds.Tree (codes "embeds") h.embeds embeds h.directory has in
    none blob (subst (λ (o : Oid). HasEntry objects o kinds.Blob name blob) same h.entry)
through_directory objects oid name directory embeds (Some blob) finds e is =
    record { embeds = embeds; directory = subst (Finds (HasCommitEntry objects oid kinds.Tree (codes "embeds"))) e finds; entry = is }

-- a commit with a parent is no root
pub parent_no_root : (objects : ObjectMap) (rid : Rid) (oid : Oid) (shown : Option CommitTree) (found : CommitTree) → ShowsCommit objects oid shown → shown ≡ Some found
    → found.has_parent ≡ true → IsIdentityRoot objects rid oid → ⊥
parent_no_root objects rid oid shown found shows e parent root =
    let tree = shown_commit objects oid found root.commit (subst (ShowsCommit objects oid) e shows) root.has in
    false≢true (sym (tree.first.1 root.first) ∙ parent)

-- a commit without parents is a root by its document
pub root_by_document : (objects : ObjectMap) (rid : Rid) (oid : Oid) (shown : Option CommitTree) (found : CommitTree) (document : Option Oid) (b : Bool)
    → ShowsCommit objects oid shown → shown ≡ Some found → found.has_parent ≡ false → Finds (HasDocumentBlob objects oid) document
    → (IsTrue b ↔ (document ≡ Some rid.0)) → (IsTrue b ↔ IsIdentityRoot objects rid oid)
root_by_document objects rid oid shown found document b shows e first finds same = (
  λ h.
      let s = subst (ShowsCommit objects oid) e shows in
      record { commit = s.0; has = s.1; first = s.2.first.0 first; document = subst (Finds (HasDocumentBlob objects oid)) (same.0 h) finds },
  λ root. same.1 (named document finds root.document),
)
  where
    named : (document : Option Oid) → Finds (HasDocumentBlob objects oid) document → HasDocumentBlob objects oid rid.0 → document ≡ Some rid.0
    named None none has = absurd (none rid.0 has)
    named (Some blob) is has = ap (λ (o : Oid). Some o) (one_embedded objects oid (codes "radicle.json") blob rid.0 is has)
