-- Texts of commits.
use Rattle.std.proofs.Common.{◌≡◌, ℕ, ◌+◌, ◌-◌, inl, inr, List, ◌++◌, length, take, drop, Some, refl, sym, ap, subst, ◌∙◌, arith, append_assoc, length-append}
use Rattle.std.specs.Prelude.{codes}
use Rattle.std.proofs.lemmas.List.{take-append-drop, take_at, drop_at}
use Rattle.rad_base.specs.Sizes.{IsOid}
use Rattle.rad_base.specs.declared.names.Oid.{Oid}
use Rattle.rad_base.specs.Lists.{BeginsWith}
use Rattle.git_object.specs.Grammar.{Commit, IsCommit, SpellsCommit, oid_line, parents_text}
use Rattle.git_object.specs.Places.{BreaksCommit, HasNoLine, StandsBehindParents}
use Rattle.git_object.specs.Reading.{commit_in, parents_in}
use Rattle.rad_base.proofs.Options.{some_is}
use Rattle.git_object.proofs.Lines.{author_no_parent, line_reads, one_line, parents_read}

-- a commit that bytes spell is read
pub commit_reads : (commit : Commit) (bytes : List ℕ) → SpellsCommit commit bytes → commit_in bytes ≡ Some commit
unfolding commit_in
commit_reads commit bytes s =
    let behind = parents_text commit.parents ++ commit.rest in
    let parents = parents_read commit.parents commit.rest s.parents (author_no_parent commit.rest s.rest) in
    let rest = drop_at (parents_text commit.parents) commit.rest (length (parents_text commit.parents)) refl in
    rw (s.text, line_reads (codes "tree ") commit.tree behind s.tree, parents, rest) refl

-- bytes spell one commit
pub one_commit : (a b : Commit) (bytes : List ℕ) → SpellsCommit a bytes → SpellsCommit b bytes → a ≡ b
one_commit a b bytes s t = some_is a b (sym (commit_reads a bytes s) ∙ commit_reads b bytes t)

-- the parts that were read are those of a commit
pub commit_parts : (bytes behind rest : List ℕ) (tree : Oid) → IsOid tree → bytes ≡ oid_line (codes "tree ") tree ++ behind → StandsBehindParents behind rest
    → BeginsWith (codes "author ") rest → SpellsCommit (record { tree = tree; parents = parents_in behind; rest = rest }) bytes
commit_parts bytes behind rest tree is h b begins =
    let same : parents_in behind ≡ b.parents = ap parents_in b.text ∙ parents_read b.parents rest b.each b.no_parent in
    rw same (record {
      tree = is;
      parents = b.each;
      rest = begins;
      text = h ∙ ap (λ (l : List ℕ). oid_line (codes "tree ") tree ++ l) b.text;
    })

-- behind the lines of the tree and the parents, the rest does not begin as it should
pub broken_rest : (bytes behind rest : List ℕ) (tree : Oid) (place : ℕ) → IsOid tree → bytes ≡ oid_line (codes "tree ") tree ++ behind → StandsBehindParents behind rest
    → (BeginsWith (codes "author ") rest → ⊥) → place ≡ length bytes - length rest → BreaksCommit bytes place
broken_rest bytes behind rest tree place is h b none at =
    let front = oid_line (codes "tree ") tree ++ parents_text b.parents in
    let text : bytes ≡ front ++ rest = h ∙ ap (λ (l : List ℕ). oid_line (codes "tree ") tree ++ l) b.text ∙ sym (append_assoc (oid_line (codes "tree ") tree) (parents_text b.parents) rest) in
    let size : length bytes ≡ length front + length rest = ap length text ∙ length-append front rest in
    let here : length front ≡ place = omega (arith, size, at) in
    let back : drop place bytes ≡ rest = ap (drop place) text ∙ drop_at front rest place here in
    inr (record {
      tree = tree;
      parents = b.parents;
      tree_is = is;
      parents_are = b.each;
      inside = omega (arith, size, here);
      before = ap (take place) text ∙ take_at front rest place here;
      no_parent = subst (λ (l : List ℕ). HasNoLine (codes "parent ") l) (sym back) b.no_parent;
      no_rest = λ begins. none (subst (λ (l : List ℕ). BeginsWith (codes "author ") l) back begins);
    })

-- a commit is broken nowhere
pub broken_no_commit : (bytes : List ℕ) (place : ℕ) → BreaksCommit bytes place → IsCommit bytes → ⊥
broken_no_commit bytes place (inl first) c = first.1 c.0.tree (parents_text c.0.parents ++ c.0.rest) c.1.tree c.1.text
broken_no_commit bytes place (inr b) c =
    let line = oid_line (codes "tree ") b.tree in
    let rest = drop place bytes in
    let text : bytes ≡ line ++ (parents_text b.parents ++ rest) =
    sym (take-append-drop place bytes) ∙ ap (λ (l : List ℕ). l ++ rest) b.before ∙ append_assoc line (parents_text b.parents) rest in
    let one = one_line (codes "tree ") b.tree c.0.tree _ _ b.tree_is c.1.tree (sym text ∙ c.1.text) in
    let same : b.parents ≡ c.0.parents =
    sym (parents_read b.parents rest b.parents_are b.no_parent) ∙ ap parents_in one.1
    ∙ parents_read c.0.parents c.0.rest c.1.parents (author_no_parent c.0.rest c.1.rest) in
    let ends : rest ≡ c.0.rest =
    sym (drop_at (parents_text b.parents) rest (length (parents_text b.parents)) refl)
    ∙ ap (drop (length (parents_text b.parents))) (one.1 ∙ ap (λ (l : List Oid). parents_text l ++ c.0.rest) (sym same))
    ∙ drop_at (parents_text b.parents) c.0.rest (length (parents_text b.parents)) refl in
    b.no_rest (subst (λ (l : List ℕ). BeginsWith (codes "author ") l) (sym ends) c.1.rest)
