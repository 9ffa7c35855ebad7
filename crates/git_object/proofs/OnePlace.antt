-- Bytes leave the grammar of a kind at one place at most.
use Rattle.std.proofs.Common.{◌≡◌, ℕ, zero, suc, ◌<◌, ◌≤◌, inl, inr, List, [], ◌∷◌, ◌++◌, length, take, drop, refl, sym, ap, ◌∙◌, arith, append_assoc}
use Rattle.std.specs.Prelude.{codes}
use Rattle.std.proofs.lemmas.Bool.{cases_lt}
use Rattle.std.proofs.lemmas.List.{take-append-drop, length-drop, length-take-le}
use Rattle.rad_base.specs.declared.names.Oid.{Oid}
use Rattle.git_object.specs.Grammar.{oid_line, parents_text, type_line}
use Rattle.git_object.specs.Laws.{BreakAtOnePlace}
use Rattle.git_object.specs.Places.{BreaksAtType, BreaksBehindTree, BreaksBehindType, BreaksCommit, BreaksTag, BreaksTree}
use Rattle.git_object.specs.Reading.{parents_in}
use Rattle.git_object.specs.declared.kind.Kind.{Kind}
use Rattle.git_object.specs.declared.kind.Kind.TheVariants.{Blob, Tree, Commit, Tag}
use Rattle.git_object.proofs.Lines.{one_line, parents_read}
use Rattle.git_object.proofs.Tags.{one_type}
use Rattle.git_object.proofs.TreeTexts.{no_tree_behind}

-- places inside, before which the same bytes stand, are one
same_front : (bytes : List ℕ) (p q : ℕ) → p ≤ length bytes → q ≤ length bytes → take p bytes ≡ take q bytes → p ≡ q
same_front bytes p q inside within e = omega (arith, length-take-le p bytes inside, length-take-le q bytes within, ap length e)

-- ---- trees

-- a place inside the front
inside_front : (p : ℕ) (front more : List ℕ) → p ≤ length front → (take p (front ++ more) ≡ take p front) × (drop p (front ++ more) ≡ drop p front ++ more)
inside_front zero front more le = (refl, refl)
inside_front (suc p) [] more le = absurd (omega arith)
inside_front (suc p) (x ∷ front) more le =
    let rest = inside_front p front more (omega arith) in
    (ap (λ (l : List ℕ). x ∷ l) rest.0, rest.1)

-- the lesser of two places does not break what is a tree before the other
no_lesser : (bytes : List ℕ) (p q : ℕ) → BreaksTree bytes p → BreaksTree bytes q → p < q → ⊥
no_lesser bytes p q a b less =
    let front = take q bytes in
    let more = drop q bytes in
    let inside = b.inside in
    let size : length front ≡ q = length-take-le q bytes (omega arith) in
    let whole : front ++ more ≡ bytes = take-append-drop q bytes in
    let parts = inside_front p front more (omega (arith, size)) in
    let before : take p bytes ≡ take p front = ap (take p) (sym whole) ∙ parts.0 in
    let behind : drop p bytes ≡ drop p front ++ more = ap (drop p) (sym whole) ∙ parts.1 in
    let joined : take p bytes ++ drop p front ≡ front = ap (λ (l : List ℕ). l ++ drop p front) before ∙ take-append-drop p front in
    let some : 0 < length (drop p front) = omega (arith, size, length-drop p front) in
    no_tree_behind bytes (drop p front) more p a behind some (rw joined b.before)

one_tree_place : (bytes : List ℕ) (p q : ℕ) → BreaksTree bytes p → BreaksTree bytes q → p ≡ q
one_tree_place bytes p q a b =
    elim (cases_lt p q) [
      | inl less ↦ absurd (no_lesser bytes p q a b less)
      | inr high ↦ elim (cases_lt q p) [
        | inl more ↦ absurd (no_lesser bytes q p b a more)
        | inr low ↦ omega arith
      ]
    ]

-- ---- commits

behind_tree : (bytes : List ℕ) (place : ℕ) (b : BreaksBehindTree bytes place)
    → bytes ≡ oid_line (codes "tree ") b.tree ++ (parents_text b.parents ++ drop place bytes)
behind_tree bytes place b =
    sym (take-append-drop place bytes) ∙ ap (λ (l : List ℕ). l ++ drop place bytes) b.before
    ∙ append_assoc (oid_line (codes "tree ") b.tree) (parents_text b.parents) (drop place bytes)

one_commit_place : (bytes : List ℕ) (p q : ℕ) → BreaksCommit bytes p → BreaksCommit bytes q → p ≡ q
one_commit_place bytes p q (inl a) (inl b) = a.0 ∙ sym b.0
one_commit_place bytes p q (inl a) (inr b) = absurd (a.1 b.tree _ b.tree_is (behind_tree bytes q b))
one_commit_place bytes p q (inr a) (inl b) = absurd (b.1 a.tree _ a.tree_is (behind_tree bytes p a))
one_commit_place bytes p q (inr a) (inr b) =
    let one = one_line (codes "tree ") a.tree b.tree _ _ a.tree_is b.tree_is (sym (behind_tree bytes p a) ∙ behind_tree bytes q b) in
    let parents : a.parents ≡ b.parents =
    sym (parents_read a.parents (drop p bytes) a.parents_are a.no_parent) ∙ ap parents_in one.1
    ∙ parents_read b.parents (drop q bytes) b.parents_are b.no_parent in
    same_front bytes p q a.inside b.inside (a.before
    ∙ ap (λ (tree : Oid). oid_line (codes "tree ") tree ++ parents_text a.parents) one.0
    ∙ ap (λ (ps : List Oid). oid_line (codes "tree ") b.tree ++ parents_text ps) parents
    ∙ sym b.before)

-- ---- tags

at_type : (bytes : List ℕ) (place : ℕ) (b : BreaksAtType bytes place) → bytes ≡ oid_line (codes "object ") b.object ++ drop place bytes
at_type bytes place b = sym (take-append-drop place bytes) ∙ ap (λ (l : List ℕ). l ++ drop place bytes) b.before

behind_type : (bytes : List ℕ) (place : ℕ) (b : BreaksBehindType bytes place)
    → bytes ≡ oid_line (codes "object ") b.object ++ (type_line b.kind ++ drop place bytes)
behind_type bytes place b =
    sym (take-append-drop place bytes) ∙ ap (λ (l : List ℕ). l ++ drop place bytes) b.before
    ∙ append_assoc (oid_line (codes "object ") b.object) (type_line b.kind) (drop place bytes)

-- no line of a kind is where none stands
type_apart : (bytes : List ℕ) (p q : ℕ) → BreaksAtType bytes p → BreaksBehindType bytes q → ⊥
type_apart bytes p q a b =
    let one = one_line (codes "object ") a.object b.object _ _ a.object_is b.object_is (sym (at_type bytes p a) ∙ behind_type bytes q b) in
    a.no_type b.kind _ one.1

one_tag_place : (bytes : List ℕ) (p q : ℕ) → BreaksTag bytes p → BreaksTag bytes q → p ≡ q
one_tag_place bytes p q (inl a) (inl b) = a.0 ∙ sym b.0
one_tag_place bytes p q (inl a) (inr (inl b)) = absurd (a.1 b.object _ b.object_is (at_type bytes q b))
one_tag_place bytes p q (inl a) (inr (inr b)) = absurd (a.1 b.object _ b.object_is (behind_type bytes q b))
one_tag_place bytes p q (inr (inl a)) (inl b) = absurd (b.1 a.object _ a.object_is (at_type bytes p a))
one_tag_place bytes p q (inr (inr a)) (inl b) = absurd (b.1 a.object _ a.object_is (behind_type bytes p a))
one_tag_place bytes p q (inr (inl a)) (inr (inl b)) =
    let one = one_line (codes "object ") a.object b.object _ _ a.object_is b.object_is (sym (at_type bytes p a) ∙ at_type bytes q b) in
    same_front bytes p q a.inside b.inside (a.before ∙ ap (oid_line (codes "object ")) one.0 ∙ sym b.before)
one_tag_place bytes p q (inr (inl a)) (inr (inr b)) = absurd (type_apart bytes p q a b)
one_tag_place bytes p q (inr (inr a)) (inr (inl b)) = absurd (type_apart bytes q p b a)
one_tag_place bytes p q (inr (inr a)) (inr (inr b)) =
    let one = one_line (codes "object ") a.object b.object _ _ a.object_is b.object_is (sym (behind_type bytes p a) ∙ behind_type bytes q b) in
    let kinds = one_type a.kind b.kind _ _ one.1 in
    same_front bytes p q a.inside b.inside (a.before
    ∙ ap (λ (object : Oid). oid_line (codes "object ") object ++ type_line a.kind) one.0
    ∙ ap (λ (kind : Kind). oid_line (codes "object ") b.object ++ type_line kind) kinds.0
    ∙ sym b.before)

-- ---- all kinds

pub one_place : BreakAtOnePlace
one_place Blob bytes p q a b = absurd a
one_place Tree bytes p q a b = one_tree_place bytes p q a b
one_place Commit bytes p q a b = one_commit_place bytes p q a b
one_place Tag bytes p q a b = one_tag_place bytes p q a b
