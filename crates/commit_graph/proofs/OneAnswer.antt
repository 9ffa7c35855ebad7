-- There is at most one answer.
use Rattle.std.proofs.Common.{◌≡◌, List, [], ◌∷◌, refl, sym, ap, subst, reverse, slice_index_or, ◌∙◌}
use Rattle.std.proofs.lemmas.List.{reverse-append, reverse-reverse}
use Rattle.std.specs.Ordering.{ordering_reverse}
use Rattle.std.specs.declared.cmp.Ordering.{Ordering}
use Rattle.std.specs.declared.cmp.Ordering.TheVariants.{Less, Equal, Greater}
use Rattle.rad_base.specs.declared.names.Oid.{Oid}
use Rattle.rad_base.specs.Order.{oid_cmp}
use Rattle.rad_base.proofs.NameOrder.{oid_exact, oid_total}
use Rattle.rad_base.proofs.Options.{one_value}
use Rattle.git_object.specs.declared.kind.Kind.TheVariants.{Commit}
use Rattle.git_object.specs.Links.{links}
use Rattle.commit_graph.specs.declared.root.Root.{Root}
use Rattle.commit_graph.specs.declared.answer.Closure.{Closure}
use Rattle.commit_graph.specs.declared.answer.Closure.TheVariants.{Closed, Missing, BadObject}
use Rattle.commit_graph.specs.Objects.{Object, ObjectMap}
use Rattle.commit_graph.specs.Closures.{IsClosed, IsClosure, IsLeast, IsMissingName, IsUnfitName}
use Rattle.commit_graph.specs.Chains.{HasParents, IsOnlyParent, IsChain, IsLine, linked_commits}
use Rattle.commit_graph.specs.Walks.{Walk}
use Rattle.commit_graph.proofs.ChainLines.{line_more}
use Rattle.commit_graph.proofs.PairSteps.{missing_unfit, unfit_apart}

-- the least name is one
pub one_least : (P : Oid → Type 0) (a b : Oid) → IsLeast P a → IsLeast P b → a ≡ b
one_least P a b h k = compared (oid_cmp a b) refl
  where
    compared : (o : Ordering) → oid_cmp a b ≡ o → a ≡ b
    compared Less e = absurd (k.least a h.holds e)
    compared Equal e = oid_exact a b e
    compared Greater e = absurd (h.least b k.holds (oid_total.antisymm b a ∙ ap ordering_reverse e))

-- what is closed misses nothing
pub none_missing : (objects : ObjectMap) (roots : List Root) (oid : Oid) → IsClosed objects roots
    → IsMissingName objects roots oid → ⊥
none_missing objects roots oid closed h = missing_unfit h.holds (closed h.pair h.reached).fit

-- and has no unfit object
pub none_unfit : (objects : ObjectMap) (roots : List Root) (oid : Oid) → IsClosed objects roots
    → IsUnfitName objects roots oid → ⊥
none_unfit objects roots oid closed h = unfit_apart h.holds (closed h.pair h.reached).fit

-- roots have one closure
pub one_closure : (objects : ObjectMap) (roots : List Root) (a b : Closure) → IsClosure objects roots a
    → IsClosure objects roots b → a ≡ b
one_closure objects roots Closed Closed h k = refl
one_closure objects roots Closed (Missing b) h k = absurd (none_missing objects roots b h k.holds)
one_closure objects roots Closed (BadObject b) h k = absurd (none_unfit objects roots b h k.1.holds)
one_closure objects roots (Missing a) Closed h k = absurd (none_missing objects roots a k h.holds)
one_closure objects roots (Missing a) (Missing b) h k =
    ap (λ (o : Oid). Missing o) (one_least (IsMissingName objects roots) a b h k)
one_closure objects roots (Missing a) (BadObject b) h k = absurd (k.0 a h.holds)
one_closure objects roots (BadObject a) Closed h k = absurd (none_unfit objects roots a k h.1.holds)
one_closure objects roots (BadObject a) (Missing b) h k = absurd (h.0 b k.holds)
one_closure objects roots (BadObject a) (BadObject b) h k =
    ap (λ (o : Oid). BadObject o) (one_least (IsUnfitName objects roots) a b h.1 k.1)

-- a commit has one list of parents
pub one_parents : (objects : ObjectMap) (oid : Oid) (a b : List Oid) → HasParents objects oid a
    → HasParents objects oid b → a ≡ b
one_parents objects oid a b h k =
    let same : (Commit, h.bytes) ≡ (Commit, k.bytes) = one_value h.there k.there in
    h.are ∙ ap (λ (o : Object). linked_commits (links Commit o.1)) same ∙ sym k.are

-- no commit has one parent and none
none_and_one : (objects : ObjectMap) (oid parent : Oid) → HasParents objects oid []
    → IsOnlyParent objects parent oid → ⊥
none_and_one objects oid parent h k = nil_is_not_cons (one_parents objects oid [] (parent ∷ []) h k)
  where
    nil_is_not_cons : [] ≡ parent ∷ [] → ⊥
    nil_is_not_cons e = cc e

-- the item of a list of one
first_is : {X : Type 0} {x y : X} → x ∷ [] ≡ y ∷ [] → x ≡ y
first_is {X} {x} {y} e = ap (λ (xs : List X). slice_index_or xs 0 x) e

-- lines from one commit to commits without parents are one
one_line : (objects : ObjectMap) (from : Oid) (a b : List Oid) (end other : Oid)
    → IsLine objects from a end → HasParents objects end [] → IsLine objects from b other
    → HasParents objects other [] → (a ≡ b) × (end ≡ other)
one_line objects from [] [] end other l h m k = (refl, sym l ∙ m)
one_line objects from [] (y ∷ b) end other l h m k =
    absurd (none_and_one objects end m.1.0 h (subst (IsOnlyParent objects m.1.0) (sym m.0 ∙ l) m.1.1))
one_line objects from (x ∷ a) [] end other l h m k =
    absurd (none_and_one objects other l.1.0 k (subst (IsOnlyParent objects l.1.0) (sym l.0 ∙ m) l.1.1))
one_line objects from (x ∷ a) (y ∷ b) end other l h m k =
    let here : x ≡ y = sym l.0 ∙ m.0 in
    let up : l.1.0 ≡ m.1.0 =
    first_is (one_parents objects y (l.1.0 ∷ []) (m.1.0 ∷ []) (subst (IsOnlyParent objects l.1.0) here l.1.1) m.1.1) in
    let rest = one_line objects m.1.0 a b end other (subst (λ (o : Oid). IsLine objects o a end) up l.1.2) h m.1.2 k in
    (ap (λ (o : Oid). o ∷ a) here ∙ ap (λ (c : List Oid). y ∷ c) rest.0, rest.1)

-- a walk over children is a line read from its end
pub walk_back : (objects : ObjectMap) (root : Oid) (later : List Oid) (tip : Oid)
    → Walk (IsOnlyParent objects) root later tip → IsLine objects tip (reverse later) root
walk_back objects root [] tip w = sym w
walk_back objects root (x ∷ later) tip w =
    subst (λ (line : List Oid). IsLine objects tip line root) (sym (reverse-append (x ∷ []) later))
    (line_more objects tip (reverse later) x root (walk_back objects x later tip w.1) w.0)

-- a tip has one chain
pub one_chain : (objects : ObjectMap) (a b : List Oid) (tip : Oid) → IsChain objects a tip
    → IsChain objects b tip → a ≡ b
one_chain objects [] b tip h k = absurd h
one_chain objects (root ∷ later) [] tip h k = absurd k
one_chain objects (root ∷ later) (other ∷ more) tip h k =
    let same = one_line objects tip (reverse later) (reverse more) root other
    (walk_back objects root later tip h.1) h.0 (walk_back objects other more tip k.1) k.0 in
    let lists : later ≡ more = sym (reverse-reverse later) ∙ ap reverse same.0 ∙ reverse-reverse more in
    ap (λ (o : Oid). o ∷ later) same.1 ∙ ap (λ (c : List Oid). other ∷ c) lists
