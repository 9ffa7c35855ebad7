-- Lines of commits from one tip, each to its only parent.
use Rattle.std.proofs.Common.{◌≡◌, ◌+◌, ◌≤◌, List, [], ◌∷◌, ◌++◌, length, refl, sym, ap, subst, ⊎_elim, ◌∙◌, arith}
use Rattle.std.specs.Prelude.{Contains}
use Rattle.rad_base.specs.declared.names.Oid.{Oid}
use Rattle.rad_base.specs.Lists.{AllDiffer}
use Rattle.rad_base.proofs.EachItem.{each_between}
use Rattle.rad_base.proofs.Members.{contains_cases, contains_nothing}
use Rattle.commit_graph.specs.Objects.{ObjectMap}
use Rattle.commit_graph.specs.Chains.{HasParents, IsLine, IsOnlyParent}
use Rattle.commit_graph.proofs.OneAnswer.{one_parents}

-- no commit is the only parent of this one
abbrev pub Ends : ObjectMap → Oid → Type 0
Ends m oid = (parent : Oid) → IsOnlyParent m parent oid → ⊥

-- a commit without parents ends lines
pub root_ends : (m : ObjectMap) (oid : Oid) → HasParents m oid [] → Ends m oid
root_ends m oid h = λ parent k. omega (arith, ap length (one_parents m oid [] (parent ∷ []) h k))

-- so does one with several
pub fork_ends : (m : ObjectMap) (oid : Oid) (parents : List Oid) → HasParents m oid parents → 2 ≤ length parents → Ends m oid
fork_ends m oid parents h two = λ parent k. omega (arith, two, ap length (one_parents m oid parents (parent ∷ []) h k))

-- the next commits of two lines are one
next_same : (m : ObjectMap) (x y p q : Oid) → x ≡ y → IsOnlyParent m p x → IsOnlyParent m q y → p ≡ q
next_same m x y p q same h k = cc (one_parents m y (p ∷ []) (q ∷ []) (subst (λ (o : Oid). HasParents m o (p ∷ [])) same h) k)

-- lines from a tip to ends are one
pub one_end : (m : ObjectMap) (tip : Oid) (xs ys : List Oid) (a b : Oid) → IsLine m tip xs a → IsLine m tip ys b → Ends m a → Ends m b
    → (xs ≡ ys) × (a ≡ b)
one_end m tip [] [] a b v w h k = (refl, sym v ∙ w)
one_end m tip [] (y ∷ ys) a b v w h k = absurd (h w.1.0 (subst (IsOnlyParent m w.1.0) (sym w.0 ∙ v) w.1.1))
one_end m tip (x ∷ xs) [] a b v w h k = absurd (k v.1.0 (subst (IsOnlyParent m v.1.0) (sym v.0 ∙ w) v.1.1))
one_end m tip (x ∷ xs) (y ∷ ys) a b v w h k =
    let here : x ≡ y = sym v.0 ∙ w.0 in
    let next = next_same m x y v.1.0 w.1.0 here v.1.1 w.1.1 in
    let rest = one_end m w.1.0 xs ys a b (subst (λ (o : Oid). IsLine m o xs a) next v.1.2) w.1.2 h k in
    (ap (λ (o : Oid). o ∷ xs) here ∙ ap (λ (l : List Oid). y ∷ l) rest.0, rest.1)

-- a line to an end goes on from where another from the tip came to
rest_line : (m : ObjectMap) (tip : Oid) (xs ys : List Oid) (end oid : Oid) → IsLine m tip xs end → Ends m end → IsLine m tip ys oid
    → (rest : List Oid) × IsLine m oid rest end × (length xs ≡ length ys + length rest)
rest_line m tip xs [] end oid v h w = (xs, subst (λ (o : Oid). IsLine m o xs end) w v, omega arith)
rest_line m tip [] (y ∷ ys) end oid v h w = absurd (h w.1.0 (subst (IsOnlyParent m w.1.0) (sym w.0 ∙ v) w.1.1))
rest_line m tip (x ∷ xs) (y ∷ ys) end oid v h w =
    let next = next_same m x y v.1.0 w.1.0 (sym v.0 ∙ w.0) v.1.1 w.1.1 in
    let tail = rest_line m w.1.0 xs ys end oid (subst (λ (o : Oid). IsLine m o xs end) next v.1.2) h w.1.2 in
    (tail.0, tail.1, omega (arith, tail.2))

-- no line from a commit comes back to it, where another comes to an end
no_loop : (m : ObjectMap) (xs : List Oid) (y : Oid) (ys : List Oid) (end oid : Oid) → IsLine m oid xs end → Ends m end
    → IsLine m oid (y ∷ ys) oid → ⊥
no_loop m xs y ys end oid v h w =
    let rest = rest_line m oid xs (y ∷ ys) end oid v h w in
    let same = (one_end m oid xs rest.0 end end v rest.1 h h).0 in
    omega (arith, rest.2, ap length same)

-- a line to an end has no return
pub no_return : (m : ObjectMap) (tip : Oid) (xs ys : List Oid) (end oid : Oid) → IsLine m tip xs end → Ends m end
    → IsLine m tip ys oid → Contains ys oid → ⊥
no_return m tip xs [] end oid v h w among = contains_nothing oid among
no_return m tip [] (y ∷ ys) end oid v h w among = h w.1.0 (subst (IsOnlyParent m w.1.0) (sym w.0 ∙ v) w.1.1)
no_return m tip (x ∷ xs) (y ∷ ys) end oid v h w among =
    ⊎_elim
    (λ here. let back = w.0 ∙ here in
    no_loop m (x ∷ xs) y ys end oid (subst (λ (o : Oid). IsLine m o (x ∷ xs) end) back v) h (subst (λ (o : Oid). IsLine m o (y ∷ ys) oid) back w))
    (λ later. let next = next_same m x y v.1.0 w.1.0 (sym v.0 ∙ w.0) v.1.1 w.1.1 in
    no_return m w.1.0 xs ys end oid (subst (λ (o : Oid). IsLine m o xs end) next v.1.2) h w.1.2 later)
    (contains_cases y ys oid among)

-- a line to a commit without parents meets no fork
pub no_fork : (m : ObjectMap) (tip : Oid) (xs ys : List Oid) (root oid : Oid) (parents : List Oid) → IsLine m tip xs root → HasParents m root []
    → IsLine m tip ys oid → HasParents m oid parents → 2 ≤ length parents → ⊥
no_fork m tip xs ys root oid parents v h w k two =
    let same = (one_end m tip xs ys root oid v w (root_ends m root h) (fork_ends m oid parents k two)).1 in
    omega (arith, two, ap length (one_parents m oid [] parents (subst (λ (o : Oid). HasParents m o []) same h) k))

-- two lines from a tip are one, or one goes on where the other came to
data Meets (xs ys : List Oid) (a b : Oid) : Type 0 where
  same : a ≡ b → Meets xs ys a b
  shorter : (rest : List Oid) → ys ≡ xs ++ a ∷ rest → Meets xs ys a b
  longer : (rest : List Oid) → xs ≡ ys ++ b ∷ rest → Meets xs ys a b

meets_more : (x y : Oid) (xs ys : List Oid) (a b : Oid) → x ≡ y → Meets xs ys a b → Meets (x ∷ xs) (y ∷ ys) a b
meets_more x y xs ys a b e (same f) = same f
meets_more x y xs ys a b e (shorter rest f) = shorter rest (ap (λ (o : Oid). o ∷ ys) (sym e) ∙ ap (λ (l : List Oid). x ∷ l) f)
meets_more x y xs ys a b e (longer rest f) = longer rest (ap (λ (o : Oid). o ∷ xs) e ∙ ap (λ (l : List Oid). y ∷ l) f)

meets : (m : ObjectMap) (tip : Oid) (xs ys : List Oid) (a b : Oid) → IsLine m tip xs a → IsLine m tip ys b → Meets xs ys a b
meets m tip [] [] a b v w = same (sym v ∙ w)
meets m tip [] (y ∷ ys) a b v w = shorter ys (ap (λ (o : Oid). o ∷ ys) (sym w.0 ∙ v))
meets m tip (x ∷ xs) [] a b v w = longer xs (ap (λ (o : Oid). o ∷ xs) (sym v.0 ∙ w))
meets m tip (x ∷ xs) (y ∷ ys) a b v w =
    let here : x ≡ y = sym v.0 ∙ w.0 in
    let next = next_same m x y v.1.0 w.1.0 here v.1.1 w.1.1 in
    meets_more x y xs ys a b here (meets m w.1.0 xs ys a b (subst (λ (o : Oid). IsLine m o xs a) next v.1.2) w.1.2)

-- an item does not stand twice where all differ
not_twice : (xs : List Oid) (a : Oid) (rest : List Oid) → AllDiffer (xs ++ a ∷ rest) → Contains xs a → ⊥
not_twice [] a rest differ has = contains_nothing a has
not_twice (x ∷ xs) a rest differ has =
    ⊎_elim (λ here. each_between (λ (y : Oid). x ≡ y → ⊥) xs a rest differ.0 here) (λ later. not_twice xs a rest differ.1 later) (contains_cases x xs a has)

-- a walk comes back at one commit
pub one_return : (m : ObjectMap) (tip : Oid) (xs ys : List Oid) (a b : Oid) → IsLine m tip xs a → IsLine m tip ys b
    → Contains xs a → Contains ys b → AllDiffer xs → AllDiffer ys → a ≡ b
one_return m tip xs ys a b v w has had once other = by_meeting (meets m tip xs ys a b v w)
  where
    by_meeting : Meets xs ys a b → a ≡ b
    by_meeting (same e) = e
    by_meeting (shorter rest e) = absurd (not_twice xs a rest (subst AllDiffer e other) has)
    by_meeting (longer rest e) = absurd (not_twice ys b rest (subst AllDiffer e once) had)
