-- Lists that grow at their ends by what they lack.
use Rattle.std.proofs.Common.{◌≡◌, ℕ, ◌+◌, ◌<◌, Bool, true, false, cond, List, [], ◌∷◌, ◌++◌, length, take, get_or, Some, sym, ap, subst, inl, inr, ◌⊎◌, ⊎_elim, ◌∙◌, append_assoc, append-nil, length-append, arith}
use Rattle.std.specs.Prelude.{Contains, slice_get, map, filter}
use Rattle.std.proofs.lemmas.List.{nil_from_length, take_more, take-append-le, map_push, map_more}
use Rattle.std.proofs.lemmas.List.Elements.{Contains-append_left, Contains-push, Contains-push_cases, Contains-append_cases, filter-append}
use Rattle.std.proofs.lemmas.Option.{slice_get_within, get_or_from_slice_get}
use Rattle.rad_base.proofs.Members.{contains_nothing}
use Rattle.git_object.specs.declared.link.LinkTo.{LinkTo}
use Rattle.commit_graph.specs.declared.root.Root.{Root}
use Rattle.commit_graph.specs.Lists.{Adds, Extends}
use Rattle.commit_graph.specs.Pairs.{pair_of, is_commit_link}

-- nothing is added
pub extends_same : {X : Type 0} {found found' : List X} → found' ≡ found → Extends found [] found'
extends_same {X} {found} {found'} e = record {
  more = [];
  is = e ∙ sym (append-nil found);
  few = omega arith;
  has = λ x c. absurd (contains_nothing x c);
  from = λ x c. absurd (contains_nothing x c);
}

-- where nothing is to be added the list stays
pub extends_none : {X : Type 0} {found found' : List X} → Extends found [] found' → found' ≡ found
extends_none {X} {found} {found'} h =
    let none : h.more ≡ [] = nil_from_length h.more (omega (arith, h.few)) in
    h.is ∙ ap (λ (xs : List X). found ++ xs) none ∙ append-nil found

-- nothing is added, since all of it was there
pub extends_there : {X : Type 0} {found found' : List X} (xs : List X) → found' ≡ found
    → ((x : X) → Contains xs x → Contains found x) → Extends found xs found'
extends_there {X} {found} {found'} xs e has = record {
  more = [];
  is = e ∙ sym (append-nil found);
  few = omega arith;
  has = λ x c. subst (λ (ys : List X). Contains ys x) (sym e) (has x c);
  from = λ x c. absurd (contains_nothing x c);
}

-- all of a list is added to the empty one
pub extends_nothing : {X : Type 0} {xs new : List X} → new ≡ xs → Extends [] xs new
extends_nothing {X} {xs} {new} e = record {
  more = xs;
  is = e;
  few = omega arith;
  has = λ x c. subst (λ (ys : List X). Contains ys x) (sym e) c;
  from = λ x c. c;
}

-- one more item is added
pub extends_push : {X : Type 0} {old xs cur new : List X} {x : X} → Extends old xs cur
    → Adds cur x new → Extends old (xs ++ x ∷ []) new
extends_push {X} {old} {xs} {cur} {new} {x} h (inl (k, e)) = record {
  more = h.more;
  is = e ∙ h.is;
  few = omega (arith, h.few, length-append xs (x ∷ []));
  has = λ y c. subst (λ (ys : List X). Contains ys y) (sym e)
      (⊎_elim (λ a. h.has y a) (λ a. subst (λ (z : X). Contains cur z) a k) (Contains-push_cases xs x y c));
  from = λ y c. Contains-append_left xs (x ∷ []) y (h.from y c);
}
extends_push {X} {old} {xs} {cur} {new} {x} h (inr (k, e)) = record {
  more = h.more ++ x ∷ [];
  few = omega (arith, h.few, length-append xs (x ∷ []), length-append h.more (x ∷ []));
  is = e ∙ ap (λ (ys : List X). ys ++ x ∷ []) h.is ∙ append_assoc old h.more (x ∷ []);
  has = λ y c. subst (λ (ys : List X). Contains ys y) (sym e)
      (⊎_elim (λ a. Contains-append_left cur (x ∷ []) y (h.has y a)) (λ a. subst (λ (z : X). Contains (cur ++ x ∷ []) z) a (Contains-push cur x)) (Contains-push_cases xs x y c));
  from = λ y c. ⊎_elim (λ a. Contains-append_left xs (x ∷ []) y (h.from y a)) (λ a. subst (λ (z : X). Contains (xs ++ x ∷ []) z) a (Contains-push xs x)) (Contains-push_cases h.more x y c);
}

-- one turn of a loop over the list that is added
pub extends_more : {X : Type 0} {old cur new : List X} (xs : List X) (i : ℕ) (d : X) → i < length xs
    → Extends old (take i xs) cur → Adds cur (get_or xs i d) new → Extends old (take (i + 1) xs) new
extends_more {X} {old} {cur} {new} xs i d l h a = subst (λ (ys : List X). Extends old ys new) (sym (take_more xs i d l)) (extends_push h a)

-- one turn of a loop over the list whose images are added
pub extends_image : {X Y : Type 0} (f : X → Y) {old cur new : List Y} (xs : List X) (i : ℕ) (d : X)
    → i < length xs → Extends old (map f (take i xs)) cur → Adds cur (f (get_or xs i d)) new
    → Extends old (map f (take (i + 1) xs)) new
extends_image {X} {Y} f {old} {cur} {new} xs i d l h a =
    subst (λ (ys : List Y). Extends old ys new) (sym (map_more f xs i d l)) (extends_push h a)

-- the same, of lists that are equal
pub extends_along : {X : Type 0} {old xs ys new new' : List X} → xs ≡ ys → new ≡ new'
    → Extends old xs new → Extends old ys new'
extends_along {X} {old} {xs} {ys} {new} {new'} e f h = subst (λ (zs : List X). Extends old zs new') e (subst (λ (zs : List X). Extends old xs zs) f h)

-- one turn of a loop over links of which those to commits are added
pub extends_commits : {old cur new : List Root} (links : List LinkTo) (i : ℕ) (d : LinkTo)
    → i < length links
    → Extends old (map pair_of (filter is_commit_link (take i links))) cur
    → ((is_commit_link (get_or links i d) ≡ true) × Adds cur (pair_of (get_or links i d)) new) ⊎ ((is_commit_link (get_or links i d) ≡ false) × (new ≡ cur))
    → Extends old (map pair_of (filter is_commit_link (take (i + 1) links))) new
extends_commits {old} {cur} {new} links i d l h turn =
    let x = get_or links i d in
    let front = filter is_commit_link (take i links) in
    let parts : filter is_commit_link (take (i + 1) links) ≡ front ++ cond (is_commit_link x) (x ∷ []) [] =
    ap (filter is_commit_link) (take_more links i d l) ∙ filter-append is_commit_link (take i links) (x ∷ []) in
    ⊎_elim
    (λ a. let same : filter is_commit_link (take (i + 1) links) ≡ front ++ x ∷ [] = parts ∙ ap (λ (b : Bool). front ++ cond b (x ∷ []) []) a.0 in
    subst (λ (ys : List Root). Extends old ys new) (sym (ap (map pair_of) same ∙ map_push pair_of front x)) (extends_push h a.1))
    (λ a. let same : filter is_commit_link (take (i + 1) links) ≡ front = parts ∙ ap (λ (b : Bool). front ++ cond b (x ∷ []) []) a.0 ∙ append-nil front in
    extends_along (ap (map pair_of) (sym same)) (sym a.1) h)
    turn

-- what was there is kept
pub extends_kept : {X : Type 0} {old xs new : List X} → Extends old xs new → (x : X)
    → Contains old x → Contains new x
extends_kept {X} {old} {xs} {new} h x c = subst (λ (ys : List X). Contains ys x) (sym h.is) (Contains-append_left old h.more x c)

-- what is there was there before, or was added
pub extends_cases : {X : Type 0} {old xs new : List X} → Extends old xs new → (x : X)
    → Contains new x → Contains old x ⊎ Contains xs x
extends_cases {X} {old} {xs} {new} h x c =
    ⊎_elim (λ a. inl a) (λ a. inr (h.from x a)) (Contains-append_cases old h.more x (subst (λ (ys : List X). Contains ys x) h.is c))

-- the items up to a cursor, and the item at it
pub take_grown : {X : Type 0} {found xs found' : List X} (i : ℕ) {x : X}
    → slice_get found i ≡ Some x → Extends found xs found'
    → take (i + 1) found' ≡ take i found ++ x ∷ []
take_grown {X} {found} {xs} {found'} i {x} e h =
    let within : i < length found = slice_get_within found i x e in
    ap (take (i + 1)) h.is ∙ take-append-le (i + 1) found h.more (omega arith)
    ∙ take_more found i x within ∙ ap (λ (y : X). take i found ++ y ∷ []) (get_or_from_slice_get found i x x e)
