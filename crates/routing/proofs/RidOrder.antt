-- The order of repositories' names is total, and names that compare as equal are one.
use Rattle.std.proofs.Common.{◌≡◌, ℕ, Bool, true, false, nat_eq, not, List, Option, Some, None, refl, sym, ap, subst, ◌∙◌}
use Rattle.std.specs.Prelude.{IfNone, IsSome, is_some}
use Rattle.rad_base.proofs.Options.{not_nothing}
use Rattle.std.specs.BTreeMap.{is_at}
use Rattle.std.specs.Cmp.{IsTotalOrder}
use Rattle.std.specs.Cmp.Lexicographic.{other_text, pointwise, same_text}
use Rattle.std.proofs.lemmas.Bool.{false≢true}
use Rattle.std.proofs.lemmas.Cmp.{eq_by_cmp_equiv, on_total}
use Rattle.std.proofs.lemmas.Map.Lookups.{CmpEqualImpliesEq}
use Rattle.rad_base.proofs.NameOrder.{equal_from_is_eq, nid_exact, nid_total, oid_exact, oid_total}
use Rattle.rad_base.specs.Order.{nid_cmp, rid_cmp}
use Rattle.rad_base.specs.declared.names.Nid.{Nid}
use Rattle.rad_base.specs.declared.names.Oid.{Oid}
use Rattle.rad_base.specs.declared.names.Rid.{Rid}

pub rid_total : IsTotalOrder rid_cmp
rid_total = on_total (λ (r : Rid). r.0) oid_total

pub rid_exact : CmpEqualImpliesEq rid_cmp
rid_exact a b h = ap (λ (o : Oid). record { 0 = o }) (oid_exact a.0 b.0 h)

-- a name that is found is the one that was looked for
pub one_rid : (a b : Rid) → is_at (rid_cmp a) b ≡ true → a ≡ b
one_rid a b h = rid_exact a b (equal_from_is_eq _ h)

pub one_nid : (a b : Nid) → is_at (nid_cmp a) b ≡ true → a ≡ b
one_nid a b h = nid_exact a b (equal_from_is_eq _ h)

-- a name finds itself
pub rid_itself : (a b : Rid) → b ≡ a → is_at (rid_cmp a) b ≡ true
rid_itself a b e = subst (λ (r : Rid). is_at (rid_cmp a) r ≡ true) (sym e) ((eq_by_cmp_equiv rid_total).refl a)

pub nid_itself : (a b : Nid) → b ≡ a → is_at (nid_cmp a) b ≡ true
nid_itself a b e = subst (λ (n : Nid). is_at (nid_cmp a) n ≡ true) (sym e) ((eq_by_cmp_equiv nid_total).refl a)

-- where there is nothing, a fact of nothing
pub if_absent : {X : Type 0} (o : Option X) (P : Type 0) → (o ≡ None → P) → IfNone o P
if_absent None P f = f refl
if_absent (Some x) P f = tt

-- nothing is not something
pub not_there : {X : Type 0} (o : Option X) → o ≡ None → IsSome o → ⊥
not_there None e h = false≢true h
not_there (Some x) e h = not_nothing refl e

-- what is there is something
pub some_of : {X : Type 0} (o : Option X) (b : Bool) → b ≡ is_some o → b ≡ true → (x : X) × (o ≡ Some x)
some_of None b e h = absurd (false≢true (sym e ∙ h))
some_of (Some x) b e h = (x, refl)

pub none_of : {X : Type 0} (o : Option X) (b : Bool) → b ≡ is_some o → b ≡ false → o ≡ None
none_of None b e h = refl
none_of (Some x) b e h = absurd (false≢true (sym h ∙ e))

-- what a test of two names has told
pub same_name : (a b : Rid) → true ≡ pointwise nat_eq a.0.0 b.0.0 → a ≡ b
same_name a b e = ap (λ (bytes : List ℕ). record { 0 = record { 0 = bytes } }) (same_text a.0.0 b.0.0 e)

pub other_name : (a b : Rid) → false ≡ pointwise nat_eq a.0.0 b.0.0 → a ≡ b → ⊥
other_name a b e h = other_text a.0.0 b.0.0 e (ap (λ (r : Rid). r.0.0) h)

-- what a test of two names has told by its contrary
pub from_not : (b : Bool) → false ≡ not b → true ≡ b
from_not true e = refl
from_not false e = sym e

pub to_not : (b : Bool) → true ≡ not b → false ≡ b
to_not true e = sym e
to_not false e = refl
