-- The derived order of pairs is total, and pairs that compare as equal are one.
use Rattle.std.proofs.Common.{◌≡◌, ℕ, Option, Some, None, suc, zero, refl, sym, ap, ◌∙◌}
use Rattle.std.specs.Cmp.{IsTotalOrder, nat_cmp_total}
use Rattle.std.specs.declared.cmp.Ordering.{Ordering}
use Rattle.std.specs.Ordering.{nat_cmp, ordering_then, then_cmp, on}
use Rattle.std.proofs.lemmas.Cmp.{on_total, then_total}
use Rattle.std.proofs.lemmas.Map.Lookups.{CmpEqualImpliesEq, exact_unsigned}
use Rattle.git_object.specs.declared.kind.Kind.{Kind}
use Rattle.git_object.specs.declared.kind.Kind.TheVariants.{Blob, Tree, Commit, Tag}
use Rattle.rad_base.specs.declared.names.Oid.{Oid}
use Rattle.commit_graph.specs.declared.root.Root.{Root}
use Rattle.rad_base.specs.Order.{oid_cmp}
use Rattle.rad_base.proofs.NameOrder.{both_equal, oid_total, oid_exact}
pub use Rattle.commit_graph.specs.PairOrder.{pair_cmp}

-- the kinds in their order
abbrev code : Option Kind → ℕ
code None = 0
code (Some Blob) = 1
code (Some Tree) = 2
code (Some Commit) = 3
code (Some Tag) = 4

abbrev make : Oid → Option Kind → Root
make o k = record { oid = o; kind = k }

by_code : (o p : Oid) (a b : Option Kind)
    → pair_cmp (make o a) (make p b) ≡ ordering_then (oid_cmp o p) (nat_cmp (code a) (code b))
by_code o p None None = refl
by_code o p None (Some Blob) = refl
by_code o p None (Some Tree) = refl
by_code o p None (Some Commit) = refl
by_code o p None (Some Tag) = refl
by_code o p (Some Blob) None = refl
by_code o p (Some Blob) (Some Blob) = refl
by_code o p (Some Blob) (Some Tree) = refl
by_code o p (Some Blob) (Some Commit) = refl
by_code o p (Some Blob) (Some Tag) = refl
by_code o p (Some Tree) None = refl
by_code o p (Some Tree) (Some Blob) = refl
by_code o p (Some Tree) (Some Tree) = refl
by_code o p (Some Tree) (Some Commit) = refl
by_code o p (Some Tree) (Some Tag) = refl
by_code o p (Some Commit) None = refl
by_code o p (Some Commit) (Some Blob) = refl
by_code o p (Some Commit) (Some Tree) = refl
by_code o p (Some Commit) (Some Commit) = refl
by_code o p (Some Commit) (Some Tag) = refl
by_code o p (Some Tag) None = refl
by_code o p (Some Tag) (Some Blob) = refl
by_code o p (Some Tag) (Some Tree) = refl
by_code o p (Some Tag) (Some Commit) = refl
by_code o p (Some Tag) (Some Tag) = refl

abbrev kind_of_code : ℕ → Option Kind
kind_of_code zero = None
kind_of_code (suc zero) = Some Blob
kind_of_code (suc (suc zero)) = Some Tree
kind_of_code (suc (suc (suc zero))) = Some Commit
kind_of_code (suc (suc (suc (suc n)))) = Some Tag

back : (a : Option Kind) → kind_of_code (code a) ≡ a
back None = refl
back (Some Blob) = refl
back (Some Tree) = refl
back (Some Commit) = refl
back (Some Tag) = refl

abbrev coded_cmp : Root → Root → Ordering
coded_cmp = then_cmp (on (λ (r : Root). r.oid) oid_cmp) (on (λ (r : Root). code r.kind) nat_cmp)

as_coded : (a b : Root) → pair_cmp a b ≡ coded_cmp a b
as_coded a b = by_code a.oid b.oid a.kind b.kind

pub pair_total : IsTotalOrder pair_cmp
pair_total =
    let o = then_total (on_total (λ (r : Root). r.oid) oid_total) (on_total (λ (r : Root). code r.kind) nat_cmp_total) in
    record {
      antisymm = λ x y. rw (as_coded x y, as_coded y x) (o.antisymm x y);
      trans = λ x y z h g. as_coded x z ∙ o.trans x y z (sym (as_coded x y) ∙ h) (sym (as_coded y z) ∙ g);
      congr = λ x y z h. as_coded x z ∙ o.congr x y z (sym (as_coded x y) ∙ h) ∙ sym (as_coded y z);
    }

pub pair_exact : CmpEqualImpliesEq pair_cmp
pair_exact a b h =
    let e = both_equal (oid_cmp a.oid b.oid) (nat_cmp (code a.kind) (code b.kind)) (sym (as_coded a b) ∙ h) in
    let n : a.oid ≡ b.oid = oid_exact a.oid b.oid e.0 in
    let k : a.kind ≡ b.kind = sym (back a.kind) ∙ ap kind_of_code (exact_unsigned (code a.kind) (code b.kind) e.1) ∙ back b.kind in
    ap (λ (o : Oid). make o a.kind) n ∙ ap (λ (x : Option Kind). make b.oid x) k
