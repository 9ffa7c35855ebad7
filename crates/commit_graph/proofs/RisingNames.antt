-- Pairs in their order rise by name.
use Rattle.std.proofs.Common.{◌≡◌, suc, zero, List, [], ◌∷◌, sym, ap, subst, ⊎_elim, ◌∙◌, arith}
use Rattle.std.specs.Prelude.{Contains}
use Rattle.std.specs.List.{AllByRecursion}
use Rattle.std.specs.List.Sorted.{IsStrictlySortedBy}
use Rattle.std.specs.declared.cmp.Ordering.{Ordering}
use Rattle.std.specs.declared.cmp.Ordering.TheVariants.{Less, Equal, Greater}
use Rattle.std.specs.Ordering.{ordering_then, ordering_reverse}
use Rattle.rad_base.specs.Order.{oid_cmp}
use Rattle.rad_base.proofs.NameOrder.{oid_total}
use Rattle.rad_base.proofs.Members.{contains_at, contains_cases, contains_nothing}
use Rattle.rad_base.proofs.Options.{some_is}
use Rattle.commit_graph.specs.declared.root.Root.{Root}
use Rattle.commit_graph.specs.Marking.{AtMost, RisesByName}
use Rattle.commit_graph.proofs.MarkedBack.{at_most_itself}
use Rattle.commit_graph.proofs.PairOrder.{pair_cmp}

not_then : (o rest : Ordering) → o ≡ Greater → ordering_then o rest ≡ Less → ⊥
not_then Less rest e h = cc e
not_then Equal rest e h = cc e
not_then Greater rest e h = cc h

-- a pair that is below another has a name that is not above the other's
below_at_most : (a b : Root) → pair_cmp a b ≡ Less → AtMost a.oid b.oid
below_at_most a b h below =
    not_then (oid_cmp a.oid b.oid) _ (oid_total.antisymm a.oid b.oid ∙ ap ordering_reverse below) h

each_has : (P : Root → Type 0) (xs : List Root) (y : Root) → AllByRecursion P xs → Contains xs y → P y
each_has P [] y h c = absurd (contains_nothing y c)
each_has P (x ∷ xs) y h c = ⊎_elim (λ a. subst P a h.0) (λ a. each_has P xs y h.1 a) (contains_cases x xs y c)

-- pairs that rise, rise by name
pub rises_by_name : (xs : List Root) → IsStrictlySortedBy pair_cmp xs → RisesByName xs
unfolding IsStrictlySortedBy
rises_by_name [] s i j x y l a b = cc a
rises_by_name (z ∷ zs) s zero zero x y l a b =
    subst (λ (w : Root). AtMost x.oid w.oid) (some_is x y (sym a ∙ b)) (at_most_itself x.oid)
rises_by_name (z ∷ zs) s zero (suc j) x y l a b =
    subst (λ (w : Root). AtMost w.oid y.oid) (some_is z x a)
    (below_at_most z y (each_has (λ (w : Root). pair_cmp z w ≡ Less) zs y s.0 (contains_at zs j y b)))
rises_by_name (z ∷ zs) s (suc i) zero x y l a b = absurd (omega (arith, l))
rises_by_name (z ∷ zs) s (suc i) (suc j) x y l a b = rises_by_name zs s.1 i j x y (omega (arith, l)) a b
