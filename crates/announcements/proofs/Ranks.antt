-- The order by time and bytes is total, and what is of one rank has one time and the same bytes.
use Rattle.std.proofs.Common.{◌≡◌, refl}
use Rattle.std.specs.Cmp.{IsTotalOrder, nat_cmp_total}
use Rattle.std.specs.Cmp.Lexicographic.{slice_cmp}
use Rattle.std.specs.Ordering.{nat_cmp, then_cmp, on, ordering_reverse}
use Rattle.std.specs.declared.cmp.Ordering.{Ordering}
use Rattle.std.specs.declared.cmp.Ordering.TheVariants.{Less, Equal, Greater}
use Rattle.std.proofs.lemmas.Cmp.{on_total, then_total, nat_list_cmp_total, tied_itself}
use Rattle.std.proofs.lemmas.Map.Lookups.{exact_bytes}
use Rattle.rad_base.proofs.NameOrder.{both_equal}
use Rattle.announcements.specs.Tables.{rank_cmp}
use Rattle.announcements.specs.declared.kept.Kept.{Kept}

pub rank_total : IsTotalOrder rank_cmp
rank_total = then_total (on_total (λ (k : Kept). k.time) nat_cmp_total) (on_total (λ (k : Kept). k.bytes) nat_list_cmp_total)

-- nothing is above itself
pub not_above_itself : (k : Kept) → rank_cmp k k ≡ Greater → ⊥
not_above_itself k h = cc (tied_itself rank_total k, h)

-- what is not above something that is below a third is below that
pub below_through : (a b c : Kept) → (rank_cmp a b ≡ Greater → ⊥) → rank_cmp b c ≡ Less → rank_cmp a c ≡ Less
below_through a b c not_above below = by_order (rank_cmp a b) refl
  where
    by_order : (o : Ordering) → rank_cmp a b ≡ o → rank_cmp a c ≡ Less
    by_order Less e = rank_total.trans a b c e below
    by_order Equal e = rw (rank_total.congr a b c e) below
    by_order Greater e = absurd (not_above e)

-- two of which neither is above the other are of one rank
pub of_one_rank : (a b : Kept) → (rank_cmp a b ≡ Greater → ⊥) → (rank_cmp b a ≡ Greater → ⊥) → rank_cmp a b ≡ Equal
of_one_rank a b first second = by_order (rank_cmp a b) (rank_cmp b a) refl refl (rank_total.antisymm b a)
  where
    by_order : (o p : Ordering) → rank_cmp a b ≡ o → rank_cmp b a ≡ p → rank_cmp b a ≡ ordering_reverse (rank_cmp a b) → rank_cmp a b ≡ Equal
    by_order Less Less e f h = cc (e, f, h)
    by_order Less Equal e f h = cc (e, f, h)
    by_order Less Greater e f h = absurd (second f)
    by_order Equal p e f h = e
    by_order Greater p e f h = absurd (first e)

-- what is of one rank has the same bytes
pub same_bytes : (a b : Kept) → rank_cmp a b ≡ Equal → a.bytes ≡ b.bytes
same_bytes a b e = exact_bytes a.bytes b.bytes (both_equal (nat_cmp a.time b.time) (slice_cmp nat_cmp a.bytes b.bytes) e).1
