-- What a binary search by name finds among refs whose names rise.
use Rattle.std.proofs.Common.{◌≡◌, ℕ, zero, suc, ◌+◌, ◌<◌, ◌≤◌, List, [], ◌∷◌, length, get_or, Option, None, Some, refl, ap, subst, ⊎_elim, ◌∙◌, arith}
use Rattle.std.specs.Prelude.{Contains, ◌↔◌}
use Rattle.std.specs.Cmp.Lexicographic.{slice_cmp}
use Rattle.std.specs.List.Sorted.{IsNonDecreasingBy, IsPartitionPoint}
use Rattle.std.specs.Ordering.{is_lt, nat_cmp, ordering_index, ordering_reverse}
use Rattle.std.specs.declared.cmp.Ordering.{Ordering}
use Rattle.std.specs.declared.cmp.Ordering.TheVariants.{Less, Equal, Greater}
use Rattle.std.proofs.lemmas.Bool.{cases_lt}
use Rattle.std.proofs.lemmas.Cmp.{nat_list_cmp_total}
use Rattle.std.proofs.lemmas.List.Sorted.{searchable_from_sorted}
use Rattle.std.proofs.lemmas.Map.Lookups.{exact_bytes}
use Rattle.rad_base.specs.declared.names.Oid.{Oid}
use Rattle.rad_base.proofs.NameOrder.{not_below_itself}
use Rattle.rad_base.proofs.Rising.{rises_from, rises_searched}
use Rattle.rad_base.specs.Order.{RiseFrom}
use Rattle.signed_refs.specs.Lines.{AreRising, Line, order_of, name_in}
use Rattle.signed_refs.proofs.OneName.{found_name}

-- the comparisons with a name rise along the lines
comparisons_rise : (lines : List Line) (name : List ℕ) → AreRising lines → IsNonDecreasingBy (λ line. ordering_index (order_of name line)) lines
comparisons_rise lines name rising =
    rises_searched name_in (slice_cmp nat_cmp) nat_list_cmp_total lines name (rises_from name_in None lines rising)

-- the line whose name compares as equal has the only object of the name
pub searched_found : (lines seen : List Line) (name : List ℕ) (i : ℕ) (item : Line) → seen ≡ lines → AreRising lines → i < length seen
    → get_or seen i item ≡ item → order_of name (get_or seen i item) ≡ Equal → (oid : Oid) → (Some item.1 ≡ Some oid) ↔ Contains lines (name, oid)
searched_found lines seen name i item e rising inside at equal =
    found_name lines seen i item name e rising inside at (exact_bytes item.0 name (subst (λ (line : Line). order_of name line ≡ Equal) at equal))

apart_here : (name : List ℕ) (line : Line) → line.0 ≡ name → (o : Ordering) → order_of name line ≡ o → (o ≡ Equal → ⊥) → ⊥
apart_here name line same Less h other = not_below_itself name (subst (λ (n : List ℕ). slice_cmp nat_cmp n name ≡ Less) same h)
apart_here name line same Equal h other = other refl
apart_here name line same Greater h other =
    not_below_itself name (subst (λ (n : List ℕ). slice_cmp nat_cmp name n ≡ Less) same (nat_list_cmp_total.antisymm name line.0 ∙ ap ordering_reverse h))

absent : (lines : List Line) (name : List ℕ) (i : ℕ) → AreRising lines
    → (IsNonDecreasingBy (λ line. ordering_index (order_of name line)) lines
    → IsPartitionPoint (λ line. order_of name line ≡ Less) (λ line. order_of name line ≡ Greater) lines i)
    → (oid : Oid) → Contains lines (name, oid) → ⊥
absent lines name i rising parts oid has =
    let line = get_or lines has.0 (name, oid) in
    let same : line.0 ≡ name = ap (λ (l : Line). l.0) has.2 in
    let at = parts (comparisons_rise lines name rising) in
    ⊎_elim
    (λ (below : has.0 < i). apart_here name line same Less (at.0 has.0 (name, oid) (omega arith) below) (λ h. cc h))
    (λ (above : i ≤ has.0). apart_here name line same Greater (at.1 has.0 (name, oid) above has.1) (λ h. cc h))
    (cases_lt has.0 i)

-- between lesser and greater names there is none
pub searched_none : (lines seen : List Line) (name : List ℕ) (i : ℕ) → seen ≡ lines → AreRising lines
    → (IsNonDecreasingBy (λ line. ordering_index (order_of name line)) seen
    → IsPartitionPoint (λ line. order_of name line ≡ Less) (λ line. order_of name line ≡ Greater) seen i)
    → (oid : Oid) → (None ≡ Some oid) ↔ Contains lines (name, oid)
searched_none lines seen name i e rising parts oid =
    (λ h. cc h, λ has. absurd (absent seen name i (rw e rising) parts oid (rw e has)))
