-- A name stands once in lines whose names rise.
use Rattle.std.proofs.Common.{◌≡◌, ℕ, zero, suc, ◌+◌, ◌-◌, ◌<◌, ◌==◌, Bool, List, [], ◌∷◌, length, get_or, Option, None, Some, ⊎_elim, refl, sym, ap, subst, ◌∙◌, arith}
use Rattle.std.specs.Prelude.{Contains, IsTrue, ◌↔◌, slice_get}
use Rattle.std.specs.Cmp.Lexicographic.{slice_cmp}
use Rattle.std.specs.Ordering.{nat_cmp, ordering_index}
use Rattle.std.specs.declared.cmp.Ordering.{Ordering}
use Rattle.std.specs.declared.cmp.Ordering.TheVariants.{Less, Equal, Greater}
use Rattle.std.proofs.lemmas.Cmp.{nat_list_cmp_total}
use Rattle.std.proofs.lemmas.Option.{slice_get_within}
use Rattle.rad_base.proofs.Conditions.{differ}
use Rattle.rad_base.specs.declared.names.Oid.{Oid}
use Rattle.rad_base.proofs.Members.{contains_cases, contains_nothing}
use Rattle.rad_base.proofs.NameOrder.{not_below_itself}
use Rattle.rad_base.proofs.Options.{some_is}
use Rattle.rad_base.specs.Order.{RiseFrom, last_from}
use Rattle.signed_refs.specs.Lines.{Line, name_in}

-- every name of rising lines is above the name before them
above_all : (name : List ℕ) (lines : List Line) (line : Line) → RiseFrom name_in (Some name) lines → Contains lines line
    → slice_cmp nat_cmp name line.0 ≡ Less
above_all name [] line rising has = absurd (contains_nothing line has)
above_all name (x ∷ lines) line rising has =
    ⊎_elim (λ e. subst (λ (l : Line). slice_cmp nat_cmp name l.0 ≡ Less) e rising.0)
    (λ later. nat_list_cmp_total.trans name x.0 line.0 rising.0 (above_all x.0 lines line rising.1 later))
    (contains_cases x lines line has)

not_again : (x : Line) (lines : List Line) (name : List ℕ) (a b : Oid) → RiseFrom name_in (Some x.0) lines → x ≡ (name, a) → Contains lines (name, b) → ⊥
not_again x lines name a b rising e has =
    not_below_itself name (subst (λ (n : List ℕ). slice_cmp nat_cmp n name ≡ Less) (ap (λ (l : Line). l.0) e) (above_all x.0 lines (name, b) rising has))

-- a name stands with one object
pub one_name : (before : Option (List ℕ)) (lines : List Line) (name : List ℕ) (a b : Oid) → RiseFrom name_in before lines
    → Contains lines (name, a) → Contains lines (name, b) → a ≡ b
one_name before [] name a b rising p q = absurd (contains_nothing (name, a) p)
one_name before (x ∷ lines) name a b rising p q =
    ⊎_elim
    (λ e. ⊎_elim (λ f. ap (λ (l : Line). l.1) (sym e ∙ f)) (λ later. absurd (not_again x lines name a b rising.1 e later)) (contains_cases x lines (name, b) q))
    (λ early. ⊎_elim (λ f. absurd (not_again x lines name b a rising.1 f early)) (λ later. one_name (Some x.0) lines name a b rising.1 early later)
    (contains_cases x lines (name, b) q))
    (contains_cases x lines (name, a) p)

-- the ref at a place where the name stands has the only object of the name
pub found_name : (lines seen : List Line) (i : ℕ) (item : Line) (name : List ℕ) → seen ≡ lines → RiseFrom name_in None lines → i < length seen
    → get_or seen i item ≡ item → item.0 ≡ name → (oid : Oid) → (Some item.1 ≡ Some oid) ↔ Contains lines (name, oid)
found_name lines seen i item name e rising inside at same oid =
    let has : Contains seen item = (i, inside, at) in
    let here : Contains lines item = rw (sym e) has in
    let named : Contains lines (name, item.1) = subst (λ (n : List ℕ). Contains lines (n, item.1)) same here in (
      λ f. subst (λ (x : Oid). Contains lines (name, x)) (some_is item.1 oid f) named,
      λ other. ap Some (one_name None lines name item.1 oid rising named other),
    )

last_of : (before : Option (List ℕ)) (lines : List Line) (k : ℕ) (line : Line) → length lines ≡ k + 1 → slice_get lines k ≡ Some line
    → last_from name_in before lines ≡ Some line.0
last_of before [] k line n e = cc e
last_of before (x ∷ []) zero line n e = ap (λ (l : Line). Some l.0) (some_is x line e)
last_of before (x ∷ []) (suc k) line n e = cc e
last_of before (x ∷ y ∷ lines) zero line n e = absurd (omega (arith, n))
last_of before (x ∷ y ∷ lines) (suc k) line n e = last_of (Some x.0) (y ∷ lines) k line (omega (arith, n)) e

-- the last ref has the last name
pub last_name : (lines seen : List Line) (line : Line) → seen ≡ lines → slice_get seen (length seen - 1) ≡ Some line
    → last_from name_in None lines ≡ Some line.0
last_name lines seen line e h =
    let inside = slice_get_within seen (length seen - 1) line h in
    ap (last_from name_in None) (sym e) ∙ last_of None seen (length seen - 1) line (omega (arith, inside)) h

-- what the test of an order says
pub is_less : (o : Ordering) (b : Bool) → b ≡ (ordering_index o == 0) → IsTrue b ↔ (o ≡ Less)
is_less Less b e = ((λ t. refl), λ h. e)
is_less Equal b e = ((λ t. absurd (differ b t e)), λ h. cc h)
is_less Greater b e = ((λ t. absurd (differ b t e)), λ h. cc h)
