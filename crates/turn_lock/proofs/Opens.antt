-- The table as it is made.
use Rattle.std.proofs.Common.{◌≡◌, ℕ, zero, suc, ◌<◌, List, [], ◌∷◌, All, Some, sym, refl, ap, ◌∙◌, subst, arith, append-nil}
use Rattle.std.proofs.lemmas.Bool.{false≢true}
use Rattle.std.proofs.lemmas.List.Elements.{All-nil, All-weaker}
use mathlib.Core.Option.{some, some-injective, some-ne-none}
use lib.ListN.{get_elem?}
use Rattle.atomic_table.specs.Table.{opening}
use Rattle.rad_base.proofs.Prefixes.{prefix_self}
use Rattle.turn_lock.specs.declared.view.View.{View}
use Rattle.turn_lock.specs.declared.view.Made.{Made}
use Rattle.turn_lock.specs.Views.{made_by, first_view}
use Rattle.turn_lock.specs.Rule.{Knows, IsInTurn}
use Rattle.turn_lock.proofs.Numbers.{beyond_counts}
use Rattle.turn_lock.proofs.Keeps.{none_some}

-- a value whose entries have no caller meets the rule
pub opens : {T E C : Type 0} (list : T → List E) (constants : T → C) (caller : E → ℕ) (base : List E) (fixed : C) (x : T) → list x ≡ base → constants x ≡ fixed → All (λ e. caller e ≡ 0) base
    → IsInTurn list constants caller base fixed (opening (0 ∷ 0 ∷ 0 ∷ 1 ∷ []) (Some x ∷ []) (first_view base fixed))
opens {T} {E} {C} list constants caller base fixed x same fix all_zero = record {
  wide = refl;
  deep = refl;
  whole = base;
  added = [];
  grown = append-nil base;
  counted = refl;
  longest = (0, first_view base fixed, refl, omega arith, refl);
  drawn = 0;
  served = 0;
  drawn_word = refl;
  served_word = refl;
  waiting = refl;
  apart = λ i j u y t a b p q. place i u a ∙ sym (place j y b);
  at_home = λ _. (x, refl, same, fix);
  each = λ i u a live. subst (λ (y : View E C). Knows caller fixed base 0 0 y) (only i u a) record {
    constants = refl;
    seen = prefix_self base;
    told = (base, refl);
    ticket = λ t e. absurd (none_some t e);
    called = λ c. absurd (false≢true c);
    made = All-nil (λ (m : Made E). (0 < m.number) × (made_by caller m.number base ≡ m.entries));
    unnamed = λ _. refl;
  };
  spent = λ i u a z. absurd (let e = only i u a in let n : u.share ≡ 4611686018427387904 = ap (λ (y : View E C). y.share) (sym e) in omega arith);
  once = λ n pos. sym (beyond_counts n 1 (omega arith));
  numbers = refl;
  callers = All-weaker (λ (e : E). caller e ≡ 0) (λ (e : E). caller e < 1) (λ e z. omega arith) base all_zero;
  behind = All-nil (λ (e : E). 0 < caller e);
  shares = refl;
}
  where
    only : (i : ℕ) (u : View E C) → get_elem? (first_view base fixed ∷ []) i ≡ some u → first_view base fixed ≡ u
    only zero u a = some-injective (first_view base fixed) u a
    only (suc i) u a = absurd (some-ne-none u (sym a))

    place : (i : ℕ) (u : View E C) → get_elem? (first_view base fixed ∷ []) i ≡ some u → i ≡ 0
    place zero u a = refl
    place (suc i) u a = absurd (some-ne-none u (sym a))
