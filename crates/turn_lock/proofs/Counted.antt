-- The new entries of a value that is back, counted one after another.
use Rattle.std.proofs.Common.{◌≡◌, ℕ, zero, suc, ◌+◌, ◌-◌, ◌%◌, ◌<◌, ◌^◌, true, List, [], ◌∷◌, ◌++◌, All, length, take, drop, Some, sym, refl, ap, ◌∙◌, subst, arith, append_assoc, length-append}
use Rattle.std.proofs.lemmas.List.Elements.{All-head, All-tail}
use mathlib.Core.Option.{none}
use Rattle.atomic_table.specs.Table.{step, Allows}
use Rattle.turn_lock.specs.declared.view.View.{View}
use Rattle.turn_lock.specs.Rule.{IsInTurn}
use Rattle.turn_lock.specs.Steps.{added, passed_on}
use Rattle.turn_lock.proofs.Adds.{adds}
use Rattle.turn_lock.proofs.PassesOn.{passes_on}

module _ {E : Type 0} where
  -- the place i of a list, and what stands before and behind it
  split_at : (P : E → Type 0) (xs : List E) (i : ℕ) → All P xs → i < length xs → (e : E) × (more : List E) × (take i xs ++ e ∷ more ≡ xs) × (take (i + 1) xs ≡ take i xs ++ e ∷ []) × P e
  split_at P [] i all less = absurd (omega arith)
  split_at P (x ∷ xs) zero all less = (x, xs, refl, refl, All-head P x xs all)
  split_at P (x ∷ xs) (suc i) all less = let h = split_at P xs i (All-tail P x xs all) (omega arith) in let next : suc i + 1 ≡ suc (i + 1) = omega arith in
      (h.0, h.1, ap (λ (l : List E). x ∷ l) h.2, ap (λ (n : ℕ). take n (x ∷ xs)) next ∙ ap (λ (l : List E). x ∷ l) h.3, h.4)

  take_whole : (xs : List E) (n : ℕ) → n ≡ length xs → take n xs ≡ xs
  take_whole [] zero e = refl
  take_whole [] (suc n) e = absurd (omega arith)
  take_whole (x ∷ xs) zero e = absurd (omega arith)
  take_whole (x ∷ xs) (suc n) e = ap (λ (l : List E). x ∷ l) (take_whole xs n (omega arith))

  drop_front : (xs ys : List E) → drop (length xs) (xs ++ ys) ≡ ys
  drop_front [] ys = refl
  drop_front (x ∷ xs) ys = drop_front xs ys

  abbrev head_or : E → List E → E
  head_or d [] = d
  head_or d (x ∷ xs) = x

module _ {E C : Type 0} where
  -- a view once more entries are seen and made
  abbrev pub counted_view : List E → View E C → View E C
  counted_view new v = record v { seen = v.seen ++ new; made = v.made ++ new }

module _ {T E C : Type 0} (list : T → List E) (constants : T → C) (caller : E → ℕ) (base : List E) (fixed : C) where
  abbrev V : Type 0
  V = View E C

  abbrev IsOf : ℕ → E → Type 0
  IsOf n e = (0 < caller e) × (caller e ≡ n)

  -- the list of x is what the view has seen, and entries of its number
  abbrev pub Grown : V → T → Type 0
  Grown v x = (new : List E) × (v.seen ++ new ≡ list x) × All (λ e. (0 < caller e) × (caller e ≡ v.number)) new

  abbrev pub new_of : V → T → List E
  new_of v x = drop (length v.seen) (list x)

  new_is : (v : V) (x : T) (grown : Grown v x) → new_of v x ≡ grown.0
  new_is v x grown = ap (λ (l : List E). drop (length v.seen) l) (sym grown.1) ∙ drop_front v.seen grown.0

  new_length : (v : V) (x : T) (grown : Grown v x) → length (new_of v x) + length v.seen ≡ length (list x)
  new_length v x grown = let a = ap length (new_is v x grown) in let b = ap length grown.1 in let c = length-append v.seen grown.0 in omega arith

  -- the next of the new entries
  abbrev next_of : (v : V) (x : T) (i : ℕ) → Grown v x → i < length (list x) - length v.seen
      → (e : E) × (more : List E) × (take i (new_of v x) ++ e ∷ more ≡ new_of v x) × (take (i + 1) (new_of v x) ≡ take i (new_of v x) ++ e ∷ []) × IsOf v.number e
  next_of v x i grown less =
      split_at (IsOf v.number) (new_of v x) i (subst (λ (l : List E). All (IsOf v.number) l) (sym (new_is v x grown)) grown.2) (let a = new_length v x grown in omega arith)

  next_whole : (v : V) (x : T) (i : ℕ) (grown : Grown v x) (less : i < length (list x) - length v.seen) → (v.seen ++ take i (new_of v x)) ++ (next_of v x i grown less).0 ∷ (next_of v x i grown less).1 ≡ list x
  next_whole v x i grown less = let next = next_of v x i grown less in
      append_assoc v.seen (take i (new_of v x)) (next.0 ∷ next.1) ∙ (ap (λ (l : List E). v.seen ++ l) (next.2 ∙ new_is v x grown) ∙ grown.1)

  -- the next entry may be counted
  pub counts : (slots id i : ℕ) (v : V) (x : T) → 0 < v.share → v.called ≡ true → Grown v x → length (list x) < 2 ^ 63 → i < length (list x) - length v.seen
      → Allows (IsInTurn list constants caller base fixed) slots id (counted_view (take i (new_of v x)) v, (0, Some x) ∷ []) 2 (λ n. (n + 1) % 2 ^ 64)
      (added list (step slots 2 1 0 none) (counted_view (take i (new_of v x)) v, (0, Some x) ∷ []))
  counts slots id i v x live called grown short less =
      let next = next_of v x i grown less in
      adds list constants caller base fixed slots id (counted_view (take i (new_of v x)) v, (0, Some x) ∷ []) x next.0 next.1 live called refl (next_whole v x i grown less) short (let a = next.4.0 in let b = next.4.1 in omega arith) next.4.1

  -- once all were counted, the list is seen
  pub all_counted : (i : ℕ) (v : V) (x : T) → Grown v x → i ≡ length (list x) - length v.seen → counted_view (take i (new_of v x)) v ≡ record v { seen = list x; made = v.made ++ new_of v x }
  all_counted i v x grown all =
      let whole : take i (new_of v x) ≡ new_of v x = take_whole (new_of v x) i (let a = new_length v x grown in omega arith) in
      let seen : v.seen ++ take i (new_of v x) ≡ list x = ap (λ (l : List E). v.seen ++ l) (whole ∙ new_is v x grown) ∙ grown.1 in
      λ k. record v { seen = seen k; made = v.made ++ whole k }

  -- and the next ticket may be served
  pub passes : (slots id i : ℕ) (v : V) (x : T) → 0 < v.share → v.called ≡ true → Grown v x → v.constants ≡ Some (constants x) → i ≡ length (list x) - length v.seen
      → Allows (IsInTurn list constants caller base fixed) slots id (counted_view (take i (new_of v x)) v, (0, Some x) ∷ []) 1 (λ n. (n + 1) % 2 ^ 64)
      (passed_on (step slots 1 1 0 none) (counted_view (take i (new_of v x)) v, (0, Some x) ∷ []))
  passes slots id i v x live called grown same all =
      passes_on list constants caller base fixed slots id (counted_view (take i (new_of v x)) v, (0, Some x) ∷ []) x live called refl (sym (ap (λ (u : V). u.seen) (all_counted i v x grown all))) same
