-- What a pass knows, and how it is cut and joined.
use Rattle.std.specs.Prelude.{◌≡◌, ℕ, ◌+◌, ◌-◌, ◌<◌, Bool, false, List, [], ◌∷◌, ◌++◌, length, eqb, ltb, Option, None, Some, if◌then◌else◌}
use Rattle.std.specs.List.{sum_by, filter}
use Rattle.turn_lock.specs.declared.view.View.{View}
use Rattle.turn_lock.specs.declared.view.Made.{Made}

abbrev pub one_if : Bool → ℕ
one_if b = if b then 1 else 0

abbrev pub one_if_some : Option ℕ → ℕ
one_if_some None = 0
one_if_some (Some _) = 1

module _ {E : Type 0} where
  -- the longer of two lists, and the first of two that are as long
  abbrev pub longer : List E → List E → List E
  longer xs ys = if ltb (length xs) (length ys) then ys else xs

  -- the other of the two
  abbrev pub shorter : List E → List E → List E
  shorter xs ys = if ltb (length xs) (length ys) then xs else ys

  -- the entries that a number made
  abbrev pub made_by : (E → ℕ) → ℕ → List E → List E
  made_by caller number entries = filter (λ e. eqb (caller e) number) entries

module _ {E C : Type 0} where
  -- a view's own number with what it made, where it has a number
  abbrev pub own_list : View E C → List (Made E)
  own_list v = if eqb v.number 0 then [] else record { number = v.number; entries = v.made } ∷ []

  -- its numbers with what each made: its own, and those that were joined to it
  abbrev pub made_lists : View E C → List (Made E)
  made_lists v = own_list v ++ v.joined

  -- how many numbers it has
  abbrev pub numbers_of : View E C → ℕ
  numbers_of v = length (made_lists v)

  -- its share and how many numbers it has: 2^62 in all views together
  abbrev pub weight : View E C → ℕ
  weight v = v.share + numbers_of v

  -- how often a number stands in a view
  abbrev pub times : ℕ → View E C → ℕ
  times n v = sum_by (λ m. one_if (eqb m.number n)) (made_lists v)

  -- its numbers are those from 1 to how many it has, each once
  abbrev pub HasAllNumbers : View E C → Type 0
  HasAllNumbers v = (n : ℕ) → 0 < n → times n v ≡ one_if (ltb n (numbers_of v + 1))

  -- the view of the first pass, whose share is 2^62
  abbrev pub first_view : List E → C → View E C
  first_view list constants = record {
    number = 0;
    ticket = None;
    called = false;
    share = 4611686018427387904;
    seen = list;
    told = [];
    made = [];
    joined = [];
    constants = Some constants;
  }

  -- the view that is left where a pass was joined into another
  abbrev pub spent_view : View E C
  spent_view = record {
    number = 0;
    ticket = None;
    called = false;
    share = 0;
    seen = [];
    told = [];
    made = [];
    joined = [];
    constants = None;
  }

  -- what is left of a view when a share is cut off
  abbrev pub rest_of : ℕ → View E C → View E C
  rest_of share v = record v { share = v.share - share }

  -- the view that is cut off: it has seen the same, and has made nothing
  abbrev pub part_of : ℕ → View E C → View E C
  part_of share v = record v {
    number = 0;
    ticket = None;
    called = false;
    share = share;
    told = [];
    made = [];
    joined = [];
  }

  -- two views made one: the longer list is seen, and the other is told
  abbrev pub both_of : View E C → View E C → View E C
  both_of v w = record v {
    share = v.share + w.share;
    seen = longer v.seen w.seen;
    told = shorter v.seen w.seen;
    joined = v.joined ++ made_lists w;
  }

  -- two views made one, as the pass knows it after the call
  abbrev pub united : View E C → View E C → View E C
  united v w = record (both_of v w) { told = [] }
