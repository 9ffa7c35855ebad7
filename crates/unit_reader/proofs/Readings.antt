-- How a reading goes on over the bytes up to the next look.
use Rattle.std.proofs.Common.{◌≡◌, ℕ, suc, ◌+◌, ◌-◌, ◌<◌, ◌≤◌, Bool, true, false, List, [], ◌∷◌, ◌++◌, length, take, drop, refl, sym, ap, subst, ◌∙◌, arith, append_assoc, append-nil, length-append, length-drop, drop_of_length-le, ⊎_elim, inl, inr}
use Rattle.std.proofs.lemmas.Bool.{cases_lt}
use Rattle.std.proofs.lemmas.List.{take-append-le, length-take-le, take_all}
use Rattle.std.proofs.Math.Seq.{take-add, take-append-add}
use Rattle.std.proofs.lemmas.List.{drop-drop}
use Rattle.std.proofs.lemmas.List.{take-append-drop}
use Rattle.std.specs.Prelude.{Option, None, Err, ◌⊎◌}
use Rattle.unit_reader.specs.declared.units.Stop.{Stop}
use Rattle.unit_reader.specs.declared.units.Stop.TheVariants as stop
use Rattle.unit_reader.specs.Units.{Verdict, Begins, Ends, Breaks, Reading, At, Broken, Place, behind, next, only, reading, then_on, AllBegin, FrontsBegin, BeginsBelow, Looks, ReadsUpTo, Turned, Turns, WasFed}

-- The bytes up to a look are held, and judged there: those whose fronts begin a unit.
pub look_along : {S I F : Type 0} (shut : S → Bool) (judge : S → List ℕ → Verdict S I F) (s : S) (held front rest : List ℕ)
    → shut s ≡ false → 0 < length front → ((k : ℕ) → 0 < k → k < length front → judge s (held ++ take k front) ≡ Begins)
    → reading shut judge s held (front ++ rest) ≡ next (judge s (held ++ front)) s (held ++ front) (λ t keeps. reading shut judge t keeps rest)
look_along shut judge s held [] rest live some begins = absurd (omega arith)
look_along shut judge s held (b ∷ []) rest live some begins = rw live refl
look_along shut judge s held (b ∷ c ∷ front) rest live some begins =
    let here : judge s (held ++ b ∷ []) ≡ Begins = begins 1 (omega arith) (omega arith) in
    let later : (k : ℕ) → 0 < k → k < length (c ∷ front) → judge s ((held ++ b ∷ []) ++ take k (c ∷ front)) ≡ Begins =
    λ k some within. rw append_assoc (begins (suc k) (omega arith) (omega arith)) in
    let on = look_along shut judge s (held ++ b ∷ []) (c ∷ front) rest live (omega arith) later in
    let same : (held ++ b ∷ []) ++ (c ∷ front) ≡ held ++ (b ∷ c ∷ front) = append_assoc held (b ∷ []) (c ∷ front) in
    rw (live, here) (subst (λ (xs : List ℕ). reading shut judge s (held ++ b ∷ []) ((c ∷ front) ++ rest) ≡ next (judge s xs) s xs (λ t keeps. reading shut judge t keeps rest)) same on)

-- a unit is taken, where each of its fronts begins it
pub unit_read : {S I F : Type 0} (shut : S → Bool) (judge : S → List ℕ → Verdict S I F) (s t : S) (item : Option I) (unit rest : List ℕ)
    → shut s ≡ false → 0 < length unit → FrontsBegin judge s unit → judge s unit ≡ Ends item t
    → reading shut judge s [] (unit ++ rest) ≡ behind (only item) (reading shut judge t [] rest)
unit_read shut judge s t item unit rest live some fronts ends =
    rw ends at (look_along shut judge s [] unit rest live some fronts)

-- the bytes up to a look are held, and judged there
pub look_at : {S I F : Type 0} (shut : S → Bool) (judge : S → List ℕ → Verdict S I F) (s : S) (held front rest : List ℕ) (n : ℕ)
    → shut s ≡ false → 0 < length front → length held + length front ≤ n → BeginsBelow judge s held n
    → reading shut judge s held (front ++ rest) ≡ next (judge s (held ++ front)) s (held ++ front) (λ t keeps. reading shut judge t keeps rest)
look_at shut judge s held front rest n live some fits begins =
    look_along shut judge s held front rest live some (λ k more within.
    let size : length (take k front) ≡ k = length-take-le k front (omega arith) in
    begins (take k front) (omega arith) (omega arith))

-- a front of what is held and what follows, shorter than the next look
begins_at : {S I F : Type 0} (judge : S → List ℕ → Verdict S I F) (s : S) (held front : List ℕ) (n k : ℕ)
    → AllBegin judge s held → BeginsBelow judge s held n → 0 < k → k ≤ length held + length front → k < n
    → judge s (take k (held ++ front)) ≡ Begins
begins_at judge s held front n k all begins some within below = ⊎_elim later earlier (cases_lt (length held) k)
  where
    earlier : k ≤ length held → judge s (take k (held ++ front)) ≡ Begins
    earlier h = rw (take-append-le k held front h) (all k some h)

    later : length held < k → judge s (take k (held ++ front)) ≡ Begins
    later h =
        let j : ℕ = k - length held in
        let size : length (take j front) ≡ j = length-take-le j front (omega arith) in
        let is : length held + j ≡ k = omega arith in
        let cut : take k (held ++ front) ≡ held ++ take j front = ap (λ (m : ℕ). take m (held ++ front)) (sym is) ∙ take-append-add held front j in
        rw cut (begins (take j front) (omega arith) (omega arith))

-- all that is held before a look begins a unit
pub all_begin : {S I F : Type 0} (judge : S → List ℕ → Verdict S I F) (s : S) (held front : List ℕ) (n : ℕ)
    → AllBegin judge s held → BeginsBelow judge s held n → length held + length front < n → AllBegin judge s (held ++ front)
all_begin judge s held front n all begins fits k some within =
    let size = length-append held front in
    begins_at judge s held front n k all begins some (omega arith) (omega arith)

-- and of what is held at a look each front does
pub fronts_begin : {S I F : Type 0} (judge : S → List ℕ → Verdict S I F) (s : S) (held front : List ℕ) (n : ℕ)
    → AllBegin judge s held → BeginsBelow judge s held n → length held + length front ≤ n → FrontsBegin judge s (held ++ front)
fronts_begin judge s held front n all begins fits k some within =
    let size = length-append held front in
    begins_at judge s held front n k all begins some (omega arith) (omega arith)

-- where the look says so too, all of it
pub whole_begins : {S I F : Type 0} (judge : S → List ℕ → Verdict S I F) (s : S) (held : List ℕ)
    → FrontsBegin judge s held → judge s held ≡ Begins → AllBegin judge s held
whole_begins judge s held fronts here k some within = ⊎_elim (fronts k some) whole (cases_lt k (length held))
  where
    whole : length held ≤ k → judge s (take k held) ≡ Begins
    whole h = rw (take_all k held h) here

-- bytes of a piece were held, up to the next look at most
pub record Held {S I F : Type 0} (shut : S → Bool) (judge : S → List ℕ → Verdict S I F) (s : S) (held piece : List ℕ) (want n : ℕ) (new : List ℕ) : Type 0 where
  pub live : shut s ≡ false
  pub begun : AllBegin judge s held
  pub begins : BeginsBelow judge s held want
  pub some : 0 < n
  pub within : n ≤ length piece
  pub upto : length held + n ≤ want
  pub same : new ≡ held ++ take n piece

module _ {S I F : Type 0} {shut : S → Bool} {judge : S → List ℕ → Verdict S I F} {s : S} {held piece : List ℕ} {want n : ℕ} {new : List ℕ} (h : Held shut judge s held piece want n new) where
  front_size : length (take n piece) ≡ n
  front_size = length-take-le n piece h.within

  new_size : length new ≡ length held + n
  new_size = ap length h.same ∙ (length-append held (take n piece) ∙ ap (λ (m : ℕ). length held + m) front_size)

  -- before the look all of them begin a unit
  pub held_begin : length new < want → AllBegin judge s new
  held_begin short =
      let size = new_size in
      let front = front_size in
      subst (λ (xs : List ℕ). AllBegin judge s xs) (sym h.same) (all_begin judge s held (take n piece) want h.begun h.begins (omega arith))

  -- at the look each front does
  pub held_fronts : FrontsBegin judge s new
  held_fronts =
      let front = front_size in
      let upto = h.upto in
      subst (λ (xs : List ℕ). FrontsBegin judge s xs) (sym h.same) (fronts_begin judge s held (take n piece) want h.begun h.begins (omega arith))

  -- they are judged
  held_read : (rest : List ℕ) → reading shut judge s held (take n piece ++ rest) ≡ next (judge s new) s new (λ t keeps. reading shut judge t keeps rest)
  held_read rest =
      let front = front_size in
      let upto = h.upto in
      let some = h.some in
      let read = look_at shut judge s held (take n piece) rest want h.live (omega arith) (omega arith) h.begins in
      read ∙ ap (λ (xs : List ℕ). next (judge s xs) s xs (λ t keeps. reading shut judge t keeps rest)) (sym h.same)

  -- what is read whatever follows is read of the piece
  turned : (item : Option I) (t : S) (keeps : List ℕ) → ((rest : List ℕ) → reading shut judge s held (take n piece ++ rest) ≡ behind (only item) (reading shut judge t keeps rest))
      → Turned shut judge s held piece t keeps n item
  turned item t keeps reads = record {
    some = h.some;
    within = h.within;
    whole = ap (λ (xs : List ℕ). reading shut judge s held xs) (sym (take-append-drop n piece)) ∙ reads (drop n piece);
    reads = reads;
  }

  -- before the look nothing is read
  begins_whole : length new < want → judge s new ≡ Begins
  begins_whole short =
      let size = new_size in
      let some = h.some in
      subst (λ (xs : List ℕ). judge s xs ≡ Begins) (take_all (length new) new (omega arith)) (held_begin short (length new) (omega arith) (omega arith))

  -- at the look they begin a unit still
  pub kept_begin : (t : S) (keeps : List ℕ) → (judge s new ≡ Begins) × (t ≡ s) × (keeps ≡ new) → AllBegin judge t keeps
  kept_begin t keeps is =
      subst (λ (u : S). AllBegin judge u keeps) (sym is.1) (subst (λ (xs : List ℕ). AllBegin judge s xs) (sym is.2) (whole_begins judge s new held_fronts is.0))

  pub kept_turned : (t : S) (keeps : List ℕ) → (judge s new ≡ Begins) × (t ≡ s) × (keeps ≡ new) → Turned shut judge s held piece t keeps n None
  kept_turned t keeps is = turned None t keeps
      (λ rest. held_read rest ∙ (ap (λ (v : Verdict S I F). next v s new (λ u keep. reading shut judge u keep rest)) is.0
      ∙ (ap (λ (u : S). reading shut judge u new rest) (sym is.1) ∙ ap (λ (xs : List ℕ). reading shut judge t xs rest) (sym is.2))))

  pub short_turned : length new < want → Turned shut judge s held piece s new n None
  short_turned short = kept_turned s new (begins_whole short, refl, refl)

  -- a unit is taken
  pub unit_turned : (item : Option I) (t : S) (keeps : List ℕ) → judge s new ≡ Ends item t → keeps ≡ [] → Turned shut judge s held piece t keeps n item
  unit_turned item t keeps is empty = turned item t keeps
      (λ rest. held_read rest ∙ (ap (λ (v : Verdict S I F). next v s new (λ u keep. reading shut judge u keep rest)) is
      ∙ ap (λ (xs : List ℕ). behind (only item) (reading shut judge t xs rest)) (sym empty)))

  -- a unit is broken
  broken_here : (e : Stop F) (t u : S) (keeps keep : List ℕ) → Looks judge s new t keeps (Err e) → Turns shut judge s held piece u keep (Err e)
  broken_here (stop.Broken fault) t u keeps keep is =
      ap (λ (xs : List ℕ). reading shut judge s held xs) (sym (take-append-drop n piece))
      ∙ (held_read (drop n piece) ∙ ap (λ (v : Verdict S I F). next v s new (λ w kept. reading shut judge w kept (drop n piece))) is)
  broken_here stop.NoMemory t u keeps keep is = tt

  -- the same of a reader seen as a pair
  pub held_broken : (v : S × List ℕ) → (s, held) ≡ v → (e : Stop F) (t u : S) (keeps keep : List ℕ) → Looks judge s new t keeps (Err e) → Turns shut judge v.0 v.1 piece u keep (Err e)
  held_broken v view e t u keeps keep is =
      subst (λ (w : S × List ℕ). Turns shut judge w.0 w.1 piece u keep (Err e)) view (broken_here e t u keeps keep is)

pub turned_as : {S I F : Type 0} {shut : S → Bool} {judge : S → List ℕ → Verdict S I F} {s : S} {held piece : List ℕ} {t : S} {keeps : List ℕ} {n : ℕ} {item : Option I}
    (v : S × List ℕ) → (s, held) ≡ v → Turned shut judge s held piece t keeps n item → Turned shut judge v.0 v.1 piece t keeps n item
turned_as {S} {I} {F} {shut} {judge} {s} {held} {piece} {t} {keeps} {n} {item} v view is =
    subst (λ (w : S × List ℕ). Turned shut judge w.0 w.1 piece t keeps n item) view is

-- where nothing is left, or nothing more is used, reading stops
pub at_rest : {S I F : Type 0} (shut : S → Bool) (judge : S → List ℕ → Verdict S I F) (s : S) (held rest : List ℕ) (items : List I)
    → (rest ≡ []) ⊎ (shut s ≡ true) → behind items (reading shut judge s held rest) ≡ record { items = items; place = At s held rest }
at_rest shut judge s held [] items h = rw append-nil refl
at_rest shut judge s held (b ∷ rest) items (inl h) = cc h
at_rest shut judge s held (b ∷ rest) items (inr h) = rw (h, append-nil) refl

-- a reading that goes on where another one stopped
then_at : {S I F : Type 0} (items more : List I) (p : Place S F) (go : S → List ℕ → List ℕ → Reading S I F)
    → then_on (record { items = items ++ more; place = p }) go ≡ behind items (then_on (record { items = more; place = p }) go)
then_at items more (At t keeps rest) go = rw (append_assoc items more (go t keeps rest).items) refl
then_at items more (Broken fault) go = refl

then_behind : {S I F : Type 0} (items : List I) (r : Reading S I F) (go : S → List ℕ → List ℕ → Reading S I F) → then_on (behind items r) go ≡ behind items (then_on r go)
then_behind items r go = then_at items r.items r.place go

by_verdict : {S I F : Type 0} (shut : S → Bool) (judge : S → List ℕ → Verdict S I F) (s : S) (held xs ys : List ℕ) (v : Verdict S I F)
    → reading shut judge s held (xs ++ ys) ≡ then_on (reading shut judge s held xs) (λ t keeps rest. reading shut judge t keeps (rest ++ ys))
    → ((t : S) → reading shut judge t [] (xs ++ ys) ≡ then_on (reading shut judge t [] xs) (λ u keeps rest. reading shut judge u keeps (rest ++ ys)))
    → next v s held (λ t keeps. reading shut judge t keeps (xs ++ ys)) ≡ then_on (next v s held (λ t keeps. reading shut judge t keeps xs)) (λ t keeps rest. reading shut judge t keeps (rest ++ ys))
by_verdict shut judge s held xs ys Begins on anew = on
by_verdict {S} {I} {F} shut judge s held xs ys (Ends item t) on anew =
    ap (λ (r : Reading S I F). behind (only item) r) (anew t) ∙ sym (then_behind (only item) (reading shut judge t [] xs) (λ u keeps rest. reading shut judge u keeps (rest ++ ys)))
by_verdict shut judge s held xs ys (Breaks fault) on anew = refl

by_shut : {S I F : Type 0} (shut : S → Bool) (judge : S → List ℕ → Verdict S I F) (s : S) (held : List ℕ) (b : ℕ) (xs ys : List ℕ) (c : Bool) → shut s ≡ c
    → reading shut judge s (held ++ b ∷ []) (xs ++ ys) ≡ then_on (reading shut judge s (held ++ b ∷ []) xs) (λ t keeps rest. reading shut judge t keeps (rest ++ ys))
    → ((t : S) → reading shut judge t [] (xs ++ ys) ≡ then_on (reading shut judge t [] xs) (λ u keeps rest. reading shut judge u keeps (rest ++ ys)))
    → reading shut judge s held (b ∷ (xs ++ ys)) ≡ then_on (reading shut judge s held (b ∷ xs)) (λ t keeps rest. reading shut judge t keeps (rest ++ ys))
by_shut shut judge s held b xs ys true is on anew = simp is
by_shut shut judge s held b xs ys false is on anew = simp is (by_verdict shut judge s (held ++ b ∷ []) xs ys (judge s (held ++ b ∷ [])) on anew)

-- bytes in two pieces are read as the bytes as a whole
pub in_pieces : {S I F : Type 0} (shut : S → Bool) (judge : S → List ℕ → Verdict S I F) (s : S) (held xs ys : List ℕ)
    → reading shut judge s held (xs ++ ys) ≡ then_on (reading shut judge s held xs) (λ t keeps rest. reading shut judge t keeps (rest ++ ys))
in_pieces shut judge s held [] ys = refl
in_pieces shut judge s held (b ∷ xs) ys = by_shut shut judge s held b xs ys (shut s) refl (in_pieces shut judge s (held ++ b ∷ []) xs ys) (λ t. in_pieces shut judge t [] xs ys)

-- nothing was read yet
pub read_none : {S I F : Type 0} (shut : S → Bool) (judge : S → List ℕ → Verdict S I F) (s : S) (held piece : List ℕ) → ReadsUpTo shut judge s held piece 0 [] s held
read_none shut judge s held piece = record { within = omega arith; whole = refl; reads = λ rest. refl }

-- a turn more
pub read_on : {S I F : Type 0} {shut : S → Bool} {judge : S → List ℕ → Verdict S I F} {s : S} {held piece : List ℕ} {used : ℕ} {items : List I} {t : S} {keeps : List ℕ} {u : S} {keep : List ℕ} {n : ℕ} {item : Option I}
    → ReadsUpTo shut judge s held piece used items t keeps → Turned shut judge t keeps (drop used piece) u keep n item
    → (all : List I) → all ≡ items ++ only item → ReadsUpTo shut judge s held piece (used + n) all u keep
read_on {S} {I} {F} {shut} {judge} {s} {held} {piece} {used} {items} {t} {keeps} {u} {keep} {n} {item} read turned all is =
    record {
      within = let within = turned.within in let size = length-drop used piece in let fits = read.within in omega arith;
      whole = read.whole ∙ (ap (λ (r : Reading S I F). behind items r) (turned.whole ∙ ap (λ (xs : List ℕ). behind (only item) (reading shut judge u keep xs)) (drop-drop n used piece))
          ∙ more (reading shut judge u keep (drop (used + n) piece)));
      reads = λ rest. ap (λ (xs : List ℕ). reading shut judge s held xs) (ap (λ (xs : List ℕ). xs ++ rest) (take-add used n piece) ∙ append_assoc (take used piece) (take n (drop used piece)) rest)
          ∙ (read.reads (take n (drop used piece) ++ rest) ∙ (ap (λ (r : Reading S I F). behind items r) (turned.reads rest) ∙ more (reading shut judge u keep rest)));
    }
  where
    more : (r : Reading S I F) → behind items (behind (only item) r) ≡ behind all r
    more r = ap (λ (xs : List I). record { items = xs; place = r.place }) (sym (append_assoc items (only item) r.items) ∙ ap (λ (xs : List I). xs ++ r.items) (sym is))

-- where nothing is left, or nothing more is used, the piece was fed
pub fed_now : {S I F : Type 0} {shut : S → Bool} {judge : S → List ℕ → Verdict S I F} {s : S} {held piece : List ℕ} {used : ℕ} {items : List I} {t : S} {keeps : List ℕ}
    → ReadsUpTo shut judge s held piece used items t keeps → (used ≡ length piece) ⊎ (shut t ≡ true) → WasFed shut judge s held piece used items t keeps
fed_now {S} {I} {F} {shut} {judge} {s} {held} {piece} {used} {items} {t} {keeps} read ends =
    record {
      within = read.within;
      whole = read.whole ∙ at_rest shut judge t keeps (drop used piece) items (⊎_elim (λ e. inl (nothing e)) (λ e. inr e) ends);
      reads = read.reads;
      rest = ends;
    }
  where
    nothing : used ≡ length piece → drop used piece ≡ []
    nothing e = drop_of_length-le piece {i = used} (omega arith)
