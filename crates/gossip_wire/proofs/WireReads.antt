-- How what a wire reads of its link follows one another.
use Rattle.std.proofs.Common.{◌≡◌, ℕ, ◌+◌, ◌-◌, ◌<◌, ◌≤◌, Bool, true, false, List, [], ◌∷◌, ◌++◌, length, take, drop, refl, sym, ap, subst, ◌∙◌, arith, append_assoc, append-nil, length-append, Some, None}
use Rattle.std.proofs.Common.{take-take, take-append-drop, length-drop, length-take, length-take-le}
use Rattle.std.specs.Prelude.{Option, Result, Ok, Err, IfOk, IfErr, IsTrue, ◌↔◌}
use Rattle.std.specs.Io.KnownBytes.{Appends, Consumes, Keeps}
use Rattle.rad_base.specs.Faults.{Rose}
use Rattle.unit_reader.proofs.Readings.{in_pieces}
use Rattle.unit_reader.specs.Units.{At, Reading, Turned, behind, only, reading, then_on}
use Rattle.gossip_wire.proofs.FramesFed.{Frames, Read, are_both, breaks_on}
use Rattle.gossip_wire.specs.FrameReaders.{AreRead, frames_from}
use Rattle.gossip_wire.specs.Judging.{judge, never}
use Rattle.gossip_wire.specs.Wires.{Answers, BreakAs, FailsAs, FillsAs, GivesFront, IsOver, Reads, RefusesAs, Seen, Spoils, Stops, StopsAs}
use Rattle.gossip_wire.specs.declared.frame.Frame.{Frame}
use Rattle.gossip_wire.specs.declared.frame_fault.FrameFault.{FrameFault}
use Rattle.gossip_wire.specs.declared.frame_fault.FrameFault.TheVariants as fault
use Rattle.gossip_wire.specs.declared.units.FrameUnits.{FrameUnits}
use Rattle.gossip_wire.specs.declared.units.UnreadFrame.{UnreadFrame}
use Rattle.gossip_wire.specs.declared.wire_fault.WireFault.{WireFault}
use Rattle.gossip_wire.specs.declared.wire_fault.WireFault.TheVariants.{LinkFault, Inside, TooLong, Spoilt, NoMemory}

abbrev pub State : Type 0
State = FrameUnits × List ℕ

-- nothing was taken
pub consumes_none : (left : Option (List ℕ)) → Consumes left left []
consumes_none None = tt
consumes_none (Some xs) = refl

-- what stays has lost nothing
pub keeps_consumes : (old new : Option (List ℕ)) → Keeps old new → Consumes old new []
keeps_consumes None new k = tt
keeps_consumes (Some xs) None k = absurd k
keeps_consumes (Some xs) (Some ys) k = sym k

consumes_then : (a b c : Option (List ℕ)) (s t : List ℕ) → Consumes a b s → Consumes b c t → Consumes a c (s ++ t)
consumes_then None b c s t p q = tt
consumes_then (Some x) None c s t p q = absurd p
consumes_then (Some x) (Some y) None s t p q = absurd q
consumes_then (Some x) (Some y) (Some z) s t p q = p ∙ (ap (λ (l : List ℕ). s ++ l) q ∙ sym (append_assoc s t z))

parts_then : (a b c s t p q : List ℕ) → a ++ s ≡ p ++ b → b ++ t ≡ q ++ c → a ++ (s ++ t) ≡ (p ++ q) ++ c
parts_then a b c s t p q e f =
    sym (append_assoc a s t) ∙ (ap (λ (l : List ℕ). l ++ t) e ∙ (append_assoc p b t ∙ (ap (λ (l : List ℕ). p ++ l) f ∙ sym (append_assoc p q c))))

-- what follows bytes of which nothing is broken
reading_then : (u v : State) (p q : List ℕ) (unread : List UnreadFrame) → frames_from u p ≡ record { items = unread; place = At v.0 v.1 [] }
    → frames_from u (p ++ q) ≡ behind unread (frames_from v q)
reading_then u v p q unread e =
    in_pieces never judge u.0 u.1 p q ∙ ap (λ (r : Read). then_on r (λ t keeps rest. reading never judge t keeps (rest ++ q))) e

-- nothing was read
pub reads_none : (now : Seen) → Reads now now []
reads_none now = record {
  taken = [];
  read = [];
  unread = [];
  gave = consumes_none now.left;
  parts = append-nil now.window;
  place = omega arith;
  budget = refl;
  within = omega arith;
  are = tt;
  whole = refl;
}

-- first frames, then more
pub reads_then : {a b c : Seen} {xs ys : Frames} → Reads a b xs → Reads b c ys → Reads a c (xs ++ ys)
reads_then {a} {b} {c} {xs} {ys} p q = record {
  taken = p.taken ++ q.taken;
  read = p.read ++ q.read;
  unread = p.unread ++ q.unread;
  gave = consumes_then a.left b.left c.left p.taken q.taken p.gave q.gave;
  parts = parts_then a.window b.window c.window p.taken q.taken p.read q.read p.parts q.parts;
  place = omega (arith, p.place, q.place, length-append p.read q.read);
  budget = q.budget ∙ p.budget;
  within = omega (arith, p.place, p.budget, p.within, q.within, length-append p.read q.read);
  are = are_both p.unread q.unread xs ys p.are q.are;
  whole = reading_then a.state b.state p.read q.read p.unread p.whole ∙ ap (λ (r : Read). behind p.unread r) q.whole;
}

break_on : (whole r : Read) (unread : List UnreadFrame) → whole ≡ behind unread r → AreRead unread [] → (e : FrameFault) → BreakAs r e → BreakAs whole e
break_on whole r unread is are fault.NoMemory b = absurd b
break_on whole r unread is are (fault.BadMagic place) b = breaks_on whole r unread [] [] is are (fault.BadMagic place) b
break_on whole r unread is are (fault.LongVarint place) b = breaks_on whole r unread [] [] is are (fault.LongVarint place) b
break_on whole r unread is are (fault.TooLong place) b = breaks_on whole r unread [] [] is are (fault.TooLong place) b
break_on whole r unread is are (fault.BadKind place) b = breaks_on whole r unread [] [] is are (fault.BadKind place) b
break_on whole r unread is are (fault.BadBody place) b = breaks_on whole r unread [] [] is are (fault.BadBody place) b

-- nothing, and then bytes that break
pub spoils_then : {a b c : Seen} (e : FrameFault) → Reads a b [] → Spoils b c e → Spoils a c e
spoils_then {a} {b} {c} e p q = record {
  taken = p.taken ++ q.taken;
  read = p.read ++ q.read;
  rest = q.rest;
  gave = consumes_then a.left b.left c.left p.taken q.taken p.gave q.gave;
  parts = parts_then a.window b.window q.rest p.taken q.taken p.read q.read p.parts q.parts;
  within = omega (arith, p.place, p.budget, p.within, q.within, length-append p.read q.read);
  breaks = break_on (frames_from a.state (p.read ++ q.read)) (frames_from b.state q.read) p.unread
      (reading_then a.state b.state p.read q.read p.unread p.whole) p.are e q.breaks;
}

-- why reading stops, after readings without a frame
pub stops_then : {a b : Seen} (c : Seen) (e : WireFault) (Rose : Type 0) → Reads a b [] → Stops b c e → Answers a c Rose (Err e)
stops_then c (Spoilt broken) Rose p q = spoils_then broken p q
stops_then c NoMemory Rose p q = tt
stops_then c LinkFault Rose p q = absurd q
stops_then c (Inside place) Rose p q = absurd q
stops_then c TooLong Rose p q = absurd q

-- why no bytes came, after readings without a frame
pub fails_then : {a b : Seen} (e : WireFault) (Rises Rose : Type 0) → (Rises → Rose) → Reads a b [] → FailsAs Rises e → Answers a b Rose (Err e)
fails_then LinkFault Rises Rose up p q = (p, up q)
fails_then NoMemory Rises Rose up p q = tt
fails_then (Spoilt broken) Rises Rose up p q = absurd q
fails_then (Inside place) Rises Rose up p q = absurd q
fails_then TooLong Rises Rose up p q = absurd q

-- bytes that are some
pub some_of : (xs : List ℕ) → (xs ≡ [] → ⊥) → 0 < length xs
some_of [] h = absurd (h refl)
some_of (x ∷ xs) h = omega arith

-- bytes that are none
none_of : (xs : List ℕ) → (0 < length xs → ⊥) → xs ≡ []
none_of [] h = refl
none_of (x ∷ xs) h = absurd (h (omega arith))

-- What a piece brings that was taken where none was left.
module _ (s : State) (window piece : List ℕ) (place budget : ℕ) (old new : Option (List ℕ)) (empty : window ≡ []) where
  abbrev before : Seen
  before = record { state = s; window = window; place = place; budget = budget; left = old }

  abbrev after : Seen
  after = record { state = s; window = piece; place = place; budget = budget; left = new }

  fill_reads : Consumes old new piece → Reads before after []
  fill_reads gave = record {
    taken = piece;
    read = [];
    unread = [];
    gave = gave;
    parts = ap (λ (l : List ℕ). l ++ piece) empty;
    place = omega arith;
    budget = refl;
    within = omega arith;
    are = tt;
    whole = refl;
  }

  pub filled : (r : Result Bool WireFault) → IfOk r (FillsAs old new piece)
      → IfOk r (λ more. Reads before after [] × (IsTrue more ↔ (0 < length piece)) × (more ≡ false → IsOver after))
  filled (Ok true) f = (fill_reads f.0, f.1, λ h. absurd (cc h))
  filled (Ok false) f =
      let none : piece ≡ [] = none_of piece (λ some. absurd (cc (f.1.1 some))) in
      (fill_reads f.0, f.1, λ _. (none, f.2 none))
  filled (Err e) f = tt

  pub not_filled : (r : Result Bool WireFault) (Rose : Type 0) → IfErr r (λ e. (piece ≡ []) × Consumes old new [] × FailsAs Rose e)
      → IfErr r (λ e. Reads before after [] × FailsAs Rose e)
  not_filled (Ok more) Rose f = tt
  not_filled (Err e) Rose f = (fill_reads (subst (λ (l : List ℕ). Consumes old new l) (sym f.0) f.1), f.2)

-- What a turn over the front of the bytes that were taken read.
module _ (s t : State) (window piece : List ℕ) (place budget used : ℕ) (unread : Option UnreadFrame) (left : Option (List ℕ))
    (is : piece ≡ take (budget - place) window) (turned : Turned never judge s.0 s.1 piece t.0 t.1 used unread)
  where
    abbrev old : Seen
    old = record { state = s; window = window; place = place; budget = budget; left = left }

    abbrev new : Seen
    new = record { state = t; window = drop used window; place = place + used; budget = budget; left = left }

    few : used ≤ budget - place
    few = omega (arith, turned.within, ap length is, length-take (budget - place) window)

    count : length (take used piece) ≡ used
    count = length-take-le used piece turned.within

    parts : window ++ [] ≡ take used piece ++ drop used window
    parts = append-nil window ∙ (sym (take-append-drop used window)
        ∙ ap (λ (l : List ℕ). l ++ drop used window) (sym (ap (take used) is ∙ take-take used (budget - place) window few)))

    whole : frames_from s (take used piece) ≡ record { items = only unread; place = At t.0 t.1 [] }
    whole = ap (λ (l : List ℕ). frames_from s l) (sym (append-nil (take used piece)))
        ∙ (turned.reads [] ∙ ap (λ (l : List UnreadFrame). let read : Read = record { items = l; place = At t.0 t.1 [] } in read) (append-nil (only unread)))

    turn_reads : (frame : List (ℕ × Frame)) → AreRead (only unread) frame → Reads old new frame
    turn_reads frame are = record {
      taken = [];
      read = take used piece;
      unread = only unread;
      gave = consumes_none left;
      parts = parts;
      place = omega (arith, count);
      budget = refl;
      within = omega (arith, count, few);
      are = are;
      whole = whole;
    }

    pub turned_on : (r : Result (Option (ℕ × Frame)) WireFault) → IfOk r (λ frame. AreRead (only unread) (only frame))
        → IfOk r (λ frame. Reads old new (only frame) × (place < place + used))
    turned_on (Ok frame) are = (turn_reads (only frame) are, omega (arith, turned.some))
    turned_on (Err e) are = tt

    frame_stops : (e : WireFault) → RefusesAs unread e → Stops old new e
    frame_stops e refuses = by_fault unread e refuses whole
      where
        by_fault : (u : Option UnreadFrame) (e : WireFault) → RefusesAs u e → frames_from s (take used piece) ≡ record { items = only u; place = At t.0 t.1 [] } → Stops old new e
        by_fault (Some u) (Spoilt (fault.BadBody at)) r is = record {
          taken = [];
          read = take used piece;
          rest = drop used window;
          gave = consumes_none left;
          parts = parts;
          within = omega (arith, count, few);
          breaks = record { unread = []; broken = u; more = record { items = []; place = At t.0 t.1 [] }; are = tt; whole = is; here = r.0; none = r.1 };
        }
        by_fault u NoMemory r is = tt
        by_fault u e r is = absurd r

    pub refused_on : (r : Result (Option (ℕ × Frame)) WireFault) → IfErr r (RefusesAs unread) → IfErr r (Stops old new)
    refused_on (Ok frame) refuses = tt
    refused_on (Err e) refuses = frame_stops e refuses

-- what a turn over the front of the bytes that were taken shows
pub turn_stops : (e : WireFault) (s : State) (window piece : List ℕ) (place budget : ℕ) (left : Option (List ℕ)) (new : Seen) → piece ≡ take (budget - place) window
    → new.left ≡ left → StopsAs (frames_from s piece) e → Stops (record { state = s; window = window; place = place; budget = budget; left = left }) new e
turn_stops (Spoilt broken) s window piece place budget left new is same breaks = record {
  taken = [];
  read = piece;
  rest = drop (budget - place) window;
  gave = subst (λ (l : Option (List ℕ)). Consumes left l []) (sym same) (consumes_none left);
  parts = append-nil window ∙ (sym (take-append-drop (budget - place) window) ∙ ap (λ (l : List ℕ). l ++ drop (budget - place) window) (sym is));
  within = omega (arith, ap length is, length-take (budget - place) window);
  breaks = breaks;
}
turn_stops NoMemory s window piece place budget left new is same breaks = tt
turn_stops LinkFault s window piece place budget left new is same breaks = absurd breaks
turn_stops (Inside at) s window piece place budget left new is same breaks = absurd breaks
turn_stops TooLong s window piece place budget left new is same breaks = absurd breaks

-- what a give added, after what was given before
pub appends_then : (a b c : Option (List ℕ)) (s t : List ℕ) → Appends a b s → Appends b c t → Appends a c (s ++ t)
appends_then None b c s t p q = tt
appends_then (Some x) None c s t p q = absurd p
appends_then (Some x) (Some y) None s t p q = absurd q
appends_then (Some x) (Some y) (Some z) s t p q = q ∙ (ap (λ (l : List ℕ). l ++ t) p ∙ append_assoc x s t)

-- what stays has got nothing
pub appends_keeps : (a b c : Option (List ℕ)) (s : List ℕ) → Appends a b s → Keeps b c → Appends a c s
appends_keeps None b c s p k = tt
appends_keeps (Some x) None c s p k = absurd p
appends_keeps (Some x) (Some y) None s p k = absurd k
appends_keeps (Some x) (Some y) (Some z) s p k = k ∙ p

-- a count that rose later rose from before
pub rose_from : (a b c : ℕ) → a ≤ b → Rose b c → Rose a c
rose_from a b c h rose = omega arith
