-- What pieces give of frames.
use Rattle.std.proofs.Common.{◌≡◌, ℕ, ◌+◌, List, [], ◌∷◌, ◌++◌, length, drop, refl, sym, ap, subst, ◌∙◌, arith, append_assoc, append-nil}
use Rattle.std.specs.Prelude.{Option, None, Some}
use Rattle.std.proofs.lemmas.List.{take_all}
use Rattle.unit_reader.specs.Units.{Reading, Turned, behind}
use Rattle.unit_reader.proofs.Readings.{read_none, read_on}
use Rattle.gossip_wire.specs.FrameReaders.{AddsFrame, AreRead, BreaksBehind, BreaksInside, BreaksOutside, GaveFrames, HasReadFrames, RefusesFrame, frames_from, state_of}
use Rattle.gossip_wire.specs.Judging.{first_unit, judge, never}
use Rattle.gossip_wire.specs.declared.frame.Frame.{Frame}
use Rattle.gossip_wire.specs.declared.frame_fault.FrameFault.{FrameFault}
use Rattle.gossip_wire.specs.declared.frame_fault.FrameFault.TheVariants as fault
use Rattle.gossip_wire.specs.declared.frame_reader.FrameReader.{FrameReader}
use Rattle.gossip_wire.specs.declared.units.FrameBreak.{FrameBreak}
use Rattle.gossip_wire.specs.declared.units.FrameUnits.{FrameUnits}
use Rattle.gossip_wire.specs.declared.units.UnreadFrame.{UnreadFrame}

abbrev pub Frames : Type 0
Frames = List (ℕ × Frame)

abbrev pub Read : Type 0
Read = Reading FrameUnits UnreadFrame FrameBreak

-- frames that were read, and more
pub are_both : (a b : List UnreadFrame) (xs ys : Frames) → AreRead a xs → AreRead b ys → AreRead (a ++ b) (xs ++ ys)
are_both [] b [] ys h k = k
are_both [] b (x ∷ xs) ys h k = absurd h
are_both (u ∷ a) b [] ys h k = absurd h
are_both (u ∷ a) b (x ∷ xs) ys h k = (h.0, are_both a b xs ys h.1 k)

-- what was read, and then more
behind_both : (a b : List UnreadFrame) (r : Read) → behind a (behind b r) ≡ behind (a ++ b) r
behind_both a b r = ap (λ (items : List UnreadFrame). let read : Read = record { items = items; place = r.place } in read) (sym (append_assoc a b r.items))

-- bytes break behind what was read as what follows breaks
pub breaks_on : (whole r : Read) (unread : List UnreadFrame) (frames more : Frames) → whole ≡ behind unread r → AreRead unread frames
    → (e : FrameFault) → BreaksBehind r more e → BreaksBehind whole (frames ++ more) e
breaks_on whole r unread frames more is are e breaks = by_fault e breaks
  where
    outside : (broken : FrameBreak) → BreaksOutside r more broken → BreaksOutside whole (frames ++ more) broken
    outside broken b = record {
      unread = unread ++ b.unread;
      are = are_both unread b.unread frames more are b.are;
      whole = is ∙ ap (λ (x : Read). behind unread x) b.whole;
    }

    inside : (place : ℕ) → BreaksInside r more place → BreaksInside whole (frames ++ more) place
    inside place b = record {
      unread = unread ++ b.unread;
      broken = b.broken;
      more = b.more;
      are = are_both unread b.unread frames more are b.are;
      whole = is ∙ ap (λ (x : Read). behind unread x) b.whole ∙ behind_both unread (b.unread ++ b.broken ∷ []) b.more
          ∙ ap (λ (items : List UnreadFrame). behind items b.more) (sym (append_assoc unread b.unread (b.broken ∷ [])));
      here = b.here;
      none = b.none;
    }

    by_fault : (e : FrameFault) → BreaksBehind r more e → BreaksBehind whole (frames ++ more) e
    by_fault (fault.BadBody place) b = inside place b
    by_fault (fault.BadMagic place) b = outside _ b
    by_fault (fault.LongVarint place) b = outside _ b
    by_fault (fault.TooLong place) b = outside _ b
    by_fault (fault.BadKind place) b = outside _ b
    by_fault fault.NoMemory b = tt

-- nothing was read of a piece yet
pub gave_none : (state : FrameUnits × List ℕ) (piece : List ℕ) → GaveFrames state state piece 0 []
gave_none state piece = record { unread = []; are = tt; read = read_none never judge state.0 state.1 piece }

-- a turn more
pub gave_more : (old middle new : FrameUnits × List ℕ) (piece : List ℕ) (used n : ℕ) (item : Option UnreadFrame) (frames all : Frames) → GaveFrames old middle piece used frames
    → Turned never judge middle.0 middle.1 (drop used piece) new.0 new.1 n item → AddsFrame item frames all → GaveFrames old new piece (used + n) all
gave_more old middle new piece used n None frames all gave turned adds = record {
  unread = gave.unread;
  are = subst (λ (xs : Frames). AreRead gave.unread xs) (sym adds) gave.are;
  read = read_on gave.read turned gave.unread (sym (append-nil gave.unread));
}
gave_more old middle new piece used n (Some unread) frames all gave turned adds = record {
  unread = gave.unread ++ unread ∷ [];
  are = subst (λ (xs : Frames). AreRead (gave.unread ++ unread ∷ []) xs) (sym adds.2) (are_both gave.unread (unread ∷ []) frames (adds.0 ∷ []) gave.are (adds.1, tt));
  read = read_on gave.read turned (gave.unread ++ unread ∷ []) refl;
}

-- a unit that is broken behind what a piece gave
pub breaks_after : (old middle : FrameUnits × List ℕ) (piece : List ℕ) (used : ℕ) (frames : Frames) → GaveFrames old middle piece used frames
    → (e : FrameFault) → BreaksBehind (frames_from middle (drop used piece)) [] e → BreaksBehind (frames_from old piece) frames e
breaks_after old middle piece used frames gave e breaks =
    subst (λ (xs : Frames). BreaksBehind (frames_from old piece) xs e) (append-nil frames)
    (breaks_on (frames_from old piece) (frames_from middle (drop used piece)) gave.unread frames [] gave.read.whole gave.are e breaks)

-- a payload that is no body, behind what a piece gave
pub refused : (old middle new : FrameUnits × List ℕ) (piece : List ℕ) (used n : ℕ) (item : Option UnreadFrame) (frames all : Frames) → GaveFrames old middle piece used frames
    → Turned never judge middle.0 middle.1 (drop used piece) new.0 new.1 n item → (e : FrameFault) → RefusesFrame item frames all e → BreaksBehind (frames_from old piece) all e
refused old middle new piece used n item frames all gave turned fault.NoMemory refuses = tt
refused old middle new piece used n None frames all gave turned e refuses = absurd refuses
refused old middle new piece used n (Some unread) frames all gave turned (fault.BadBody place) refuses =
    let read = read_on gave.read turned (gave.unread ++ unread ∷ []) refl in
    record {
      unread = gave.unread;
      broken = unread;
      more = frames_from new (drop (used + n) piece);
      are = subst (λ (xs : Frames). AreRead gave.unread xs) (sym refuses.1) gave.are;
      whole = read.whole;
      here = refuses.0.0;
      none = refuses.0.1;
    }
refused old middle new piece used n (Some unread) frames all gave turned e refuses = absurd refuses.0

-- a piece more was fed
pub fed_more : (fed : List ℕ) (frames got : Frames) (old new : FrameReader) (piece : List ℕ) → HasReadFrames fed frames old
    → GaveFrames (state_of old) (state_of new) piece (length piece) got → new.stop ≡ None → HasReadFrames (fed ++ piece) (frames ++ got) new
fed_more fed frames got old new piece had gave goes_on = record {
  goes_on = goes_on;
  unread = had.unread ++ gave.unread;
  are = are_both had.unread gave.unread frames got had.are gave.are;
  read = reads;
}
  where
    reads : (rest : List ℕ) → frames_from (first_unit, []) ((fed ++ piece) ++ rest) ≡ behind (had.unread ++ gave.unread) (frames_from (state_of new) rest)
    reads rest =
        ap (λ (l : List ℕ). frames_from (first_unit, []) l) (append_assoc fed piece rest) ∙ had.read (piece ++ rest)
        ∙ ap (λ (r : Read). behind had.unread r)
        (ap (λ (l : List ℕ). frames_from (state_of old) (l ++ rest)) (sym (take_all (length piece) piece (omega arith))) ∙ gave.read.reads rest)
        ∙ behind_both had.unread gave.unread (frames_from (state_of new) rest)
