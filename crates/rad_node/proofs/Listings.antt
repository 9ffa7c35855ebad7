-- Listings of frames: what a piece adds, and how an input of whole frames ends.
use Rattle.std.proofs.Common.{◌≡◌, ℕ, ◌+◌, ◌-◌, ◌<◌, ◌≤◌, min, take, drop, take-append-drop, zero, suc, List, [], ◌∷◌, ◌++◌, length, Option, None, Some, IsSomeAnd, inl, inr, refl, sym, ap, ◌∙◌, subst, arith, append_assoc, append-nil, ◌⊎◌}
use Rattle.std.proofs.lemmas.List.{length-append, length-take, length-drop, take-take}
use Rattle.std.proofs.KnownBytes.{Consumes-kept, Consumes-nil, Consumes-trans}
use Rattle.std.specs.List.{All, flat_map}
use Rattle.std.specs.Io.KnownBytes.{Consumes, IsAtEnd, Keeps}
use Rattle.hex.specs.Hex.{IsBytes}
use Rattle.gossip_wire.specs.Frames.{Frames, IsBody}
use Rattle.gossip_wire.specs.FrameReaders.{AreRead, BreaksBehind, HasReadFrames, frames_from, state_of}
use Rattle.gossip_wire.specs.FramesSpelled.{frames_of, placed, rest_of}
use Rattle.gossip_wire.specs.Judging.{first_unit}
use Rattle.gossip_wire.specs.Recordings.{BreakAt, EndInside, IsInUnit, place_of}
use Rattle.gossip_wire.specs.declared.frame.Frame.{Frame}
use Rattle.gossip_wire.specs.declared.frame_fault.FrameFault.{FrameFault}
use Rattle.gossip_wire.specs.declared.frame_fault.FrameFault.TheVariants as fault
use Rattle.gossip_wire.specs.declared.frame_reader.FrameReader.{FrameReader}
use Rattle.gossip_wire.specs.declared.units.UnreadFrame.{UnreadFrame}
use Rattle.gossip_wire.proofs.FramesSpelled.{read_is_spelled}
use Rattle.gossip_wire.proofs.Recordings.{fed_in_places, fed_is_read, never_broken, never_inside}
use Rattle.report_texts.specs.Frames.{frame_line, frames_text}
use Rattle.rad_node.specs.Completeness.{EndsWell, IsFaultless}
use Rattle.rad_node.specs.Listing.{EndsAt, HasListed, HasListedAll, IsPastLimit, IsRecording, Listed, Lists, ListsMore, ListsOn, StopsListing, frames_limit, status_at_fault}
use Rattle.rad_node.specs.Statuses.{IsCaused}
use Rattle.rad_node.specs.declared.command.Command.TheVariants as command
use Rattle.rad_node.specs.declared.status.Status.{Status}
use Rattle.rad_node.specs.declared.status.Status.TheVariants as status
use Rattle.rad_node.specs.declared.status.WhichSource.TheVariants as source

abbrev pub Placed : Type 0
Placed = List (ℕ × Frame)

-- each frame that was read has a body
bodies : (unread : List UnreadFrame) (front frames : Placed) → AreRead unread (front ++ frames) → All (λ (placed : ℕ × Frame). IsBody placed.1.body) frames
bodies [] [] [] are k d within = absurd (omega (arith, within))
bodies [] [] (x ∷ frames) are k d within = absurd are
bodies [] (x ∷ front) frames are k d within = absurd are
bodies (u ∷ unread) [] [] are k d within = absurd are
bodies (u ∷ unread) [] (x ∷ frames) are zero d within = are.0.body
bodies (u ∷ unread) [] (x ∷ frames) are (suc k) d within = bodies unread [] frames are.1 k d (omega (arith, within))
bodies (u ∷ unread) (x ∷ front) frames are k d within = bodies unread front frames are.1 k d within

pub read_bodies : (fed : List ℕ) (front frames : Placed) (reader : FrameReader) → HasReadFrames fed (front ++ frames) reader
    → All (λ (placed : ℕ × Frame). IsBody placed.1.body) frames
read_bodies fed front frames reader had = bodies had.unread front frames had.are

-- a refusal of frames, as the end of a run
pub stops_at : (bytes : List ℕ) (frames : Placed) (e : FrameFault) → BreaksBehind (frames_from (first_unit, []) bytes) frames e
    → StopsListing bytes (status_at_fault (place_of e))
stops_at bytes frames (fault.BadMagic place) breaks = record { frames = frames; fault = fault.BadMagic place; breaks = breaks; here = refl }
stops_at bytes frames (fault.LongVarint place) breaks = record { frames = frames; fault = fault.LongVarint place; breaks = breaks; here = refl }
stops_at bytes frames (fault.TooLong place) breaks = record { frames = frames; fault = fault.TooLong place; breaks = breaks; here = refl }
stops_at bytes frames (fault.BadKind place) breaks = record { frames = frames; fault = fault.BadKind place; breaks = breaks; here = refl }
stops_at bytes frames (fault.BadBody place) breaks = record { frames = frames; fault = fault.BadBody place; breaks = breaks; here = refl }
stops_at bytes frames fault.NoMemory breaks = tt

-- bytes and more bytes
pub both_fit : (a b : List ℕ) → IsBytes a → IsBytes b → IsBytes (a ++ b)
both_fit [] b f g i = g i
both_fit (x ∷ a) b f g zero = f zero
both_fit (x ∷ a) b f g (suc i) = both_fit a b (λ j. f (suc j)) g i

lines_of_both : (xs ys : Placed) → frames_text (xs ++ ys) ≡ frames_text xs ++ frames_text ys
lines_of_both [] ys = refl
lines_of_both (x ∷ xs) ys = ap (λ (l : List ℕ). frame_line x ++ l) (lines_of_both xs ys) ∙ sym (append_assoc (frame_line x) (frames_text xs) (frames_text ys))

-- a piece more was read, within the limit
pub listed_more : (old mid new : Option (List ℕ)) (reader next : FrameReader) (text more piece : List ℕ) (room left : ℕ) → (h : HasListed old mid reader text room)
    → Consumes mid new piece → IsBytes piece → length piece + left ≡ room → ListsMore h.bytes h.frames piece next text more → HasListed old new next more left
listed_more old mid new reader next text more piece room left h took fits size lists = record {
  bytes = h.bytes ++ piece;
  frames = h.frames ++ lists.more;
  fits = both_fit h.bytes piece h.fits fits;
  took = Consumes-trans old mid new h.bytes piece h.took took;
  size = let a = h.size in omega (arith, length-append h.bytes piece, a, size);
  read = lists.read;
  text_is = lists.text ∙ ap (λ (l : List ℕ). l ++ frames_text lists.more) h.text_is ∙ sym (lines_of_both h.frames lists.more);
}

-- the input has ended, and between frames
pub listed_all : (old mid new : Option (List ℕ)) (reader : FrameReader) (text : List ℕ) (room : ℕ) (at_end : Type 0) → HasListed old mid reader text room → Consumes mid new []
    → at_end → rest_of reader ≡ [] → HasListedAll old new at_end text
listed_all old mid new reader text room at_end h took ends whole = record {
  bytes = h.bytes;
  took = subst (λ (l : List ℕ). Consumes old new l) (append-nil h.bytes) (Consumes-trans old mid new h.bytes [] h.took took);
  short = let a = h.size in omega (arith, a);
  ends = ends;
  lists = record {
    frames = frames_of h.frames;
    are = subst (λ (l : List ℕ). Frames h.bytes (frames_of h.frames) l) whole (read_is_spelled h.bytes h.frames reader h.fits h.read);
    given = ap frames_text (sym (fed_in_places h.bytes h.frames reader h.fits h.read)) ∙ sym h.text_is;
  };
}

abbrev pub NoText : List ℕ → Type 0
NoText text = ⊥

-- nothing more was taken
took_all : (old mid new : Option (List ℕ)) (bytes : List ℕ) → Consumes old mid bytes → Consumes mid new [] → Consumes old new (bytes ++ [])
took_all old mid new bytes took none = Consumes-trans old mid new bytes [] took none

-- the input has ended inside a frame
pub listed_inside : (old mid new : Option (List ℕ)) (reader : FrameReader) (text : List ℕ) (room : ℕ) (at_end : Type 0) (place : ℕ) → HasListed old mid reader text room
    → Consumes mid new [] → at_end → IsInUnit (state_of reader) place → Listed (Consumes old new) at_end NoText (status.InputBad place)
listed_inside old mid new reader text room at_end place h took ends inside = record {
  bytes = h.bytes;
  unread = [];
  took = took_all old mid new h.bytes h.took took;
  short = let a = h.size in omega (arith, a);
  ends = inr (inl (record {
    all = refl;
    ends = ends;
    inside = record { frames = h.frames; state = state_of reader; read = fed_is_read h.bytes h.frames reader h.read; inside = inside };
  }));
}

-- a take failed
pub listed_failed : (old mid new : Option (List ℕ)) (reader : FrameReader) (text : List ℕ) (room : ℕ) (at_end : Type 0) → HasListed old mid reader text room
    → Keeps mid new → Listed (Consumes old new) at_end NoText (status.ReadFault source.Input)
listed_failed old mid new reader text room at_end h keeps = record {
  bytes = h.bytes;
  unread = [];
  took = subst (λ (l : List ℕ). Consumes old new l) (sym (append-nil h.bytes)) (Consumes-kept old mid new h.bytes h.took keeps);
  short = let a = h.size in omega (arith, a);
  ends = tt;
}

-- nothing was read yet
pub listed_none : (left : Option (List ℕ)) (reader : FrameReader) → HasReadFrames [] [] reader → HasListed left left reader [] frames_limit
listed_none left reader read = record {
  bytes = [];
  frames = [];
  fits = λ i. omega arith;
  took = Consumes-nil left;
  size = refl;
  read = read;
  text_is = refl;
}

-- a piece broke
pub listed_broken : (old mid new : Option (List ℕ)) (reader : FrameReader) (text piece more : List ℕ) (room : ℕ) (at_end : Type 0) (s : Status) → (h : HasListed old mid reader text room)
    → Consumes mid new (piece ++ more) → length piece ≤ room → StopsListing (h.bytes ++ piece) s → Listed (Consumes old new) at_end NoText s
listed_broken old mid new reader text piece more room at_end s h took few stops = by_status s stops
  where
    bytes : List ℕ
    bytes = h.bytes ++ piece

    short : length (h.bytes ++ piece) ≤ frames_limit
    short = let a = h.size in omega (arith, length-append h.bytes piece, a, few)

    taken : Consumes old new ((h.bytes ++ piece) ++ more)
    taken = subst (λ (l : List ℕ). Consumes old new l) (sym (append_assoc h.bytes piece more)) (Consumes-trans old mid new h.bytes (piece ++ more) h.took took)

    by_status : (s : Status) → StopsListing (h.bytes ++ piece) s → Listed (Consumes old new) at_end NoText s
    by_status (status.InputBad place) b = record { bytes = h.bytes ++ piece; unread = more; took = taken; short = short; ends = inl b }
    by_status status.NoMemory b = record { bytes = h.bytes ++ piece; unread = more; took = taken; short = short; ends = tt }
    by_status other b = absurd b

-- the input is longer than the limit
pub listed_past : (old mid new : Option (List ℕ)) (reader next : FrameReader) (text new_text piece more : List ℕ) (room : ℕ) (at_end : Type 0) → (h : HasListed old mid reader text room)
    → Consumes mid new (piece ++ more) → length piece ≡ room → 0 < length more → ListsMore h.bytes h.frames piece next text new_text
    → Listed (Consumes old new) at_end NoText (status.InputBad frames_limit)
listed_past old mid new reader next text new_text piece more room at_end h took all some lists = record {
  bytes = h.bytes ++ piece;
  unread = more;
  took = subst (λ (l : List ℕ). Consumes old new l) (sym (append_assoc h.bytes piece more)) (Consumes-trans old mid new h.bytes (piece ++ more) h.took took);
  short = let a = h.size in omega (arith, length-append h.bytes piece, a, all);
  ends = inr (inr (record {
    here = refl;
    all = let a = h.size in omega (arith, length-append h.bytes piece, a, all);
    more = some;
    frames = h.frames ++ lists.more;
    state = state_of next;
    read = fed_is_read (h.bytes ++ piece) (h.frames ++ lists.more) next lists.read;
  }));
}

-- the input has ended, with nothing left of a frame
pub lists_end : (old mid new : Option (List ℕ)) (reader : FrameReader) (text : List ℕ) (room : ℕ) (at_end : Type 0) → HasListed old mid reader text room → Consumes mid new []
    → at_end → rest_of reader ≡ [] → ListsOn old new at_end reader text room 0
lists_end old mid new reader text room at_end h took ends whole = record {
  few = omega arith;
  on = λ some. absurd (omega (arith, some));
  all = λ none. listed_all old mid new reader text room at_end h took ends whole;
}

-- a take that gave nothing
pub took_none : (mid new : Option (List ℕ)) (n : ℕ) (buffer : List ℕ) → n ≡ 0 → Consumes mid new (take n buffer) → Consumes mid new []
took_none mid new n buffer none took = subst (λ (k : ℕ). Consumes mid new (take k buffer)) none took

-- A take of n bytes, of which the first are read, as many as there may be.
module _ (old mid new : Option (List ℕ)) (reader : FrameReader) (text buffer : List ℕ) (n room read : ℕ) (at_end : Type 0) (is : read ≡ min n room) (within : n ≤ length buffer)
    (took : Consumes mid new (take n buffer)) (h : HasListed old mid reader text room) where
  piece_size : length (take read buffer) ≡ read
  piece_size = omega (arith, length-take read buffer, is, within)

  parts : take n buffer ≡ take read buffer ++ drop read (take n buffer)
  parts = sym (take-append-drop read (take n buffer)) ∙ ap (λ (l : List ℕ). l ++ drop read (take n buffer)) (take-take read n buffer (omega (arith, is)))

  took_both : Consumes mid new (take read buffer ++ drop read (take n buffer))
  took_both = subst (λ (l : List ℕ). Consumes mid new l) parts took

  pub turn_broke : (s : Status) → StopsListing (h.bytes ++ take read buffer) s → Listed (Consumes old new) at_end NoText s
  turn_broke s stops = listed_broken old mid new reader text (take read buffer) (drop read (take n buffer)) room at_end s h took_both (omega (arith, piece_size, is)) stops

  module _ (next : FrameReader) (more : List ℕ) (lists : ListsMore h.bytes h.frames (take read buffer) next text more) where
    pub turn_past : read < n → Listed (Consumes old new) at_end NoText (status.InputBad frames_limit)
    turn_past past =
        listed_past old mid new reader next text more (take read buffer) (drop read (take n buffer)) room at_end h took_both (omega (arith, piece_size, is, past))
        (omega (arith, length-drop read (take n buffer), length-take n buffer, within, past)) lists

    pub turn_on : IsBytes (take read buffer) → (n ≡ 0 → ⊥) → n ≤ read → ListsOn old new at_end next more room n
    turn_on fits some whole =
        let all : read ≡ n = omega (arith, is, whole) in
        record {
          few = omega (arith, is, all);
          on = λ _.
              listed_more old mid new reader next text more (take read buffer) room (room - n) h (subst (λ (k : ℕ). Consumes mid new (take k buffer)) (sym all) took) fits
              (omega (arith, piece_size, is, all)) lists;
          all = λ none. absurd (some none);
        }

-- a list that was given
pub lists_given : (bytes text : List ℕ) (gives : List ℕ → Type 0) → Lists bytes (λ (given : List ℕ). given ≡ text) → gives text → Lists bytes gives
lists_given bytes text gives lists given = record { frames = lists.frames; are = lists.are; given = subst gives (sym lists.given) given }

-- An input of whole frames.
module _ (all : List ℕ) (is : IsRecording all) where
  whole_front : (front rest : List ℕ) → all ≡ front ++ rest → (place : ℕ) → BreakAt front place → ⊥
  whole_front front rest e place b = never_broken front rest is.frames (subst IsBytes e is.fits) (subst (λ (l : List ℕ). Frames l is.frames []) e is.are) place b

  not_bad : (left : Option (List ℕ)) (gives : List ℕ → Type 0) (place : ℕ) → Listed (Consumes (Some all) left) (IsAtEnd left) gives (status.InputBad place) → ⊥
  not_bad None gives place l = absurd l.took
  not_bad (Some rest) gives place l = by_end l.ends
    where
      parts : all ≡ l.bytes ++ (l.unread ++ rest)
      parts = l.took ∙ append_assoc l.bytes l.unread rest

      by_end : BreakAt l.bytes place ⊎ EndsAt (IsAtEnd (Some rest)) l.bytes l.unread place ⊎ IsPastLimit l.bytes l.unread place → ⊥
      by_end (inl b) = whole_front l.bytes (l.unread ++ rest) parts place b
      by_end (inr (inl e)) =
          let same : all ≡ l.bytes = parts ∙ ap (λ (x : List ℕ). l.bytes ++ (x ++ rest)) e.all ∙ ap (λ (x : List ℕ). l.bytes ++ x) e.ends ∙ append-nil l.bytes in
          never_inside all is.frames place is.fits is.are (subst (λ (x : List ℕ). EndInside x place) (sym same) e.inside)
      by_end (inr (inr p)) =
          let size : length all ≡ length (l.bytes ++ (l.unread ++ rest)) = ap length parts in
          let few = is.short in
          let full = p.all in
          let some = p.more in
          omega (arith, length-append l.bytes (l.unread ++ rest), length-append l.unread rest, size, few, full, some)

-- a listing of an input of whole frames ends well where no call failed
pub listing_ends_well : (input left : Option (List ℕ)) (gives : List ℕ → Type 0) (keys read disk out : Type 0) (result : Status) → IsSomeAnd input IsRecording
    → IsFaultless keys read disk out → IsCaused result keys read disk out → Listed (Consumes input left) (IsAtEnd left) gives result → EndsWell command.Frames result
listing_ends_well None left gives keys read disk out result is none cause l = absurd is
listing_ends_well (Some all) left gives keys read disk out status.Ok is none cause l = tt
listing_ends_well (Some all) left gives keys read disk out (status.ReadFault source.Keys) is none cause l = none.0 cause
listing_ends_well (Some all) left gives keys read disk out (status.ReadFault source.Rules) is none cause l = cause
listing_ends_well (Some all) left gives keys read disk out (status.ReadFault source.Input) is none cause l = none.1 cause
listing_ends_well (Some all) left gives keys read disk out status.WriteFault is none cause l = none.3 cause
listing_ends_well (Some all) left gives keys read disk out (status.InputBad place) is none cause l = not_bad all is left gives place l
listing_ends_well (Some all) left gives keys read disk out status.NoMemory is none cause l = tt
listing_ends_well (Some all) left gives keys read disk out other is none cause l = l.ends
