-- What a reader of frames gave, as what all bytes say.
use Rattle.std.proofs.Common.{◌≡◌, ℕ, List, [], ◌∷◌, ◌++◌, length, refl, sym, ap, subst, ◌∙◌, append_assoc, append-nil, arith}
use Rattle.std.specs.Prelude.{Some}
use Rattle.hex.specs.Hex.{IsBytes}
use Rattle.unit_reader.specs.Units.{Place, At, Broken, Reading, behind, then_on}
use Rattle.unit_reader.proofs.Readings.{in_pieces}
use Rattle.gossip_wire.specs.Frames.{Frames, frame_text, kind_of, stream_of}
use Rattle.gossip_wire.specs.FrameReaders.{AreRead, BreaksBehind, BreaksInside, BreaksOutside, HasNoBody, HasReadFrames, IsReadAs, frames_from, state_of}
use Rattle.gossip_wire.specs.FramesSpelled.{begun_of, frames_of, placed, rest_of}
use Rattle.gossip_wire.specs.Judging.{begins_at, first_unit, further, judge, never, stream_kind}
use Rattle.gossip_wire.specs.Recordings.{AreReadAs, BreakAt, EndInside, place_of}
use Rattle.gossip_wire.specs.declared.frame.Frame.{Frame}
use Rattle.gossip_wire.specs.declared.frame_fault.FrameFault.{FrameFault}
use Rattle.gossip_wire.specs.declared.frame_fault.FrameFault.TheVariants as fault
use Rattle.gossip_wire.specs.declared.frame_reader.FrameReader.{FrameReader}
use Rattle.gossip_wire.specs.declared.units.FrameBreak.{FrameBreak}
use Rattle.gossip_wire.specs.declared.units.FrameUnits.{FrameUnits}
use Rattle.gossip_wire.specs.declared.units.UnreadFrame.{UnreadFrame}
use Rattle.gossip_wire.proofs.FramesRead.{spelled_is_read}
use Rattle.gossip_wire.proofs.FramesSpelled.{read_is_spelled}
use Rattle.gossip_wire.proofs.OneFrame.{kind_small}

abbrev Read : Type 0
Read = Reading FrameUnits UnreadFrame FrameBreak

-- what a reader was fed is read so
pub fed_is_read : (fed : List ℕ) (frames : List (ℕ × Frame)) (reader : FrameReader) → HasReadFrames fed frames reader → AreReadAs fed frames (state_of reader)
fed_is_read fed frames reader had = record {
  unread = had.unread;
  are = had.are;
  read =
      ap (λ (l : List ℕ). frames_from (first_unit, []) l) (sym (append-nil fed)) ∙ had.read []
      ∙ ap (λ (items : List UnreadFrame). let r : Read = record { items = items; place = At (state_of reader).0 (state_of reader).1 [] } in r) (append-nil had.unread);
}

-- a frame with its place, by both
same_placed : (unread : UnreadFrame) (x y : ℕ × Frame) → IsReadAs unread x → IsReadAs unread y → x.1 ≡ y.1 → x ≡ y
same_placed unread x y a b same = let place : x.0 ≡ y.0 = a.place ∙ sym b.place in (λ i. (place i, same i))

-- frames that are read of the same are in the same places
same_places : (unread more : List UnreadFrame) (xs ys : List (ℕ × Frame)) → AreRead (unread ++ more) xs → AreRead unread ys → frames_of xs ≡ frames_of ys → xs ≡ ys
same_places [] more [] [] a b same = refl
same_places [] more (x ∷ xs) [] a b same = cc same
same_places [] more xs (y ∷ ys) a b same = absurd b
same_places (u ∷ unread) more xs [] a b same = absurd b
same_places (u ∷ unread) more [] (y ∷ ys) a b same = absurd a
same_places (u ∷ unread) more (x ∷ xs) (y ∷ ys) a b same =
    let first : x ≡ y = same_placed u x y a.0 b.0 (cc same) in
    let later : xs ≡ ys = same_places unread more xs ys a.1 b.1 (cc same) in
    cc (first, later)

-- each frame that a reader gave stands where the spelling of those before it ends
pub fed_in_places : (fed : List ℕ) (frames : List (ℕ × Frame)) (reader : FrameReader) → IsBytes fed → HasReadFrames fed frames reader → frames ≡ placed 0 (frames_of frames)
fed_in_places fed frames reader fits had =
    let read = fed_is_read fed frames reader had in
    let spelled = spelled_is_read fed (frames_of frames) (rest_of reader) fits (read_is_spelled fed frames reader fits had) in
    let items : read.unread ≡ spelled.unread ++ (frames_from (begins_at spelled.next, []) (rest_of reader)).items =
    ap (λ (r : Read). r.items) (sym read.read ∙ spelled.read) in
    same_places spelled.unread (frames_from (begins_at spelled.next, []) (rest_of reader)).items frames (placed 0 (frames_of frames))
    (subst (λ (l : List UnreadFrame). AreRead l frames) items read.are) spelled.are (sym (frames_kept (frames_of frames) 0))
  where
    frames_kept : (frames : List Frame) (place : ℕ) → frames_of (placed place frames) ≡ frames
    frames_kept [] place = refl
    frames_kept (f ∷ frames) place = ap (λ (l : List Frame). f ∷ l) (frames_kept frames (further place (length (frame_text f))))

-- what is read of whole frames
record WholeRead (bytes : List ℕ) (frames : List Frame) : Type 0 where
  unread : List UnreadFrame
  are : AreRead unread (placed 0 frames)
  end : ℕ
  read : frames_from (first_unit, []) bytes ≡ record { items = unread; place = At (begins_at end) [] [] }

whole_read : (bytes : List ℕ) (frames : List Frame) → IsBytes bytes → Frames bytes frames [] → WholeRead bytes frames
whole_read bytes frames fits are =
    let r = spelled_is_read bytes frames [] fits are in
    record {
      unread = r.unread;
      are = r.are;
      end = r.next;
      read = r.read ∙ ap (λ (items : List UnreadFrame). let whole : Read = record { items = items; place = At (begins_at r.next) [] [] } in whole) (append-nil r.unread);
    }

-- where a reading stops that uses all bytes
abbrev stop_at : FrameUnits → List ℕ → Place FrameUnits FrameBreak
stop_at s held = At s held []

-- bytes that end between frames end inside none
at_none : (s : FrameUnits) (held : List ℕ) (end : ℕ) → stop_at s held ≡ stop_at (begins_at end) [] → begun_of s.next ++ held ≡ []
at_none s held end same =
    let unit : s ≡ begins_at end = cc same in
    let none : held ≡ [] = cc same in
    ap (λ (u : FrameUnits). begun_of u.next ++ held) unit ∙ none

pub never_inside : (bytes : List ℕ) (frames : List Frame) (place : ℕ) → IsBytes bytes → Frames bytes frames [] → EndInside bytes place → ⊥
never_inside bytes frames place fits are e =
    let whole = whole_read bytes frames fits are in
    e.inside.begun (at_none e.state.0 e.state.1 whole.end (ap (λ (r : Read). r.place) (sym e.read.read ∙ whole.read)))

-- what is read of a front stands in front of what is read of all
items_then : (r : Read) (go : FrameUnits → List ℕ → List ℕ → Read) → (more : List UnreadFrame) × ((then_on r go).items ≡ r.items ++ more)
items_then r go = by_place r.items r.place
  where
    by_place : (items : List UnreadFrame) (p : Place FrameUnits FrameBreak) → (more : List UnreadFrame) × ((then_on (record { items = items; place = p }) go).items ≡ items ++ more)
    by_place items (At t keeps rest) = ((go t keeps rest).items, refl)
    by_place items (Broken broken) = ([], sym (append-nil items))

-- what stands among what is read is read
read_at : (front : List UnreadFrame) (u : UnreadFrame) (more : List UnreadFrame) (xs : List (ℕ × Frame)) → AreRead ((front ++ u ∷ []) ++ more) xs → (x : ℕ × Frame) × IsReadAs u x
read_at [] u more [] are = absurd are
read_at [] u more (x ∷ xs) are = (x, are.0)
read_at (f ∷ front) u more [] are = absurd are
read_at (f ∷ front) u more (x ∷ xs) are = read_at front u more xs are.1

-- a frame that is read has a body
has_body : (u : UnreadFrame) (x : ℕ × Frame) → IsReadAs u x → HasNoBody u → ⊥
has_body u x is none = none x.1.body (record { is = is.body; kind = kind ∙ ap stream_kind is.stream; text = is.payload })
  where
    kind : kind_of x.1.body ≡ stream_kind (stream_of x.1)
    kind = let small = kind_small x.1.body in let side = is.side in omega arith

module _ (bytes rest : List ℕ) (frames : List Frame) (fits : IsBytes (bytes ++ rest)) (are : Frames (bytes ++ rest) frames []) where
  whole : WholeRead (bytes ++ rest) frames
  whole = whole_read (bytes ++ rest) frames fits are

  abbrev go : FrameUnits → List ℕ → List ℕ → Read
  go t keeps left = frames_from (t, keeps) (left ++ rest)

  on : frames_from (first_unit, []) (bytes ++ rest) ≡ then_on (frames_from (first_unit, []) bytes) go
  on = in_pieces never judge first_unit [] bytes rest

  outside : (xs : List (ℕ × Frame)) (broken : FrameBreak) → BreaksOutside (frames_from (first_unit, []) bytes) xs broken → ⊥
  outside xs broken b =
      let at : stop_at (begins_at whole.end) [] ≡ Broken broken =
      ap (λ (r : Read). r.place) (sym whole.read ∙ on ∙ ap (λ (r : Read). then_on r go) b.whole) in
      absurd (cc at)

  inside : (xs : List (ℕ × Frame)) (place : ℕ) → BreaksInside (frames_from (first_unit, []) bytes) xs place → ⊥
  inside xs place b =
      let r : Read = behind (b.unread ++ b.broken ∷ []) b.more in
      let then = items_then r go in
      let items : whole.unread ≡ (b.unread ++ b.broken ∷ []) ++ (b.more.items ++ then.0) =
      ap (λ (r : Read). r.items) (sym whole.read ∙ on ∙ ap (λ (r : Read). then_on r go) b.whole) ∙ then.1
      ∙ append_assoc (b.unread ++ b.broken ∷ []) b.more.items then.0 in
      let found = read_at b.unread b.broken (b.more.items ++ then.0) (placed 0 frames) (subst (λ (l : List UnreadFrame). AreRead l (placed 0 frames)) items whole.are) in
      has_body b.broken found.0 found.1 b.none

  -- no front of whole frames breaks
  pub never_broken : (place : ℕ) → BreakAt bytes place → ⊥
  never_broken place b = by_fault b.fault b.breaks (b.here)
    where
      by_fault : (e : FrameFault) → BreaksBehind (frames_from (first_unit, []) bytes) b.frames e → place_of e ≡ Some place → ⊥
      by_fault (fault.BadBody p) breaks here = inside b.frames p breaks
      by_fault (fault.BadMagic p) breaks here = outside b.frames _ breaks
      by_fault (fault.LongVarint p) breaks here = outside b.frames _ breaks
      by_fault (fault.TooLong p) breaks here = outside b.frames _ breaks
      by_fault (fault.BadKind p) breaks here = outside b.frames _ breaks
      by_fault fault.NoMemory breaks here = absurd (cc here)
