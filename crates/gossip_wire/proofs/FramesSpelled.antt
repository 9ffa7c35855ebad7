-- What a reader of frames gave, as the bytes that spell it.
use Rattle.std.proofs.Common.{◌≡◌, ℕ, zero, suc, List, [], ◌∷◌, ◌++◌, refl, sym, ap, subst, ◌∙◌, arith, append-nil}
use Rattle.std.specs.Prelude.{Option, None, Some, IfSome}
use Rattle.std.specs.List.{AllByRecursion, flat_map}
use Rattle.hex.specs.Hex.{IsBytes}
use Rattle.unit_reader.specs.Units.{Place, At, Reading, only, reading}
use Rattle.unit_reader.specs.Spelling.{BringsOn, Spells}
use Rattle.unit_reader.proofs.Led.{Leads, led}
use Rattle.unit_reader.proofs.Spelled.{spelled}
use Rattle.gossip_wire.specs.Frames.{Frames, IsFrame, frame_text, magic, payload_of, stream_text}
use Rattle.gossip_wire.specs.FramesSpelled.{frames_of, rest_of}
use Rattle.gossip_wire.specs.FrameReaders.{AreRead, HasReadFrames, IsReadAs, frames_from, state_of}
use Rattle.gossip_wire.specs.Judging.{first_unit, judge, never}
use Rattle.gossip_wire.specs.declared.frame.Frame.{Frame}
use Rattle.gossip_wire.specs.declared.frame_reader.FrameReader.{FrameReader}
use Rattle.gossip_wire.specs.declared.units.FrameBreak.{FrameBreak}
use Rattle.gossip_wire.specs.declared.units.FrameUnits.{FrameUnits}
use Rattle.gossip_wire.specs.declared.units.UnreadFrame.{UnreadFrame}
use Rattle.gossip_wire.proofs.FrameTexts.{IsGood, IsUnread, begun_text, told, unread_text}

-- bytes in two parts are bytes in each
pub first_part : (a b : List ℕ) → IsBytes (a ++ b) → IsBytes a
first_part [] b fits i = omega arith
first_part (x ∷ a) b fits zero = fits 0
first_part (x ∷ a) b fits (suc i) = first_part a b (λ j. fits (suc j)) i

pub second_part : (a b : List ℕ) → IsBytes (a ++ b) → IsBytes b
second_part [] b fits = fits
second_part (x ∷ a) b fits = second_part a b (λ i. fits (suc i))

bytes_parts : (a b : List ℕ) → IsBytes (a ++ b) → IsBytes a × IsBytes b
bytes_parts a b fits = (first_part a b fits, second_part a b fits)

brings : BringsOn judge begun_text unread_text IsBytes IsGood
brings s t unit item good fits some fronts ends =
    let is = told s t unit item good fits fronts ends in
    (is.text, is.good)

-- what is read keeps its limits
abbrev pub Keeps : FrameUnits → List UnreadFrame → Place FrameUnits FrameBreak → Type 0
Keeps s items p = AllByRecursion IsUnread items

keeps_on : (item : Option UnreadFrame) (items : List UnreadFrame) → IfSome item IsUnread → AllByRecursion IsUnread items → AllByRecursion IsUnread (only item ++ items)
keeps_on None items one each = each
keeps_on (Some item) items one each = (one, each)

leads : Leads never judge Keeps IsBytes IsGood
leads = record {
  stops = λ s held rest good begun ends. tt;
  breaks = λ s fault good live. tt;
  on = λ s t unit item items p good fits some fronts ends later.
      let is = told s t unit item good fits fronts ends in
      (keeps_on item items is.within (later is.good), is.good);
}

-- a frame that was read is spelled by its stream and its payload
text_of : (unread : UnreadFrame) (placed : ℕ × Frame) → IsReadAs unread placed → frame_text placed.1 ≡ unread_text unread
text_of unread placed is =
    ap (λ (n : ℕ). magic ++ stream_text n (payload_of placed.1.body)) is.stream ∙ ap (λ (l : List ℕ). magic ++ stream_text unread.stream l) is.payload

texts_of : (unread : List UnreadFrame) (placed : List (ℕ × Frame)) → AreRead unread placed → flat_map frame_text (frames_of placed) ≡ flat_map unread_text unread
texts_of [] [] are = refl
texts_of [] (x ∷ placed) are = absurd are
texts_of (u ∷ unread) [] are = absurd are
texts_of (u ∷ unread) (x ∷ placed) are =
    ap (λ (l : List ℕ). l ++ flat_map frame_text (frames_of placed)) (text_of u x are.0) ∙ ap (λ (l : List ℕ). unread_text u ++ l) (texts_of unread placed are.1)

frames_fit : (unread : List UnreadFrame) (placed : List (ℕ × Frame)) → AllByRecursion IsUnread unread → AreRead unread placed → AllByRecursion IsFrame (frames_of placed)
frames_fit [] [] each are = tt
frames_fit [] (x ∷ placed) each are = absurd are
frames_fit (u ∷ unread) [] each are = absurd are
frames_fit (u ∷ unread) (x ∷ placed) each are = (
  record {
    side = are.0.side;
    stream = rw are.0.stream each.0.small;
    body = are.0.body;
    short = rw are.0.payload each.0.short;
  },
  frames_fit unread placed each.1 are.1,
)

-- what a reader was fed is the frames that it gave, and what it was fed of the next
pub read_is_spelled : (fed : List ℕ) (frames : List (ℕ × Frame)) (reader : FrameReader) → IsBytes fed → HasReadFrames fed frames reader
    → Frames fed (frames_of frames) (rest_of reader)
read_is_spelled fed frames reader fits had =
    let read : reading never judge first_unit [] fed ≡ record { items = had.unread; place = At (state_of reader).0 (state_of reader).1 [] } =
    ap (λ (l : List ℕ). frames_from (first_unit, []) l) (sym (append-nil fed)) ∙ had.read []
    ∙ ap (λ (items : List UnreadFrame). let r : Reading FrameUnits UnreadFrame FrameBreak = record { items = items; place = At (state_of reader).0 (state_of reader).1 [] } in r) (append-nil had.unread) in
    let spells = spelled never judge begun_text unread_text IsBytes IsGood bytes_parts brings first_unit [] fed tt fits (λ k some within. absurd (omega arith)) in
    let here = subst (λ (r : Reading FrameUnits UnreadFrame FrameBreak). Spells judge begun_text unread_text fed r) read spells in
    let keeps = led leads bytes_parts first_unit [] fed tt fits (λ k some within. absurd (omega arith)) in
    let each = subst (λ (r : Reading FrameUnits UnreadFrame FrameBreak). AllByRecursion IsUnread r.items) read keeps in
    record {
      each = frames_fit had.unread frames each had.are;
      text =
          here.0 ∙ ap (λ (l : List ℕ). flat_map unread_text had.unread ++ (begun_text (state_of reader).0 ++ l)) (append-nil (state_of reader).1)
          ∙ ap (λ (l : List ℕ). l ++ rest_of reader) (sym (texts_of had.unread frames had.are));
    }
