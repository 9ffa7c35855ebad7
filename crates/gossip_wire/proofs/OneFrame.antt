-- Bytes begin with at most one frame.
use Rattle.std.proofs.Common.{◌≡◌, ℕ, ◌+◌, ◌*◌, ◌<◌, ◌≤◌, ◌^◌, List, ◌++◌, length, drop, sym, ap, ◌∙◌, arith, append_assoc}
use Rattle.rad_base.specs.Varint.{varint}
use Rattle.rad_base.proofs.OneFront.{one_front}
use Rattle.rad_base.proofs.Texts.{OneInFront, all_one}
use Rattle.rad_base.proofs.Varints.{one_varint}
use Rattle.gossip_wire.specs.Frames.{Frames, IsBody, IsFrame, frame_text, kind_of, payload_of, stream_of, stream_text}
use Rattle.gossip_wire.specs.declared.frame.Body.{Body}
use Rattle.gossip_wire.specs.declared.frame.Body.TheVariants.{Control, Gossip, Git}
use Rattle.gossip_wire.specs.declared.frame.Frame.{Frame}
use Rattle.gossip_wire.proofs.OneMessage.{read_back}

-- the stream is one, the payload is one, and so is what stands behind them
pub record IsOneStream (m n : ℕ) (x y a b : List ℕ) : Type 0 where
  pub stream : m ≡ n
  pub payload : x ≡ y
  pub behind : a ≡ b

pub one_stream : (m n : ℕ) (x y a b : List ℕ) → m < 2 ^ 62 → n < 2 ^ 62 → length x ≤ 65535 → length y ≤ 65535 → stream_text m x ++ a ≡ stream_text n y ++ b
    → IsOneStream m n x y a b
one_stream m n x y a b hm hn hx hy e =
    let streams = one_varint m n ((varint (length x) ++ x) ++ a) ((varint (length y) ++ y) ++ b) hm hn
    (sym (append_assoc (varint m) (varint (length x) ++ x) a) ∙ e ∙ append_assoc (varint n) (varint (length y) ++ y) b) in
    let lengths = one_varint (length x) (length y) (x ++ a) (y ++ b) (omega (arith, hx)) (omega (arith, hy))
    (sym (append_assoc (varint (length x)) x a) ∙ streams.1 ∙ append_assoc (varint (length y)) y b) in
    let payloads = one_front x y a b lengths.0 lengths.1 in
    record { stream = streams.0; payload = payloads.0; behind = payloads.1 }

-- bodies of one kind with the same bytes are one
pub one_payload : (x y : Body) → IsBody x → IsBody y → kind_of x ≡ kind_of y → payload_of x ≡ payload_of y → x ≡ y
one_payload (Control x) (Control y) h k e f = ap Control f
one_payload (Gossip m) (Gossip n) h k e f = ap Gossip (sym (read_back m n h (record { fits = k; text = f })))
one_payload (Git x) (Git y) h k e f = ap Git f
one_payload x y h k e f = absurd (omega (arith, e))

-- a kind is 0, 1 or 2
pub kind_small : (x : Body) → kind_of x < 3
kind_small (Control x) = omega arith
kind_small (Gossip m) = omega arith
kind_small (Git x) = omega arith

-- the parts of a stream's number
pub record IsOneNumber (m n k l s t : ℕ) : Type 0 where
  pub number : m ≡ n
  pub kind : k ≡ l
  pub side : s ≡ t

one_number : (m n k l s t : ℕ) → k < 3 → l < 3 → s < 2 → t < 2 → m * 8 + (k * 2 + s) ≡ n * 8 + (l * 2 + t) → IsOneNumber m n k l s t
one_number m n k l s t hk hl hs ht e =
    let number : m ≡ n = omega arith in
    let kind : k ≡ l = omega arith in
    record { number = number; kind = kind; side = omega arith }

pub one_frame : OneInFront IsFrame frame_text
one_frame f g a b hf hg e =
    let streams = one_stream (stream_of f) (stream_of g) (payload_of f.body) (payload_of g.body) a b hf.stream hg.stream hf.short hg.short
    (ap (λ (l : List ℕ). drop 4 l) e) in
    let numbers = one_number f.number g.number (kind_of f.body) (kind_of g.body) f.side g.side (kind_small f.body) (kind_small g.body) hf.side hg.side streams.stream in
    let body = one_payload f.body g.body hf.body hg.body numbers.kind streams.payload in
    ((λ i. record { number = numbers.number i; side = numbers.side i; body = body i }), streams.behind)

-- the frames of some bytes, as many as there are of both, are one list
pub one_list : (bytes : List ℕ) (xs ys : List Frame) (a b : List ℕ) → Frames bytes xs a → Frames bytes ys b → length xs ≡ length ys → (xs ≡ ys) × (a ≡ b)
one_list bytes xs ys a b h k n = all_one IsFrame frame_text one_frame xs ys a b n h.each k.each (sym h.text ∙ k.text)
