-- Digits, and the messages that they spell.
use Rattle.std.proofs.Common.{◌≡◌, ℕ, ◌*◌, List, length, Ok, refl, ◌∙◌, arith}
use Rattle.hex.specs.Hex.{decode_of, decode_sized, encode_lower}
use Rattle.hex.proofs.HexLemmas.{decode_of-ok, decode_sized-twice}
use Rattle.rad_base.proofs.HexText.{hex_spelled, is_hex_text}
use Rattle.keyring.specs.Lines.{IsMessage}
use Rattle.keyring.specs.Readers.{IsSpelling}

-- decoded digits of a message are its spelling
pub record Decoded (digits message : List ℕ) : Type 0 where
  pub is : IsMessage message
  pub text : digits ≡ encode_lower message

-- what digits decode to is the message that they spell
pub decoded : (digits message : List ℕ) → IsSpelling digits → decode_of digits ≡ Ok message → Decoded digits message
decoded digits message s e =
    let read = decode_of-ok digits message e in
    let size : length digits ≡ 2 * length message = read.2 in
    let sized : decode_sized digits (length message) ≡ Ok message = decode_sized-twice digits (length message) size ∙ e in
    record {
      is = record { some = omega (arith, s.some, size); short = omega (arith, s.short, size); fits = read.3 };
      text = (hex_spelled digits (length message) (Ok tt) message s.lower (rw sized (refl, refl)) refl).1;
    }

-- the text of a message is a spelling
pub spelling : (digits message : List ℕ) → IsMessage message → digits ≡ encode_lower message → IsSpelling digits
spelling digits message is e =
    let text = is_hex_text (length message) message (record { size = refl; fits = is.fits }) in
    rw e (record {
      some = omega (arith, text.size, is.some);
      short = omega (arith, text.size, is.short);
      even = omega (arith, text.size);
      lower = text.digits;
    })
