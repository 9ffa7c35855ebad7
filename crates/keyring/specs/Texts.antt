-- Texts that spell a key by themselves.
use Rattle.std.specs.Prelude.{ℕ, List, ◌++◌, codes, if◌then◌else◌, Option, Some, None, Result, Ok, Err, drop}
use Rattle.std.specs.Str.{bytes_eq}
use Rattle.hex.specs.Hex.{decode_sized, encode_lower}
use Rattle.hex.specs.declared.error.FromHexError.{FromHexError}
use Rattle.rad_base.specs.declared.names.Nid.{Nid}

-- the text that spells a key by itself: a word, and the key's 64 digits
abbrev pub direct_text : Nid → List ℕ
direct_text key = codes "did:key:fed01" ++ encode_lower key.0

-- the key of decoded digits, where this is the text that spells it
abbrev pub key_if_spelled : List ℕ → Result (List ℕ) FromHexError → Option Nid
key_if_spelled text (Ok bytes) =
    if bytes_eq text (direct_text (record { 0 = bytes })) then Some (record { 0 = bytes }) else None
key_if_spelled text (Err fault) = None

-- the key that a text spells by itself, if it does
abbrev pub direct_key : List ℕ → Option Nid
direct_key text = key_if_spelled text (decode_sized (drop 13 text) 32)
