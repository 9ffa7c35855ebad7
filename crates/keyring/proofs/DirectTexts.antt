-- Texts that spell a key by themselves.
use Rattle.std.proofs.Common.{◌≡◌, ℕ, ◌*◌, cond, List, [], ◌++◌, length, drop, Option, Some, None, Result, Ok, Err, refl, sym, ap, ◌∙◌, arith}
use Rattle.std.specs.Prelude.{codes}
use Rattle.std.specs.Str.{bytes_eq}
use Rattle.std.proofs.lemmas.List.{append-nil}
use Rattle.std.proofs.lemmas.Option.{cond_some}
use Rattle.std.proofs.lemmas.Slice.Eq.{bytes_eq-Decides}
use Rattle.hex.specs.Hex.{decode_sized, encode_lower}
use Rattle.hex.specs.declared.error.FromHexError.{FromHexError}
use Rattle.hex.proofs.HexLemmas.{decode_of-ok, decode_sized-encode_lower, decode_sized-ok, decode_sized-twice}
use Rattle.rad_base.specs.declared.names.Nid.{Nid}
use Rattle.rad_base.specs.Sizes.{HasBytes, IsNid}
use Rattle.rad_base.proofs.OneFront.{one_nid_text}
use Rattle.keyring.specs.Texts.{direct_key, direct_text, key_if_spelled}

-- the text of a key spells it
pub direct_is : (key : Nid) → IsNid key → direct_key (direct_text key) ≡ Some key
direct_is key is =
    ap (key_if_spelled (direct_text key)) (decode_sized-encode_lower key.0 32 is.size is.fits)
    ∙ ap (λ b. cond b (Some key) None) ((bytes_eq-Decides (direct_text key) (direct_text key)).1 refl)

-- a key, and its text
pub record Spells (text : List ℕ) (key : Nid) : Type 0 where
  pub is : IsNid key
  pub same : text ≡ direct_text key

decoded_is : (digits bytes : List ℕ) → decode_sized digits 32 ≡ Ok bytes → HasBytes 32 bytes
decoded_is digits bytes e =
    let size : length digits ≡ 2 * 32 = decode_sized-ok digits 32 bytes e in
    let read = decode_of-ok digits bytes (sym (decode_sized-twice digits 32 size) ∙ e) in
    let twice : length digits ≡ 2 * length bytes = read.2 in
    record { size = omega arith; fits = read.3 }

spelled : (text : List ℕ) (r : Result (List ℕ) FromHexError) (key : Nid) → decode_sized (drop 13 text) 32 ≡ r → key_if_spelled text r ≡ Some key → Spells text key
spelled text (Ok bytes) key e h =
    let parts = cond_some (bytes_eq text (direct_text (record { 0 = bytes }))) (record { 0 = bytes }) key h in
    let same : text ≡ direct_text (record { 0 = bytes }) = (bytes_eq-Decides text (direct_text (record { 0 = bytes }))).0 parts.0 in
    let whole = decoded_is (drop 13 text) bytes e in
    record {
      is = record { size = sym (ap (λ (k : Nid). length k.0) parts.1) ∙ whole.size; fits = rw (sym parts.1) whole.fits };
      same = same ∙ ap direct_text parts.1;
    }
spelled text (Err fault) key e h = cc h

-- what a text spells by itself has that text
pub direct_only : (text : List ℕ) (key : Nid) → direct_key text ≡ Some key → Spells text key
direct_only text key h = spelled text (decode_sized (drop 13 text) 32) key refl h

none_if_no_some : {X : Type 0} (o : Option X) → ((x : X) → o ≡ Some x → ⊥) → o ≡ None
none_if_no_some None h = refl
none_if_no_some (Some x) h = absurd (h x refl)

-- a text that is the text of no key spells none
pub no_direct : (text : List ℕ) → ((key : Nid) → IsNid key → text ≡ direct_text key → ⊥) → direct_key text ≡ None
no_direct text none = none_if_no_some (direct_key text) (λ key h. let s = direct_only text key h in none key s.is s.same)

-- a text without the word spells no key
pub no_word_in_front : (text : List ℕ) → ((rest : List ℕ) → text ≡ codes "did:key:fed01" ++ rest → ⊥) → direct_key text ≡ None
no_word_in_front text none = no_direct text (λ key is e. none (encode_lower key.0) e)

digits_are : (text digits : List ℕ) (key : Nid) → text ≡ codes "did:key:fed01" ++ digits → text ≡ direct_text key → digits ≡ encode_lower key.0
digits_are text digits key e f = ap (λ (l : List ℕ). drop 13 l) (sym e ∙ f)

-- nor does one without a key's digits behind the word
pub no_key_behind : (text digits : List ℕ) → text ≡ codes "did:key:fed01" ++ digits
    → ((nid : Nid) (rest : List ℕ) → IsNid nid → digits ≡ encode_lower nid.0 ++ rest → ⊥) → direct_key text ≡ None
no_key_behind text digits e none = no_direct text (λ key is f. none key [] is (digits_are text digits key e f ∙ sym (append-nil (encode_lower key.0))))

-- nor does one with more behind the digits
pub more_behind : (text digits : List ℕ) (nid : Nid) (rest : List ℕ) → text ≡ codes "did:key:fed01" ++ digits → IsNid nid
    → digits ≡ encode_lower nid.0 ++ rest → (rest ≡ [] → ⊥) → direct_key text ≡ None
more_behind text digits nid rest e isn f more = no_direct text (λ key is g.
    more (one_nid_text nid key rest [] isn is (sym f ∙ digits_are text digits key e g ∙ sym (append-nil (encode_lower key.0)))).1)

-- the word and a key's digits alone spell the key
pub key_behind : (text digits : List ℕ) (key : Nid) (rest : List ℕ) → text ≡ codes "did:key:fed01" ++ digits → IsNid key
    → digits ≡ encode_lower key.0 ++ rest → rest ≡ [] → direct_key text ≡ Some key
key_behind text digits key rest e is f g =
    ap direct_key (e ∙ ap (λ (l : List ℕ). codes "did:key:fed01" ++ l) (f ∙ ap (λ (l : List ℕ). encode_lower key.0 ++ l) g ∙ append-nil (encode_lower key.0)))
    ∙ direct_is key is
