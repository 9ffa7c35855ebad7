-- Lines in front of bytes, which can be read in one way only.
use Rattle.std.proofs.Common.{◌≡◌, ◌≢◌, ℕ, true, List, ◌∷◌, ◌++◌, get_or, refl, sym, ap, ◌∙◌, arith, append_assoc}
use Rattle.std.specs.Prelude.{codes}
use Rattle.std.proofs.lemmas.List.Elements.{All-weaker}
use Rattle.hex.specs.Hex.{IsBytes, encode_lower, is_hex_digit}
use Rattle.hex.proofs.HexLemmas.{decode_of-encode_lower, decode_of-ok, decode_of-same}
use Rattle.rad_base.specs.declared.names.Nid.{Nid}
use Rattle.rad_base.specs.declared.names.Sig.{Sig}
use Rattle.rad_base.specs.Sizes.{IsNid, IsSig, Lacks}
use Rattle.rad_base.proofs.OneFront.{one_behind, one_front, one_nid_text, one_sig_text, one_text, one_until, not_lacking}
use Rattle.keyring.specs.declared.accept.Accept.{Accept}
use Rattle.keyring.specs.Lines.{BeginsWithLine, IsMessage, IsText, KeyringLine, accepted, keyring_line_text, named, owned}
use Rattle.keyring.proofs.AcceptOrder.{same_accept}

-- ---- parts of a line, one behind the other

-- a name's word, text, space, key and line feed
pub name_parts : (text : List ℕ) (key : Nid) (rest : List ℕ)
    → keyring_line_text (named text key) ++ 10 ∷ rest ≡ codes "name " ++ (text ++ 32 ∷ (encode_lower key.0 ++ 10 ∷ rest))
name_parts text key rest = simp append_assoc

-- a signature's word, key, digest and signature, and the line feed
pub accept_parts : (accept : Accept) (rest : List ℕ)
    → keyring_line_text (accepted accept) ++ 10 ∷ rest
    ≡ codes "accept " ++ (encode_lower accept.key.0 ++ 32 ∷ (encode_lower accept.digest.0 ++ 32 ∷ (encode_lower accept.sig.0 ++ 10 ∷ rest)))
accept_parts accept rest = simp append_assoc

-- an own message's word, digits and line feed
pub own_parts : (message rest : List ℕ) → keyring_line_text (owned message) ++ 10 ∷ rest ≡ codes "own " ++ (encode_lower message ++ 10 ∷ rest)
own_parts message rest = simp append_assoc

-- what stands behind one word is one
pub behind : (word a b : List ℕ) → word ++ a ≡ word ++ b → a ≡ b
behind word a b e = (one_front word word a b refl e).1

-- bytes that lack a byte are no two parts around it
pub no_stop : (stop : ℕ) (bytes : List ℕ) → Lacks stop bytes → (front rest : List ℕ) → bytes ≡ front ++ stop ∷ rest → ⊥
no_stop stop bytes lacks front rest e = let split : Lacks stop (front ++ stop ∷ rest) = rw (sym e) lacks in not_lacking stop front rest split

-- ---- names

text_lacks_space : (text : List ℕ) → IsText text → Lacks 32 text
text_lacks_space text is = λ k d inside e. let low = (is.printed k d inside).0 in omega (arith, low, e)

-- a text in front of a space is one
pub one_text_front : (text other a b : List ℕ) → IsText text → IsText other → text ++ 32 ∷ a ≡ other ++ 32 ∷ b → (text ≡ other) × (a ≡ b)
one_text_front text other a b it io e = one_until 32 text other a b (text_lacks_space text it) (text_lacks_space other io) e

-- no text stands in front of a space where what does is no text
pub no_text : (bytes found behind_text : List ℕ) → Lacks 32 found → bytes ≡ found ++ 32 ∷ behind_text → (IsText found → ⊥)
    → (text rest : List ℕ) → IsText text → bytes ≡ text ++ 32 ∷ rest → ⊥
no_text bytes found behind_text lacks f none text rest is e =
    let same = (one_until 32 text found _ _ (text_lacks_space text is) lacks (sym e ∙ f)).0 in none (rw (sym same) is)

-- no key stands in front of a space where a key stands in front of something else
pub no_word : (bytes : List ℕ) (found : Nid) (behind_key : List ℕ) → IsNid found → bytes ≡ encode_lower found.0 ++ behind_key
    → ((rest : List ℕ) → behind_key ≡ 32 ∷ rest → ⊥) → (nid : Nid) (rest : List ℕ) → IsNid nid → bytes ≡ encode_lower nid.0 ++ 32 ∷ rest → ⊥
no_word bytes found behind_key is f none nid rest isn e = none rest (one_nid_text found nid _ _ is isn (sym f ∙ e)).1

-- what stands behind the word of a name
name_behind : (bytes more text : List ℕ) (key : Nid) (rest : List ℕ) → bytes ≡ codes "name " ++ more → BeginsWithLine (named text key) rest bytes
    → more ≡ text ++ 32 ∷ (encode_lower key.0 ++ 10 ∷ rest)
name_behind bytes more text key rest e b = behind (codes "name ") _ _ (sym e ∙ b.text ∙ name_parts text key rest)

-- the words, where a text was read, and how a line would go on behind it
name_key : (bytes more found behind_text text : List ℕ) (key : Nid) (rest : List ℕ) → bytes ≡ codes "name " ++ more
    → IsText found → more ≡ found ++ 32 ∷ behind_text → BeginsWithLine (named text key) rest bytes → behind_text ≡ encode_lower key.0 ++ 10 ∷ rest
name_key bytes more found behind_text text key rest e is f b =
    (one_text_front found text _ _ is b.good.0 (sym f ∙ name_behind bytes more text key rest e b)).1

-- no name is in front where no key follows the text
pub no_name_key : (bytes more found behind_text : List ℕ) → bytes ≡ codes "name " ++ more
    → IsText found → more ≡ found ++ 32 ∷ behind_text
    → ((nid : Nid) (rest : List ℕ) → IsNid nid → behind_text ≡ encode_lower nid.0 ++ rest → ⊥)
    → (text : List ℕ) (key : Nid) (rest : List ℕ) → BeginsWithLine (named text key) rest bytes → ⊥
no_name_key bytes more found behind_text e is f none text key rest b =
    none key _ b.good.1 (name_key bytes more found behind_text text key rest e is f b)

-- nor where no line feed follows the key
pub no_name_end : (bytes more found behind_text : List ℕ) (nid : Nid) (behind_key : List ℕ) → bytes ≡ codes "name " ++ more
    → IsText found → more ≡ found ++ 32 ∷ behind_text → IsNid nid → behind_text ≡ encode_lower nid.0 ++ behind_key
    → ((rest : List ℕ) → behind_key ≡ 10 ∷ rest → ⊥)
    → (text : List ℕ) (key : Nid) (rest : List ℕ) → BeginsWithLine (named text key) rest bytes → ⊥
no_name_end bytes more found behind_text nid behind_key e is f isn g none text key rest b =
    none rest (one_nid_text nid key _ _ isn b.good.1 (sym g ∙ name_key bytes more found behind_text text key rest e is f b)).1

-- ---- signatures

accept_behind : (bytes more : List ℕ) (accept : Accept) (rest : List ℕ) → bytes ≡ codes "accept " ++ more → BeginsWithLine (accepted accept) rest bytes
    → more ≡ encode_lower accept.key.0 ++ 32 ∷ (encode_lower accept.digest.0 ++ 32 ∷ (encode_lower accept.sig.0 ++ 10 ∷ rest))
accept_behind bytes more accept rest e b = behind (codes "accept ") _ _ (sym e ∙ b.text ∙ accept_parts accept rest)

-- the parts up to the key that were read, and what stands behind them
pub record ReadKey (bytes behind_key : List ℕ) : Type 0 where
  pub more : List ℕ
  pub word : bytes ≡ codes "accept " ++ more
  pub key : Nid
  pub is_key : IsNid key
  pub split : more ≡ encode_lower key.0 ++ 32 ∷ behind_key

accept_digest : (bytes behind_key : List ℕ) → ReadKey bytes behind_key → (accept : Accept) (rest : List ℕ) → BeginsWithLine (accepted accept) rest bytes
    → behind_key ≡ encode_lower accept.digest.0 ++ 32 ∷ (encode_lower accept.sig.0 ++ 10 ∷ rest)
accept_digest bytes behind_key r accept rest b =
    one_behind 32 _ _ (one_nid_text r.key accept.key _ _ r.is_key b.good.key (sym r.split ∙ accept_behind bytes r.more accept rest r.word b)).1

-- no signature is in front where no digest follows the key
pub no_accept_digest : (bytes behind_key : List ℕ) → ReadKey bytes behind_key
    → ((nid : Nid) (rest : List ℕ) → IsNid nid → behind_key ≡ encode_lower nid.0 ++ 32 ∷ rest → ⊥)
    → (accept : Accept) (rest : List ℕ) → BeginsWithLine (accepted accept) rest bytes → ⊥
no_accept_digest bytes behind_key r none accept rest b =
    none (record { 0 = accept.digest.0 }) _ b.good.digest (accept_digest bytes behind_key r accept rest b)

-- the parts up to the digest
pub record ReadDigest (bytes behind_digest : List ℕ) : Type 0 where
  pub behind_key : List ℕ
  pub before : ReadKey bytes behind_key
  pub digest : Nid
  pub is_digest : IsNid digest
  pub split : behind_key ≡ encode_lower digest.0 ++ 32 ∷ behind_digest

accept_sig : (bytes behind_digest : List ℕ) → ReadDigest bytes behind_digest → (accept : Accept) (rest : List ℕ)
    → BeginsWithLine (accepted accept) rest bytes → behind_digest ≡ encode_lower accept.sig.0 ++ 10 ∷ rest
accept_sig bytes behind_digest r accept rest b =
    one_behind 32 _ _ (one_text 32 r.digest.0 accept.digest.0 _ _ r.is_digest b.good.digest
    (sym r.split ∙ accept_digest bytes r.behind_key r.before accept rest b)).1

-- nor where no signature follows the digest
pub no_accept_sig : (bytes behind_digest : List ℕ) → ReadDigest bytes behind_digest
    → ((sig : Sig) (rest : List ℕ) → IsSig sig → behind_digest ≡ encode_lower sig.0 ++ rest → ⊥)
    → (accept : Accept) (rest : List ℕ) → BeginsWithLine (accepted accept) rest bytes → ⊥
no_accept_sig bytes behind_digest r none accept rest b = none accept.sig _ b.good.sig (accept_sig bytes behind_digest r accept rest b)

-- nor where no line feed follows the signature
pub no_accept_end : (bytes behind_digest : List ℕ) (sig : Sig) (behind_sig : List ℕ) → ReadDigest bytes behind_digest
    → IsSig sig → behind_digest ≡ encode_lower sig.0 ++ behind_sig → ((rest : List ℕ) → behind_sig ≡ 10 ∷ rest → ⊥)
    → (accept : Accept) (rest : List ℕ) → BeginsWithLine (accepted accept) rest bytes → ⊥
no_accept_end bytes behind_digest sig behind_sig r is f none accept rest b =
    none rest (one_sig_text sig accept.sig _ _ is b.good.sig (sym f ∙ accept_sig bytes behind_digest r accept rest b)).1

-- ---- own messages

digit_no_feed : (c : ℕ) → is_hex_digit c ≡ true → c ≡ 10 → ⊥
digit_no_feed c h e = let bad : is_hex_digit 10 ≡ true = rw e at h in cc bad

-- digits have no line feed
pub digits_lack_feed : (message : List ℕ) → IsBytes message → Lacks 10 (encode_lower message)
digits_lack_feed message fits =
    let read = decode_of-ok (encode_lower message) message (decode_of-encode_lower message fits) in
    All-weaker (λ c. is_hex_digit c ≡ true) (λ c. c ≢ 10) digit_no_feed (encode_lower message) read.1

own_behind : (bytes more message rest : List ℕ) → bytes ≡ codes "own " ++ more → BeginsWithLine (owned message) rest bytes
    → more ≡ encode_lower message ++ 10 ∷ rest
own_behind bytes more message rest e b = behind (codes "own ") _ _ (sym e ∙ b.text ∙ own_parts message rest)

-- no own message is in front where no line ends
pub no_own_end : (bytes more : List ℕ) → bytes ≡ codes "own " ++ more → Lacks 10 more
    → (message rest : List ℕ) → BeginsWithLine (owned message) rest bytes → ⊥
no_own_end bytes more e lacks message rest b = no_stop 10 more lacks _ _ (own_behind bytes more message rest e b)

-- nor where the line spells no message
pub no_own_message : (bytes more digits after_feed : List ℕ) → bytes ≡ codes "own " ++ more → Lacks 10 digits → more ≡ digits ++ 10 ∷ after_feed
    → ((message : List ℕ) → IsMessage message → digits ≡ encode_lower message → ⊥)
    → (message rest : List ℕ) → BeginsWithLine (owned message) rest bytes → ⊥
no_own_message bytes more digits after_feed e lacks f none message rest b =
    none message b.good
    (one_until 10 digits (encode_lower message) _ _ lacks (digits_lack_feed message b.good.fits) (sym f ∙ own_behind bytes more message rest e b)).0

-- ---- one line in front

abbrev IsOne : KeyringLine → KeyringLine → List ℕ → List ℕ → Type 0
IsOne line other rest more = (line ≡ other) × (rest ≡ more)

one_name : (text other : List ℕ) (key nid : Nid) (rest more bytes : List ℕ) → BeginsWithLine (named text key) rest bytes
    → BeginsWithLine (named other nid) more bytes → IsOne (named text key) (named other nid) rest more
one_name text other key nid rest more bytes b d =
    let texts = one_text_front text other _ _ b.good.0 d.good.0
    (sym (name_behind bytes _ text key rest (b.text ∙ name_parts text key rest) b) ∙ name_behind bytes _ other nid more (b.text ∙ name_parts text key rest) d) in
    let keys = one_nid_text key nid _ _ b.good.1 d.good.1 texts.1 in
    let same_text = texts.0 in
    let same_key = keys.0 in
    (cc, one_behind 10 rest more keys.1)

one_accept : (a c : Accept) (rest more bytes : List ℕ) → BeginsWithLine (accepted a) rest bytes → BeginsWithLine (accepted c) more bytes
    → IsOne (accepted a) (accepted c) rest more
one_accept a c rest more bytes b d =
    let keys = one_text 32 a.key.0 c.key.0 _ _ b.good.key d.good.key
    (sym (accept_behind bytes _ a rest (b.text ∙ accept_parts a rest) b) ∙ accept_behind bytes _ c more (b.text ∙ accept_parts a rest) d) in
    let digests = one_text 32 a.digest.0 c.digest.0 _ _ b.good.digest d.good.digest (one_behind 32 _ _ keys.1) in
    let sigs = one_text 64 a.sig.0 c.sig.0 _ _ b.good.sig d.good.sig (one_behind 32 _ _ digests.1) in
    (ap accepted (same_accept a c keys.0 digests.0 sigs.0), one_behind 10 rest more sigs.1)

one_own : (message other rest more bytes : List ℕ) → BeginsWithLine (owned message) rest bytes → BeginsWithLine (owned other) more bytes
    → IsOne (owned message) (owned other) rest more
one_own message other rest more bytes b d =
    let parts = one_until 10 (encode_lower message) (encode_lower other) rest more (digits_lack_feed message b.good.fits) (digits_lack_feed other d.good.fits)
    (sym (own_behind bytes _ message rest (b.text ∙ own_parts message rest) b) ∙ own_behind bytes _ other more (b.text ∙ own_parts message rest) d) in
    let same : message ≡ other = decode_of-same (encode_lower message) message other (decode_of-encode_lower message b.good.fits)
    (rw parts.0 (decode_of-encode_lower other d.good.fits)) in
    (ap owned same, parts.1)

-- two lines in front of the same bytes are one
pub one_line : (line other : KeyringLine) (rest more bytes : List ℕ) → BeginsWithLine line rest bytes → BeginsWithLine other more bytes → IsOne line other rest more
one_line (named text key) (named other nid) rest more bytes b d = one_name text other key nid rest more bytes b d
one_line (named text key) (accepted c) rest more bytes b d = absurd (omega (arith, ap (λ (l : List ℕ). get_or l 0 0) (sym b.text ∙ d.text)))
one_line (named text key) (owned other) rest more bytes b d = absurd (omega (arith, ap (λ (l : List ℕ). get_or l 0 0) (sym b.text ∙ d.text)))
one_line (accepted a) (named other nid) rest more bytes b d = absurd (omega (arith, ap (λ (l : List ℕ). get_or l 0 0) (sym b.text ∙ d.text)))
one_line (accepted a) (accepted c) rest more bytes b d = one_accept a c rest more bytes b d
one_line (accepted a) (owned other) rest more bytes b d = absurd (omega (arith, ap (λ (l : List ℕ). get_or l 0 0) (sym b.text ∙ d.text)))
one_line (owned message) (named other nid) rest more bytes b d = absurd (omega (arith, ap (λ (l : List ℕ). get_or l 0 0) (sym b.text ∙ d.text)))
one_line (owned message) (accepted c) rest more bytes b d = absurd (omega (arith, ap (λ (l : List ℕ). get_or l 0 0) (sym b.text ∙ d.text)))
one_line (owned message) (owned other) rest more bytes b d = one_own message other rest more bytes b d
