-- Lines of a word and a name: what is spelled so is read, and what is read is spelled so.
use Rattle.std.proofs.Common.{true, ◌≡◌, ℕ, ◌<◌, nat_eq, List, [], ◌∷◌, ◌++◌, length, get_or, take, drop, Option, Some, None, Result, Ok, Err, refl, sym, ap, ◌∙◌, arith, append_assoc, length-append}
use Rattle.std.specs.Prelude.{codes}
use Rattle.std.specs.Cmp.Lexicographic.{pointwise}
use Rattle.std.specs.List.{AllByRecursion}
use Rattle.std.proofs.lemmas.Bool.Decides.{Decides-eqb}
use Rattle.std.proofs.lemmas.Slice.Eq.{slice_eq-Decides}
use Rattle.std.proofs.lemmas.List.{append-nil, take-append-drop, take_at, drop_at}
use Rattle.rad_base.proofs.EachItem.{each_more}
use Rattle.hex.specs.Hex.{decode_sized, encode_lower, lower_digits}
use Rattle.hex.specs.declared.error.FromHexError.{FromHexError}
use Rattle.hex.proofs.HexLemmas.{decode_of-ok, decode_sized-encode_lower, decode_sized-ok, decode_sized-twice, length-encode_with}
use Rattle.rad_base.specs.Sizes.{HasBytes, IsOid}
use Rattle.rad_base.specs.declared.names.Oid.{Oid}
use Rattle.rad_base.specs.Lists.{BeginsWith}
use Rattle.git_object.specs.Grammar.{oid_line, parents_text}
use Rattle.git_object.specs.Places.{HasNoLine, StandsBehindParents}
use Rattle.git_object.specs.Reading.{behind, if_lower, line_front, oid_text_front, parents_in}
use Rattle.git_object.proofs.Items.{Shrinks, items_first, items_none}
use Rattle.rad_base.proofs.Options.{some_is}
use Rattle.git_object.proofs.ReadBack.{behind_is, behind_reads, bind_is, if_is}

same_true : (xs : List ℕ) → pointwise nat_eq xs xs ≡ true
same_true xs = (slice_eq-Decides Decides-eqb xs xs (pointwise nat_eq xs xs) refl).1 refl

true_same : (xs ys : List ℕ) → pointwise nat_eq xs ys ≡ true → xs ≡ ys
true_same xs ys h = (slice_eq-Decides Decides-eqb xs ys (pointwise nat_eq xs ys) refl).0 h

digits_size : (oid : Oid) → IsOid oid → length (encode_lower oid.0) ≡ 40
digits_size oid is = length-encode_with lower_digits oid.0 ∙ omega (arith, is.size)

-- a name's digits are read
pub oid_text_reads : (oid : Oid) (rest : List ℕ) → IsOid oid → oid_text_front (encode_lower oid.0 ++ rest) ≡ Some (oid, rest)
oid_text_reads oid rest is =
    let size = digits_size oid is in
    rw (take_at (encode_lower oid.0) rest 40 size, drop_at (encode_lower oid.0) rest 40 size, decode_sized-encode_lower oid.0 20 is.size is.fits, same_true (encode_lower oid.0)) refl

-- what was read is the name that the digits spell
pub oid_text_is : (bytes : List ℕ) (r : Oid × List ℕ) → oid_text_front bytes ≡ Some r → IsOid r.0 × (bytes ≡ encode_lower r.0.0 ++ r.1)
oid_text_is bytes r h =
    let step = bind_is (if_lower (take 40 bytes) (decode_sized (take 40 bytes) 20)) _ r h in
    let read = lower_is (take 40 bytes) (decode_sized (take 40 bytes) 20) step.0 step.1 in
    let size = decode_sized-ok (take 40 bytes) 20 step.0 read.0 in
    let parts = decode_of-ok (take 40 bytes) step.0 (sym (decode_sized-twice (take 40 bytes) 20 size) ∙ read.0) in
    let sized : HasBytes 20 step.0 = record { size = omega (arith, size, parts.2); fits = parts.3 } in
    let text : bytes ≡ encode_lower step.0 ++ drop 40 bytes = sym (take-append-drop 40 bytes) ∙ ap (λ (l : List ℕ). l ++ drop 40 bytes) (sym read.1) in
    rw (← some_is _ r step.2) (sized, text)
  where
    lower_is : (text : List ℕ) (d : Result (List ℕ) FromHexError) (raw : List ℕ) → if_lower text d ≡ Some raw → (d ≡ Ok raw) × (encode_lower raw ≡ text)
    lower_is text (Ok bytes) raw h =
        let test = if_is (pointwise nat_eq (encode_lower bytes) text) (Some bytes) raw h in
        let same = some_is bytes raw test.1 in
        (ap Ok same, rw (← same) (true_same (encode_lower bytes) text test.0))
    lower_is text (Err e) raw h = cc h

line_text : (word : List ℕ) (oid : Oid) (rest : List ℕ) → oid_line word oid ++ rest ≡ word ++ (encode_lower oid.0 ++ (10 ∷ [] ++ rest))
line_text word oid rest = append_assoc (word ++ encode_lower oid.0) (10 ∷ []) rest ∙ append_assoc word (encode_lower oid.0) (10 ∷ rest)

-- a line is read
pub line_reads : (word : List ℕ) (oid : Oid) (rest : List ℕ) → IsOid oid → line_front word (oid_line word oid ++ rest) ≡ Some (oid, rest)
unfolding line_front
line_reads word oid rest is =
    rw (line_text word oid rest, behind_reads word (encode_lower oid.0 ++ (10 ∷ [] ++ rest)), oid_text_reads oid (10 ∷ [] ++ rest) is) refl

-- what was read is a line
pub line_is : (word bytes : List ℕ) (r : Oid × List ℕ) → line_front word bytes ≡ Some r → IsOid r.0 × (bytes ≡ oid_line word r.0 ++ r.1)
unfolding line_front
line_is word bytes r h =
    let digits = bind_is (behind word bytes) _ r h in
    let oid = bind_is (oid_text_front digits.0) _ r digits.2 in
    let end = bind_is (behind (10 ∷ []) oid.0.1) _ r oid.2 in
    let same = some_is _ r end.2 in
    let named = oid_text_is digits.0 oid.0 oid.1 in
    let text : bytes ≡ oid_line word oid.0.0 ++ end.0 =
    behind_is word bytes digits.0 digits.1
    ∙ ap (λ (l : List ℕ). word ++ l) named.1
    ∙ ap (λ (l : List ℕ). word ++ (encode_lower oid.0.0.0 ++ l)) (behind_is (10 ∷ []) oid.0.1 end.0 end.1)
    ∙ sym (line_text word oid.0.0 end.0) in
    rw (← same) (named.0, text)

-- no line stands where its word does and no digits follow
pub no_line_digits : (word bytes digits : List ℕ) → bytes ≡ word ++ digits
    → ((oid : Oid) (rest : List ℕ) → IsOid oid → digits ≡ encode_lower oid.0 ++ rest → ⊥) → HasNoLine word bytes
no_line_digits word bytes digits e none oid rest is h =
    let same = sym (behind_reads word digits) ∙ ap (behind word) (sym e ∙ h ∙ line_text word oid rest) ∙ behind_reads word _ in
    none oid (10 ∷ [] ++ rest) is (some_is _ _ same)

-- nor where no line feed follows the digits
pub no_line_end : (word bytes digits more : List ℕ) (oid : Oid) → bytes ≡ word ++ digits → IsOid oid → digits ≡ encode_lower oid.0 ++ more
    → ((rest : List ℕ) → more ≡ 10 ∷ [] ++ rest → ⊥) → HasNoLine word bytes
no_line_end word bytes digits more oid e is d none other rest js h =
    let front = sym (behind_reads word digits) ∙ ap (behind word) (sym e ∙ h ∙ line_text word other rest) ∙ behind_reads word _ in
    let same = some_is _ _ (sym (oid_text_reads oid more is) ∙ ap oid_text_front (sym d ∙ some_is _ _ front) ∙ oid_text_reads other (10 ∷ [] ++ rest) js) in
    none rest (ap (λ (r : Oid × List ℕ). r.1) same)

-- a line in front is one
pub one_line : (word : List ℕ) (p q : Oid) (a b : List ℕ) → IsOid p → IsOid q → oid_line word p ++ a ≡ oid_line word q ++ b → (p ≡ q) × (a ≡ b)
one_line word p q a b is js h =
    let same = some_is _ _ (sym (line_reads word p a is) ∙ ap (line_front word) h ∙ line_reads word q b js) in
    (ap (λ (r : Oid × List ℕ). r.0) same, ap (λ (r : Oid × List ℕ). r.1) same)

-- nothing is read where no line stands in front
pub no_line_reads : (word bytes : List ℕ) → HasNoLine word bytes → line_front word bytes ≡ None
no_line_reads word bytes none = go (line_front word bytes) refl
  where
    go : (o : Option (Oid × List ℕ)) → line_front word bytes ≡ o → o ≡ None
    go None h = refl
    go (Some r) h = let is = line_is word bytes r h in absurd (none r.0 r.1 is.0 is.1)

-- a line is longer than what stands behind it
pub line_longer : (word : List ℕ) (oid : Oid) (rest : List ℕ) → length rest < length (oid_line word oid ++ rest)
line_longer word oid rest =
    omega (arith, ap length (line_text word oid rest), length-append word (encode_lower oid.0 ++ (10 ∷ [] ++ rest)), length-append (encode_lower oid.0) (10 ∷ [] ++ rest))

lines_shrink : (word : List ℕ) → Shrinks (line_front word)
lines_shrink word bytes r h = omega (arith, ap length (line_is word bytes r h).1, line_longer word r.0 r.1)

-- the parent at the front is the first
pub parents_first : (bytes more : List ℕ) (parent : Oid) → IsOid parent → bytes ≡ oid_line (codes "parent ") parent ++ more → parents_in bytes ≡ parent ∷ parents_in more
unfolding parents_in
parents_first bytes more parent is h =
    items_first (lines_shrink (codes "parent ")) bytes (parent, more) (ap (line_front (codes "parent ")) h ∙ line_reads (codes "parent ") parent more is)

-- no parent is left where no line of one stands at the front
pub parents_none : (bytes : List ℕ) → HasNoLine (codes "parent ") bytes → parents_in bytes ≡ []
unfolding parents_in
parents_none bytes none = items_none (lines_shrink (codes "parent ")) bytes (no_line_reads (codes "parent ") bytes none)

-- lines of parents are read
pub parents_read : (parents : List Oid) (rest : List ℕ) → AllByRecursion IsOid parents → HasNoLine (codes "parent ") rest → parents_in (parents_text parents ++ rest) ≡ parents
parents_read [] rest each none = parents_none rest none
parents_read (p ∷ parents) rest each none =
    parents_first (parents_text (p ∷ parents) ++ rest) (parents_text parents ++ rest) p each.0 (append_assoc (oid_line (codes "parent ") p) (parents_text parents) rest)
    ∙ ap (λ (l : List Oid). p ∷ l) (parents_read parents rest each.1 none)

-- what begins with `author ` has no parent in front
pub author_no_parent : (rest : List ℕ) → BeginsWith (codes "author ") rest → HasNoLine (codes "parent ") rest
author_no_parent rest begins oid more is h =
    let first = sym begins.1 ∙ h ∙ line_text (codes "parent ") oid more in
    omega (arith, ap (λ (l : List ℕ). get_or l 0 0) first)

pub parents_text-append : (ps qs : List Oid) → parents_text (ps ++ qs) ≡ parents_text ps ++ parents_text qs
parents_text-append [] qs = refl
parents_text-append (p ∷ ps) qs =
    ap (λ (l : List ℕ). oid_line (codes "parent ") p ++ l) (parents_text-append ps qs)
    ∙ sym (append_assoc (oid_line (codes "parent ") p) (parents_text ps) (parents_text qs))

-- lines of parents that were read, and a rest
pub record HasReadParents (bytes rest : List ℕ) : Type 0 where
  pub parents : List Oid
  pub each : AllByRecursion IsOid parents
  pub text : bytes ≡ parents_text parents ++ rest

-- none at the start
abbrev pub parents_start : (bytes : List ℕ) → HasReadParents bytes bytes
parents_start bytes = record { parents = []; each = tt; text = refl }

-- one more
abbrev pub parents_more : (bytes rest more : List ℕ) (p : Oid) → HasReadParents bytes rest → IsOid p → rest ≡ oid_line (codes "parent ") p ++ more → HasReadParents bytes more
parents_more bytes rest more p r is h =
    let line = oid_line (codes "parent ") p in
    record {
      parents = r.parents ++ p ∷ [];
      each = each_more IsOid r.parents p r.each is;
      text =
          r.text ∙ ap (λ (l : List ℕ). parents_text r.parents ++ l) h
          ∙ sym (append_assoc (parents_text r.parents) line more)
          ∙ ap (λ (l : List ℕ). l ++ more) (ap (λ (l : List ℕ). parents_text r.parents ++ l) (sym (append-nil line)) ∙ sym (parents_text-append r.parents (p ∷ [])));
    }

-- all, where none stands in front of the rest
abbrev pub parents_end : (bytes rest : List ℕ) → HasReadParents bytes rest → HasNoLine (codes "parent ") rest → StandsBehindParents bytes rest
parents_end bytes rest r none = record { parents = r.parents; each = r.each; text = r.text; no_parent = none }
