-- Lines of signatures in the order of their keys.
use Rattle.std.proofs.Common.{◌≡◌, ℕ, zero, suc, ◌+◌, ◌-◌, ◌<◌, Bool, true, false, ◌&&◌, ◌||◌, List, [], ◌∷◌, ◌++◌, length, get_or, slice_get, Some, ◌⊎◌, inl, inr, Err, refl, sym, ap, ◌∙◌, arith}
use Rattle.std.specs.List.{All, list_any}
use Rattle.std.specs.List.Sorted.{IsBinarySearchResult, IsNonDecreasingBy, IsSortedBy}
use Rattle.std.specs.Ordering.{eq_by_cmp, is_eq, is_lt, ordering_index, ordering_reverse}
use Rattle.std.specs.declared.cmp.Ordering.{Ordering}
use Rattle.std.specs.declared.cmp.Ordering.TheVariants.{Less, Equal, Greater}
use Rattle.std.proofs.lemmas.Bool.{cases_lt}
use Rattle.std.proofs.lemmas.List.Elements.{All-cons, All-weaker}
use Rattle.std.proofs.lemmas.List.Folds.{list_any_none}
use Rattle.std.proofs.lemmas.List.Sorted.{searchable_from_sorted}
use Rattle.rad_base.specs.declared.names.Nid.{Nid}
use Rattle.rad_base.specs.Order.{nid_cmp}
use Rattle.std.proofs.lemmas.Option.{slice_get-get_or}
use Rattle.rad_base.proofs.Members.{contains_at}
use Rattle.rad_base.proofs.NameOrder.{nid_exact, nid_total}
use Rattle.rad_base.proofs.Rising.{rises_below, rises_searched, rises_tail}
use Rattle.identity_doc.specs.declared.signatures.SignatureLine.{SignatureLine}
use Rattle.identity_doc.specs.Signatures.{AreRisingKeys, key_in}
use Rattle.identity_doc.specs.SignatureReaders.{KeyMayFollow}

-- ---- the last line

-- what may follow is above the last line
pub may_follow_last : (lines : List SignatureLine) (last : SignatureLine) (key : Nid) → slice_get lines (length lines - 1) ≡ Some last
    → (nid_cmp last.key key ≡ Less → KeyMayFollow lines key) × (KeyMayFollow lines key → nid_cmp last.key key ≡ Less)
may_follow_last [] last key e = cc e
may_follow_last (x ∷ []) last key e =
    let same : x ≡ last = cc e in
    (λ h. rw same h, λ h. rw same at h)
may_follow_last (x ∷ y ∷ lines) last key e =
    let next : length (x ∷ y ∷ lines) - 1 ≡ suc (length (y ∷ lines) - 1) = omega arith in
    may_follow_last (y ∷ lines) last key (sym (ap (λ (i : ℕ). slice_get (x ∷ y ∷ lines) i) next) ∙ e)

pub less_is_lt : (o : Ordering) → o ≡ Less → is_lt o ≡ true
less_is_lt o e = rw e refl

pub lt_is_less : (o : Ordering) → is_lt o ≡ true → o ≡ Less
lt_is_less Less h = refl
lt_is_less Equal h = cc h
lt_is_less Greater h = cc h

-- ---- comparisons

less_apart : (a b : Nid) → nid_cmp a b ≡ Less → eq_by_cmp nid_cmp a b ≡ false
less_apart a b e = ap is_eq e

greater_apart : (a b : Nid) → nid_cmp a b ≡ Less → eq_by_cmp nid_cmp b a ≡ false
greater_apart a b e = ap is_eq (nid_total.antisymm b a ∙ ap ordering_reverse e)

-- ---- the order of all lines

-- the lines behind the first are above it
rising_below : (x : SignatureLine) (lines : List SignatureLine) → AreRisingKeys (x ∷ lines) → All (λ y. nid_cmp x.key y.key ≡ Less) lines
rising_below x lines rising = λ k d inside. rises_below key_in nid_cmp nid_total x lines rising (get_or lines k d) (contains_at lines k (get_or lines k d) (slice_get-get_or lines k d inside))

-- the comparisons with a key rise along the lines, as a binary search asks
comparisons_rise : (lines : List SignatureLine) → AreRisingKeys lines → (key : Nid) → IsNonDecreasingBy (λ line. ordering_index (nid_cmp line.key key)) lines
comparisons_rise lines rising key = rises_searched key_in nid_cmp nid_total lines key rising

-- ---- the line of a key

-- where the line at a place is of the key, a test of the lines of the key is that of this line
pub alone : (lines : List SignatureLine) → AreRisingKeys lines → (test : SignatureLine → Bool) (key : Nid) (at : ℕ) (d : SignatureLine)
    → at < length lines → nid_cmp (get_or lines at d).key key ≡ Equal
    → list_any (λ line. eq_by_cmp nid_cmp line.key key && test line) lines ≡ test (get_or lines at d)
alone [] rising test key at d inside here = absurd (omega arith)
alone (x ∷ lines) rising test key zero d inside here =
    let same : x.key ≡ key = nid_exact x.key key here in
    let others : list_any (λ (line : SignatureLine). eq_by_cmp nid_cmp line.key key && test line) lines ≡ false
    = list_any_none _ lines (All-weaker (λ y. nid_cmp x.key y.key ≡ Less) (λ y. (eq_by_cmp nid_cmp y.key key && test y) ≡ false)
    (λ y h. ap (λ b. b && test y) (greater_apart key y.key (rw same at h))) lines (rising_below x lines rising)) in
    let equal : eq_by_cmp nid_cmp x.key key ≡ true = ap is_eq here in
    rw (equal, others) (or_false (test x))
  where
    or_false : (b : Bool) → (b || false) ≡ b
    or_false true = refl
    or_false false = refl
alone (x ∷ lines) rising test key (suc at) d inside here =
    let below : nid_cmp x.key (get_or lines at d).key ≡ Less = rising_below x lines rising at d (omega arith) in
    let same : (get_or lines at d).key ≡ key = nid_exact (get_or lines at d).key key here in
    let apart : eq_by_cmp nid_cmp x.key key ≡ false = less_apart x.key key (rw same at below) in
    rw apart (alone lines (rises_tail key_in nid_cmp x lines rising) test key at d (omega arith) here)

-- a line that is apart from the key fails the test of the lines of the key
apart_fails : (o : Ordering) (b : Bool) → (o ≡ Less) ⊎ (o ≡ Greater) → (is_eq o && b) ≡ false
apart_fails Less b h = refl
apart_fails Equal b (inl e) = cc e
apart_fails Equal b (inr e) = cc e
apart_fails Greater b h = refl

-- where a search for a key ends between lines, none is of the key
pub absent : (lines : List SignatureLine) → AreRisingKeys lines → (test : SignatureLine → Bool) (key : Nid) (at : ℕ)
    → IsBinarySearchResult (λ line. nid_cmp line.key key) lines (Err at)
    → list_any (λ line. eq_by_cmp nid_cmp line.key key && test line) lines ≡ false
absent lines rising test key at found =
    let parts = found (comparisons_rise lines rising key) in
    list_any_none _ lines (λ k d inside. elim (cases_lt k at) [
      | inl below ↦ apart_fails _ (test (get_or lines k d)) (inl (parts.0 k d (omega arith) below))
      | inr high ↦ apart_fails _ (test (get_or lines k d)) (inr (parts.1 k d high inside))
    ])
