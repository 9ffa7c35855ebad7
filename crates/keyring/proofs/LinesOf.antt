-- Which line says what a keyring answers.
use Rattle.std.proofs.Common.{◌≡◌, ℕ, Bool, true, false, cond, List, [], ◌∷◌, ◌++◌, Option, Some, ⊎_elim, refl, sym, ap, subst, ◌∙◌}
use Rattle.std.specs.Prelude.{Contains, ◌↔◌, IsTrue}
use Rattle.std.specs.Cmp.Lexicographic.{slice_cmp}
use Rattle.std.specs.Ordering.{is_eq, nat_cmp}
use Rattle.std.specs.Option.{option_or}
use Rattle.std.specs.FinMap as fin
use Rattle.std.specs.FinSet as set
use Rattle.std.proofs.lemmas.Cmp.{eq_by_cmp_equiv, nat_list_cmp_total}
use Rattle.std.proofs.lemmas.List.Elements.{Contains-append_left, Contains-push}
use Rattle.std.proofs.lemmas.Map.Lookups.{exact_bytes}
use Rattle.std.proofs.lemmas.Map.Views.{Contains-from_any, list_any-from_Contains, tells_apart}
use Rattle.rad_base.specs.declared.names.Nid.{Nid}
use Rattle.rad_base.specs.Sizes.{IsNid}
use Rattle.rad_base.proofs.KeyedMaps.{get_of_entries}
use Rattle.keyring.specs.declared.accept.Accept.{Accept}
use Rattle.keyring.specs.Accepts.{accept_cmp}
use Rattle.keyring.specs.Contents.{Contents, contents_of, key_of}
use Rattle.keyring.specs.Lines.{AreLines, AreLinesBehind, KeyringLine, MayFollow, accepted, accepts_in, named, names_in, owned}
use Rattle.keyring.specs.Texts.{direct_text}
use Rattle.keyring.proofs.AcceptOrder.{accept_exact, accept_total}
use Rattle.rad_base.proofs.NameOrder.{equals_itself}
use Rattle.rad_base.proofs.Members.{contains_cases, contains_head, contains_nothing, contains_tail}
use Rattle.keyring.proofs.DirectTexts.{direct_is, no_direct}
use Rattle.keyring.proofs.Saying.{named_in}

-- ---- signatures

accept_line : (lines : List KeyringLine) (accept : Accept) → Contains (accepts_in lines) accept → Contains lines (accepted accept)
accept_line [] accept h = absurd (contains_nothing accept h)
accept_line (named text key ∷ lines) accept h = contains_tail (named text key) lines (accepted accept) (accept_line lines accept h)
accept_line (owned message ∷ lines) accept h = contains_tail (owned message) lines (accepted accept) (accept_line lines accept h)
accept_line (accepted other ∷ lines) accept h =
    ⊎_elim
    (λ same. subst (λ a. Contains (accepted other ∷ lines) (accepted a)) same (contains_head (accepted other) lines))
    (λ tail. contains_tail (accepted other) lines (accepted accept) (accept_line lines accept tail))
    (contains_cases other (accepts_in lines) accept h)

same_accepted : (a b : Accept) → accepted a ≡ accepted b → a ≡ b
same_accepted a b e = cc e

line_accepts : (lines : List KeyringLine) (accept : Accept) → Contains lines (accepted accept) → Contains (accepts_in lines) accept
line_accepts [] accept h = absurd (contains_nothing (accepted accept) h)
line_accepts (named text key ∷ lines) accept h =
    ⊎_elim (λ same. cc same) (λ tail. line_accepts lines accept tail) (contains_cases (named text key) lines (accepted accept) h)
line_accepts (owned message ∷ lines) accept h =
    ⊎_elim (λ same. cc same) (λ tail. line_accepts lines accept tail) (contains_cases (owned message) lines (accepted accept) h)
line_accepts (accepted other ∷ lines) accept h =
    ⊎_elim
    (λ same. subst (λ a. Contains (other ∷ accepts_in lines) a) (same_accepted other accept same) (contains_head other (accepts_in lines)))
    (λ tail. contains_tail other (accepts_in lines) accept (line_accepts lines accept tail))
    (contains_cases (accepted other) lines (accepted accept) h)

-- a signature holds exactly where a line says so
pub accepted_iff : (lines : List KeyringLine) (accept : Accept)
    → IsTrue (set.contains (set.from_list {R = accept_cmp} (accepts_in lines)) accept) ↔ Contains lines (accepted accept)
accepted_iff lines accept =
    let any = set.contains-from_list accept_total (accepts_in lines) accept in (
      λ h. accept_line lines accept (Contains-from_any (tells_apart accept_exact) accept (accepts_in lines) (sym any ∙ h)),
      λ h. any ∙ list_any-from_Contains (eq_by_cmp_equiv accept_total) accept (accepts_in lines) (line_accepts lines accept h),
    )

-- ---- names

name_line : (text : List ℕ) (lines : List KeyringLine) (key : Nid) → named_in text lines ≡ Some key → Contains lines (named text key)
name_line text [] key h = cc h
name_line text (accepted accept ∷ lines) key h = contains_tail (accepted accept) lines (named text key) (name_line text lines key h)
name_line text (owned message ∷ lines) key h = contains_tail (owned message) lines (named text key) (name_line text lines key h)
name_line text (named other nid ∷ lines) key h = found (is_eq (slice_cmp nat_cmp text other)) refl h (name_line text lines key)
  where
    same_name : other ≡ text → nid ≡ key → Contains (named other nid ∷ lines) (named text key)
    same_name p q = rw (sym p, sym q) (contains_head (named other nid) lines)

    found : (b : Bool) → is_eq (slice_cmp nat_cmp text other) ≡ b → cond b (Some nid) (named_in text lines) ≡ Some key
        → (named_in text lines ≡ Some key → Contains lines (named text key)) → Contains (named other nid ∷ lines) (named text key)
    found true e h tail =
        let key_is : nid ≡ key = cc h in
        same_name (sym (tells_apart exact_bytes text other e)) key_is
    found false e h tail = contains_tail (named other nid) lines (named text key) (tail h)

-- a text that was named is not named again
not_again : (before lines : List KeyringLine) (text : List ℕ) (other key : Nid) → AreLinesBehind before lines → Contains before (named text other)
    → Contains lines (named text key) → ⊥
not_again before [] text other key good has h = contains_nothing (named text key) h
not_again before (line ∷ lines) text other key good has h =
    ⊎_elim
    (λ same. let may : MayFollow before (named text key) = subst (λ l. MayFollow before l) same good.1 in may other has)
    (λ tail. not_again (before ++ line ∷ []) lines text other key good.2 (Contains-append_left before (line ∷ []) (named text other) has) tail)
    (contains_cases line lines (named text key) h)

same_text : (a b : List ℕ) (k l : Nid) → named a k ≡ named b l → a ≡ b
same_text a b k l e = cc e

same_key : (a b : List ℕ) (k l : Nid) → named a k ≡ named b l → k ≡ l
same_key a b k l e = cc e

first_name : (text other : List ℕ) (nid key : Nid) (rest : Option Nid) → named other nid ≡ named text key
    → cond (is_eq (slice_cmp nat_cmp text other)) (Some nid) rest ≡ Some key
first_name text other nid key rest same =
    ap (λ t. cond (is_eq (slice_cmp nat_cmp text t)) (Some nid) rest) (same_text other text nid key same)
    ∙ ap (λ b. cond b (Some nid) rest) (equals_itself text) ∙ ap (λ (k : Nid). Some k) (same_key other text nid key same)

later_name : (b : Bool) (nid key : Nid) (rest : Option Nid) → (b ≡ true → ⊥) → rest ≡ Some key → cond b (Some nid) rest ≡ Some key
later_name true nid key rest not h = absurd (not refl)
later_name false nid key rest not h = h

line_names : (before lines : List KeyringLine) (text : List ℕ) (key : Nid) → AreLinesBehind before lines → Contains lines (named text key)
    → named_in text lines ≡ Some key
line_names before [] text key good h = absurd (contains_nothing (named text key) h)
line_names before (accepted accept ∷ lines) text key good h =
    ⊎_elim (λ same. cc same) (λ tail. line_names (before ++ accepted accept ∷ []) lines text key good.2 tail)
    (contains_cases (accepted accept) lines (named text key) h)
line_names before (owned message ∷ lines) text key good h =
    ⊎_elim (λ same. cc same) (λ tail. line_names (before ++ owned message ∷ []) lines text key good.2 tail)
    (contains_cases (owned message) lines (named text key) h)
line_names before (named other nid ∷ lines) text key good h =
    ⊎_elim
    (λ same. first_name text other nid key (named_in text lines) same)
    (λ tail. later_name (is_eq (slice_cmp nat_cmp text other)) nid key (named_in text lines)
    (λ e. not_again (before ++ named other nid ∷ []) lines text nid key good.2
    (subst (λ t. Contains (before ++ named other nid ∷ []) (named t nid)) (sym (tells_apart exact_bytes text other e)) (Contains-push before (named other nid))) tail)
    (line_names (before ++ named other nid ∷ []) lines text key good.2 tail))
    (contains_cases (named other nid) lines (named text key) h)

-- a text that spells no key stands for a key exactly where a line says so
pub named_iff : (lines : List KeyringLine) (text : List ℕ) (key : Nid) → AreLines lines → ((other : Nid) → IsNid other → text ≡ direct_text other → ⊥)
    → (key_of (contents_of lines) text ≡ Some key) ↔ Contains lines (named text key)
named_iff lines text key good none =
    let look : key_of (contents_of lines) text ≡ named_in text lines =
    ap (λ k. option_or k (fin.get (contents_of lines).names text)) (no_direct text none)
    ∙ get_of_entries nat_list_cmp_total (names_in lines) text in (
      λ h. name_line text lines key (sym look ∙ h),
      λ h. look ∙ line_names [] lines text key good h,
    )

-- a text that spells a key stands for it
pub direct_names : (keyring : Contents) (key : Nid) → IsNid key → key_of keyring (direct_text key) ≡ Some key
direct_names keyring key is = ap (λ k. option_or k (fin.get keyring.names (direct_text key))) (direct_is key is)
