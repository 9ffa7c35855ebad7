-- Reading the keys of delegates: what differs is passed, and the first that fails stops it.
use Rattle.std.proofs.Common.{◌≡◌, ◌≢◌, ◌↔◌, ◌∙◌, ℕ, zero, suc, ◌<◌, ◌||◌, Bool, true, false, if◌then◌else◌, List, [], ◌∷◌, ◌++◌, length, map, Contains, Option, Some, None, Result, Ok, Err, slice_index_or, true≢false, refl, sym, ap, subst, arith}
use Rattle.std.specs.Str.{bytes_eq}
use Rattle.std.proofs.lemmas.Bool.{or_from, or_right}
use Rattle.std.proofs.lemmas.List.{append-nil, append_assoc}
use Rattle.std.proofs.lemmas.Slice.Eq.{bytes_eq-Decides}
use Rattle.rad_base.proofs.EachItem.{differ_more, each_between}
use Rattle.rad_base.specs.declared.names.Nid.{Nid}
use Rattle.rad_base.specs.Lists.{AllDiffer}
use Rattle.identity_doc.specs.DelegateKeys.{LacksKeyAt, RepeatsAt}
use Rattle.identity_doc.specs.Documents.{◌>>=◌, is_among, keys_behind, next_key}
use Rattle.identity_doc.specs.declared.fault.DocFault.{DocFault}
use Rattle.identity_doc.specs.declared.fault.DocFault.TheVariants.{BadDelegate, Twice}

same_nid : (a b : Nid) → bytes_eq a.0 b.0 ≡ true → a ≡ b
same_nid a b h = ap (λ (bytes : List ℕ). record { 0 = bytes }) ((bytes_eq-Decides a.0 b.0).0 h)

apart : (a b : Nid) (r : Bool) → bytes_eq a.0 b.0 ≡ r → a ≢ b → r ≡ false
apart a b true h other = absurd (other (same_nid a b h))
apart a b false h other = refl

-- a key that is among these is one of them
among_at : (x : Nid) (xs : List Nid) (key : Nid) (r : Bool) → bytes_eq x.0 key.0 ≡ r → (is_among xs key ≡ true → Contains xs key)
    → (r || is_among xs key) ≡ true → Contains (x ∷ xs) key
among_at x xs key true e later h = (0, omega arith, same_nid x key e)
among_at x xs key false e later h = let c = later h in (suc c.0, omega arith, c.2)

among_contains : (keys : List Nid) (key : Nid) → is_among keys key ≡ true → Contains keys key
among_contains [] key h = absurd (true≢false (sym h))
among_contains (x ∷ xs) key h = among_at x xs key _ refl (among_contains xs key) h

contains_at : (keys : List Nid) (key : Nid) (k : ℕ) → k < length keys → slice_index_or keys k key ≡ key → is_among keys key ≡ true
contains_at [] key k l e = absurd (omega arith)
contains_at (x ∷ xs) key zero l e = rw ((bytes_eq-Decides x.0 key.0).1 (ap (λ (n : Nid). n.0) e)) refl
contains_at (x ∷ xs) key (suc k) l e = or_right _ _ (contains_at xs key k (omega arith) e)

contains_among : (keys : List Nid) (key : Nid) → Contains keys key → is_among keys key ≡ true
contains_among keys key c = contains_at keys key c.0 c.1 c.2

-- where no key stands twice, one behind others is not among them
not_among : (before : List Nid) (key : Nid) (keys : List Nid) → AllDiffer (before ++ key ∷ keys) → is_among before key ≡ false
not_among [] key keys d = refl
not_among (x ∷ xs) key keys d =
    or_from _ _ (apart x key _ refl (each_between (λ other. x ≢ other) xs key keys d.0)) (not_among xs key keys d.1)

-- one more key that is not among them
differ_push : (xs : List Nid) (key : Nid) → AllDiffer xs → is_among xs key ≡ false → AllDiffer (xs ++ key ∷ [])
differ_push xs key d other = differ_more xs key d (λ has. true≢false (sym (contains_among xs key has) ∙ other))

-- keys that all differ are passed
pub passed : (before keys : List Nid) (rest : List (Option Nid)) → AllDiffer (before ++ keys)
    → keys_behind before (map Some keys ++ rest) ≡ keys_behind (before ++ keys) rest
passed before [] rest d = ap (λ (b : List Nid). keys_behind b rest) (sym (append-nil before))
passed before (key ∷ keys) rest d =
    let longer = append_assoc before (key ∷ []) keys in
    rw (not_among before key keys d)
    (passed (before ++ key ∷ []) keys rest (subst AllDiffer (sym longer) d)
    ∙ ap (λ (b : List Nid). keys_behind b rest) longer)

-- what was read: the keys of all elements
abbrev ReadOf : List Nid → List (Option Nid) → List Nid → Type 0
ReadOf before found all = (keys : List Nid) × (found ≡ map Some keys) × (all ≡ before ++ keys) × AllDiffer all

read_more : (before : List Nid) (key : Nid) (found : List (Option Nid)) (all : List Nid)
    → ReadOf (before ++ key ∷ []) found all → ReadOf before (Some key ∷ found) all
read_more before key found all r =
    (key ∷ r.0, ap (λ (more : List (Option Nid)). Some key ∷ more) r.1, r.2 ∙ append_assoc before (key ∷ []) r.0, r.3)

read_at : (before : List Nid) (key : Nid) (found : List (Option Nid)) (all : List Nid) (among : Bool)
    → AllDiffer before → is_among before key ≡ among
    → (AllDiffer (before ++ key ∷ []) → keys_behind (before ++ key ∷ []) found ≡ Ok all → ReadOf (before ++ key ∷ []) found all)
    → ((if among then Err (Twice (length before)) else Ok key) >>= λ k. keys_behind (before ++ k ∷ []) found) ≡ Ok all
    → ReadOf before (Some key ∷ found) all
read_at before key found all true d e later h = cc h
read_at before key found all false d e later h = read_more before key found all (later (differ_push before key d e) h)

read : (before : List Nid) (found : List (Option Nid)) (all : List Nid)
    → AllDiffer before → keys_behind before found ≡ Ok all → ReadOf before found all
read before [] all d h =
    let same : before ≡ all = cc in
    ([], refl, sym same ∙ sym (append-nil before), subst AllDiffer same d)
read before (None ∷ found) all d h = cc h
read before (Some key ∷ found) all d h =
    read_at before key found all _ d refl (read (before ++ key ∷ []) found all) h

-- where reading stops: behind keys that all differ, at a key that fails
pub record StopsAt (before : List Nid) (found : List (Option Nid)) (fault : DocFault) : Type 0 where
  pub keys : List Nid
  pub next : Option Nid
  pub rest : List (Option Nid)
  pub text : found ≡ map Some keys ++ next ∷ rest
  pub differ : AllDiffer (before ++ keys)
  pub fails : next_key (before ++ keys) next ≡ Err fault

one_fault : (r : Result (List Nid) DocFault) (a b : DocFault) → r ≡ Err a → r ≡ Err b → a ≡ b
one_fault r a b p q = cc

same_fault : (a b : DocFault) (r : Result Nid DocFault) → r ≡ Err a → a ≡ b → r ≡ Err b
same_fault a b r p q = cc

stop_here : (before : List Nid) (next : Option Nid) (rest : List (Option Nid)) (fault : DocFault)
    → AllDiffer before → next_key before next ≡ Err fault → StopsAt before (next ∷ rest) fault
stop_here before next rest fault d h = record {
  keys = [];
  next = next;
  rest = rest;
  text = refl;
  differ = subst AllDiffer (sym (append-nil before)) d;
  fails = ap (λ (b : List Nid). next_key b next) (append-nil before) ∙ h;
}

stop_later : (before : List Nid) (key : Nid) (found : List (Option Nid)) (fault : DocFault)
    → StopsAt (before ++ key ∷ []) found fault → StopsAt before (Some key ∷ found) fault
stop_later before key found fault s =
    let longer = append_assoc before (key ∷ []) s.keys in
    record {
      keys = key ∷ s.keys;
      next = s.next;
      rest = s.rest;
      text = ap (λ (more : List (Option Nid)). Some key ∷ more) s.text;
      differ = subst AllDiffer longer s.differ;
      fails = ap (λ (b : List Nid). next_key b s.next) (sym longer) ∙ s.fails;
    }

stop_at : (before : List Nid) (key : Nid) (found : List (Option Nid)) (fault : DocFault) (among : Bool)
    → AllDiffer before → is_among before key ≡ among
    → (AllDiffer (before ++ key ∷ []) → keys_behind (before ++ key ∷ []) found ≡ Err fault → StopsAt (before ++ key ∷ []) found fault)
    → ((if among then Err (Twice (length before)) else Ok key) >>= λ k. keys_behind (before ++ k ∷ []) found) ≡ Err fault
    → StopsAt before (Some key ∷ found) fault
stop_at before key found fault true d e later h =
    stop_here before (Some key) found fault d
    (same_fault (Twice (length before)) fault (next_key before (Some key)) (rw e refl) (one_fault _ _ _ refl h))
stop_at before key found fault false d e later h = stop_later before key found fault (later (differ_push before key d e) h)

stopped : (before : List Nid) (found : List (Option Nid)) (fault : DocFault)
    → AllDiffer before → keys_behind before found ≡ Err fault → StopsAt before found fault
stopped before [] fault d h = cc h
stopped before (None ∷ found) fault d h =
    stop_here before None found fault d
    (same_fault (BadDelegate (length before)) fault (next_key before None) refl (one_fault _ _ _ refl h))
stopped before (Some key ∷ found) fault d h =
    stop_at before key found fault _ d refl (stopped (before ++ key ∷ []) found fault) h

-- the keys that are read are those of all elements, and they all differ
pub read_iff : (found : List (Option Nid)) (keys : List Nid)
    → (keys_behind [] found ≡ Ok keys) ↔ (found ≡ map Some keys) × AllDiffer keys
read_iff found keys = (
  λ h. let r = read [] found keys tt h in (r.1 ∙ ap (λ (ks : List Nid). map Some ks) (sym r.2), r.3),
  λ p. subst (λ (more : List (Option Nid)). keys_behind [] more ≡ Ok keys) (append-nil (map Some keys) ∙ sym p.0) (passed [] keys [] p.1),
)

lacking_at : (keys : List Nid) (next : Option Nid) (rest : List (Option Nid)) (found : List (Option Nid)) (i : ℕ)
    → found ≡ map Some keys ++ next ∷ rest → AllDiffer keys → next_key keys next ≡ Err (BadDelegate i) → LacksKeyAt i found
lacking_at keys None rest found i text d h = record { keys = keys; rest = rest; text = text; differ = d; count = cc h }
lacking_at keys (Some key) rest found i text d h = absurd (no_lack (is_among keys key) h)
  where
    no_lack : (among : Bool) → (if among then Err (Twice (length keys)) else Ok key) ≡ Err (BadDelegate i) → ⊥
    no_lack true e = cc e
    no_lack false e = cc e

-- the first element that fails has no key
pub lacking_iff : (found : List (Option Nid)) (i : ℕ) → (keys_behind [] found ≡ Err (BadDelegate i)) ↔ LacksKeyAt i found
lacking_iff found i = (
  λ h. let s = stopped [] found (BadDelegate i) tt h in lacking_at s.keys s.next s.rest found i s.text s.differ s.fails,
  λ l. rw (l.text, l.count) (passed [] l.keys (None ∷ l.rest) l.differ),
)

repeated_at : (keys : List Nid) (next : Option Nid) (rest : List (Option Nid)) (found : List (Option Nid)) (i : ℕ)
    → found ≡ map Some keys ++ next ∷ rest → AllDiffer keys → next_key keys next ≡ Err (Twice i) → RepeatsAt i found
repeated_at keys None rest found i text d h = cc h
repeated_at keys (Some key) rest found i text d h =
    repeats (is_among keys key) refl h
  where
    repeats : (among : Bool) → is_among keys key ≡ among
        → (if among then Err (Twice (length keys)) else Ok key) ≡ Err (Twice i) → RepeatsAt i found
    repeats true e g = record {
      keys = keys;
      key = key;
      rest = rest;
      text = text;
      differ = d;
      again = among_contains keys key e;
      count = cc g;
    }
    repeats false e g = cc g

-- the first element that fails has a key of one before it
pub repeated_iff : (found : List (Option Nid)) (i : ℕ) → (keys_behind [] found ≡ Err (Twice i)) ↔ RepeatsAt i found
repeated_iff found i = (
  λ h. let s = stopped [] found (Twice i) tt h in repeated_at s.keys s.next s.rest found i s.text s.differ s.fails,
  λ r. rw (r.text, r.count)
      (passed [] r.keys (Some r.key ∷ r.rest) r.differ ∙ rw (contains_among r.keys r.key r.again) refl),
)
