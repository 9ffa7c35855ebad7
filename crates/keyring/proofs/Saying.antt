-- What lines say, one line at a time.
use Rattle.std.proofs.Common.{◌≡◌, ℕ, Bool, true, false, ◌||◌, cond, List, [], ◌∷◌, ◌++◌, Vec, Option, Some, None, ⊎_elim, refl, sym, ap, subst, ◌∙◌}
use Rattle.std.specs.declared.alloc.Global.{Global}
use Rattle.std.specs.Prelude.{Contains}
use Rattle.std.specs.Cmp.Lexicographic.{slice_cmp}
use Rattle.std.specs.Ordering.{eq_by_cmp, is_eq, nat_cmp}
use Rattle.std.specs.List.{list_any}
use Rattle.std.specs.Map.{lookup}
use Rattle.std.specs.BTreeMap.{insert_entry, is_at}
use Rattle.std.specs.FinMap as fin
use Rattle.std.specs.FinSet as set
use Rattle.std.proofs.lemmas.Cmp.{eq_by_cmp_equiv, nat_list_cmp_total}
use Rattle.std.proofs.lemmas.List.{append-nil}
use Rattle.std.proofs.lemmas.Map.Lookups.{exact_bytes}
use Rattle.rad_base.specs.declared.names.Nid.{Nid}
use Rattle.rad_base.proofs.KeyedMaps.{get_of_entries}
use Rattle.rad_base.proofs.NameOrder.{apart}
use Rattle.keyring.specs.declared.accept.Accept.{Accept}
use Rattle.keyring.specs.Accepts.{accept_cmp}
use Rattle.keyring.specs.Contents.{Contents, contents_of}
use Rattle.keyring.specs.Lines.{KeyringLine, MayFollow, accepted, accepts_in, named, names_in, owned, owned_in}
use Rattle.keyring.specs.Readers.{Adds, by_text}
use Rattle.keyring.proofs.AcceptOrder.{accept_exact, accept_total}
use Rattle.rad_base.proofs.NameOrder.{equals_itself}
use Rattle.rad_base.proofs.Members.{contains_cases, contains_head, contains_nothing, contains_tail}
use Rattle.keyring.proofs.Names.{from_entries-insert_entry, lookup_by_text}

-- ---- lines behind lines

names_in-append : (xs ys : List KeyringLine) → names_in (xs ++ ys) ≡ names_in xs ++ names_in ys
names_in-append [] ys = refl
names_in-append (named text key ∷ xs) ys = ap (λ (l : List (List ℕ × Nid)). (text, key) ∷ l) (names_in-append xs ys)
names_in-append (accepted accept ∷ xs) ys = names_in-append xs ys
names_in-append (owned message ∷ xs) ys = names_in-append xs ys

accepts_in-append : (xs ys : List KeyringLine) → accepts_in (xs ++ ys) ≡ accepts_in xs ++ accepts_in ys
accepts_in-append [] ys = refl
accepts_in-append (named text key ∷ xs) ys = accepts_in-append xs ys
accepts_in-append (accepted accept ∷ xs) ys = ap (λ (l : List Accept). accept ∷ l) (accepts_in-append xs ys)
accepts_in-append (owned message ∷ xs) ys = accepts_in-append xs ys

owned_in-append : (xs ys : List KeyringLine) → owned_in (xs ++ ys) ≡ owned_in xs ++ owned_in ys
owned_in-append [] ys = refl
owned_in-append (named text key ∷ xs) ys = owned_in-append xs ys
owned_in-append (accepted accept ∷ xs) ys = owned_in-append xs ys
owned_in-append (owned message ∷ xs) ys = ap (λ (l : List (List ℕ)). message ∷ l) (owned_in-append xs ys)

-- nothing is appended where a line says nothing of a kind
nil_append : {X : Type 0} (xs ys zs : List X) → xs ≡ ys ++ zs → zs ≡ [] → xs ≡ ys
nil_append xs ys zs e f = e ∙ ap (λ l. ys ++ l) f ∙ append-nil ys

-- ---- which text is named

-- the name that a scan of the lines finds
abbrev pub named_in : List ℕ → List KeyringLine → Option Nid
named_in text lines = lookup (is_at (slice_cmp nat_cmp text)) (names_in lines)

-- where no line names a text, none is found
pub not_named : (text : List ℕ) (lines : List KeyringLine) → ((key : Nid) → Contains lines (named text key) → ⊥) → named_in text lines ≡ None
not_named text [] none = refl
not_named text (named other key ∷ lines) none =
    let tail = not_named text lines (λ nid h. none nid (contains_tail (named other key) lines (named text nid) h)) in
    let differ : is_eq (slice_cmp nat_cmp text other) ≡ false = apart (slice_cmp nat_cmp) exact_bytes text other
    (λ same. none key (subst (λ t. Contains (named other key ∷ lines) (named t key)) same (contains_head (named other key) lines))) in
    rw differ tail
not_named text (accepted accept ∷ lines) none = not_named text lines (λ nid h. none nid (contains_tail (accepted accept) lines (named text nid) h))
not_named text (owned message ∷ lines) none = not_named text lines (λ nid h. none nid (contains_tail (owned message) lines (named text nid) h))

some_not_none : {X : Type 0} (b : Bool) (x : X) (o : Option X) → cond b (Some x) o ≡ None → (b ≡ true → ⊥) × (o ≡ None)
some_not_none true x o e = cc e
some_not_none false x o e = (λ h. cc h, e)

-- where none is found, no line names the text
pub named_found : (text : List ℕ) (lines : List KeyringLine) → named_in text lines ≡ None → (key : Nid) → Contains lines (named text key) → ⊥
named_found text [] e key h = contains_nothing (named text key) h
named_found text (named other nid ∷ lines) e key h =
    let parts = some_not_none (is_eq (slice_cmp nat_cmp text other)) nid (named_in text lines) e in
    ⊎_elim
    (λ same. let texts : other ≡ text = cc same in parts.0 (rw texts (equals_itself text)))
    (λ tail. named_found text lines parts.1 key tail)
    (contains_cases (named other nid) lines (named text key) h)
named_found text (accepted accept ∷ lines) e key h =
    ⊎_elim (λ same. cc same) (λ tail. named_found text lines e key tail) (contains_cases (accepted accept) lines (named text key) h)
named_found text (owned message ∷ lines) e key h =
    ⊎_elim (λ same. cc same) (λ tail. named_found text lines e key tail) (contains_cases (owned message) lines (named text key) h)

-- ---- one line more

same_contents : (a b : Contents) → a.names ≡ b.names → a.accepted ≡ b.accepted → a.own ≡ b.own → a ≡ b
same_contents a b p q r = λ i. record { names = p i; accepted = q i; own = r i }

-- what a keyring's fields show
abbrev pub shown : List (Vec ℕ Global × Nid) → List Accept → List (List ℕ) → Contents
shown names accepts own = record { names = fin.from_entries (by_text names); accepted = set.from_list accepts; own = own }

-- a text is found in the fields where it is found in the lines
found_alike : (names : List (Vec ℕ Global × Nid)) (accepts : List Accept) (own : List (List ℕ)) (before : List KeyringLine) (text : List ℕ)
    → shown names accepts own ≡ contents_of before → lookup (is_at (λ key. slice_cmp nat_cmp text key.items)) names ≡ named_in text before
found_alike names accepts own before text e =
    sym (lookup_by_text text names) ∙ sym (get_of_entries nat_list_cmp_total (by_text names) text)
    ∙ ap (λ (m : Contents). fin.get m.names text) e ∙ get_of_entries nat_list_cmp_total (names_in before) text

-- a name whose text is not there is added
pub adds_name : (names news : List (Vec ℕ Global × Nid)) (accepts : List Accept) (own : List (List ℕ)) (text : Vec ℕ Global) (key : Nid)
    → news ≡ insert_entry (λ a b. slice_cmp nat_cmp a.items b.items) names text key
    → lookup (is_at (λ other. slice_cmp nat_cmp text.items other.items)) names ≡ None
    → (old : Contents) → shown names accepts own ≡ old → Adds (named text.items key) old (shown news accepts own)
adds_name names news accepts own text key put none old view = record {
  follows = λ before e. named_found text.items before (lacks before e);
  says = λ before e.
      let lines = before ++ named text.items key ∷ [] in
      let m = view ∙ e in
      same_contents (shown news accepts own) (contents_of lines)
      (ap (λ es. fin.from_entries {R = slice_cmp nat_cmp} (by_text es)) put ∙ from_entries-insert_entry names text key
      ∙ ap (λ (c : Contents). fin.insert c.names text.items key) m
      ∙ sym (fin.from_entries_push nat_list_cmp_total exact_bytes (names_in before) text.items key
      (sym (fin.get-from_entries nat_list_cmp_total (names_in before) text.items) ∙ get_of_entries nat_list_cmp_total (names_in before) text.items ∙ lacks before e))
      ∙ ap (λ es. fin.from_entries {R = slice_cmp nat_cmp} es) (sym (names_in-append before (named text.items key ∷ []))))
      (ap (λ (c : Contents). c.accepted) m ∙ ap (λ es. set.from_list {R = accept_cmp} es) (sym (nil_append _ (accepts_in before) _ (accepts_in-append before (named text.items key ∷ [])) refl)))
      (ap (λ (c : Contents). c.own) m ∙ sym (nil_append _ (owned_in before) _ (owned_in-append before (named text.items key ∷ [])) refl));
}
  where
    lacks : (before : List KeyringLine) → old ≡ contents_of before → named_in text.items before ≡ None
    lacks before e = sym (found_alike names accepts own before text.items (view ∙ e)) ∙ none

-- a name whose text is there may not follow
pub names_twice : (names : List (Vec ℕ Global × Nid)) (accepts : List Accept) (own : List (List ℕ)) (text : Vec ℕ Global) (key : Nid)
    → (lookup (is_at (λ other. slice_cmp nat_cmp text.items other.items)) names ≡ None → ⊥)
    → (old : Contents) → shown names accepts own ≡ old → (before : List KeyringLine) → old ≡ contents_of before → MayFollow before (named text.items key) → ⊥
names_twice names accepts own text key there old view before e may =
    there (found_alike names accepts own before text.items (view ∙ e) ∙ not_named text.items before may)

cond_or : (b x : Bool) → cond b true x ≡ (b || x)
cond_or true x = refl
cond_or false x = refl

-- a signature is added
pub adds_accept : (names : List (Vec ℕ Global × Nid)) (accepts news : List Accept) (own : List (List ℕ)) (accept : Accept)
    → ((q : Accept) → list_any (eq_by_cmp accept_cmp q) news ≡ cond (is_eq (accept_cmp accept q)) true (list_any (eq_by_cmp accept_cmp q) accepts))
    → (old : Contents) → shown names accepts own ≡ old → Adds (accepted accept) old (shown names news own)
adds_accept names accepts news own accept put old view = record {
  follows = λ before e. tt;
  says = λ before e.
      let lines = before ++ accepted accept ∷ [] in
      let m = view ∙ e in
      same_contents (shown names news own) (contents_of lines)
      (ap (λ (c : Contents). c.names) m ∙ ap (λ es. fin.from_entries {R = slice_cmp nat_cmp} es) (sym (nil_append _ (names_in before) _ (names_in-append before (accepted accept ∷ [])) refl)))
      (inserted ∙ ap (λ (c : Contents). set.insert c.accepted accept) m
      ∙ sym (set.from_list_push accept_total accept_exact (accepts_in before) accept)
      ∙ ap (λ es. set.from_list {R = accept_cmp} es) (sym (accepts_in-append before (accepted accept ∷ []))))
      (ap (λ (c : Contents). c.own) m ∙ sym (nil_append _ (owned_in before) _ (owned_in-append before (accepted accept ∷ [])) refl));
}
  where
    inserted : set.from_list {R = accept_cmp} news ≡ set.insert (set.from_list accepts) accept
    inserted = set.same_set accept_total accept_exact (set.from_list news) (set.insert (set.from_list accepts) accept) (λ q.
        set.contains-from_list accept_total news q ∙ put q ∙ cond_or (is_eq (accept_cmp accept q)) (list_any (eq_by_cmp accept_cmp q) accepts)
        ∙ ap (λ b. b || list_any (eq_by_cmp accept_cmp q) accepts) ((eq_by_cmp_equiv accept_total).symm accept q)
        ∙ sym (set.contains-insert accept_total (set.from_list accepts) accept q ∙ ap (λ b. eq_by_cmp accept_cmp q accept || b) (set.contains-from_list accept_total accepts q)))

-- an own message is added
pub adds_own : (names : List (Vec ℕ Global × Nid)) (accepts : List Accept) (own news : List (List ℕ)) (message : List ℕ)
    → news ≡ own ++ message ∷ [] → (old : Contents) → shown names accepts own ≡ old → Adds (owned message) old (shown names accepts news)
adds_own names accepts own news message put old view = record {
  follows = λ before e. tt;
  says = λ before e.
      let lines = before ++ owned message ∷ [] in
      let m = view ∙ e in
      same_contents (shown names accepts news) (contents_of lines)
      (ap (λ (c : Contents). c.names) m ∙ ap (λ es. fin.from_entries {R = slice_cmp nat_cmp} es) (sym (nil_append _ (names_in before) _ (names_in-append before (owned message ∷ [])) refl)))
      (ap (λ (c : Contents). c.accepted) m ∙ ap (λ es. set.from_list {R = accept_cmp} es) (sym (nil_append _ (accepts_in before) _ (accepts_in-append before (owned message ∷ [])) refl)))
      (put ∙ ap (λ (c : Contents). c.own ++ message ∷ []) m ∙ sym (owned_in-append before (owned message ∷ [])));
}

-- ---- what the keyring answers

-- the name of a text
pub found_name : (names : List (Vec ℕ Global × Nid)) (accepts : List Accept) (own : List (List ℕ)) (keyring : Contents) (text : List ℕ)
    → shown names accepts own ≡ keyring → lookup (is_at (λ key. slice_cmp nat_cmp text key.items)) names ≡ fin.get keyring.names text
found_name names accepts own keyring text view =
    sym (lookup_by_text text names) ∙ sym (get_of_entries nat_list_cmp_total (by_text names) text)
    ∙ ap (λ (m : Contents). fin.get m.names text) view

-- whether a signature holds
pub found_accept : (names : List (Vec ℕ Global × Nid)) (accepts : List Accept) (own : List (List ℕ)) (keyring : Contents) (accept : Accept)
    → shown names accepts own ≡ keyring → list_any (eq_by_cmp accept_cmp accept) accepts ≡ set.contains keyring.accepted accept
found_accept names accepts own keyring accept view =
    sym (set.contains-from_list accept_total accepts accept) ∙ ap (λ (m : Contents). set.contains m.accepted accept) view
