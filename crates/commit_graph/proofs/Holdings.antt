-- What a store in memory holds, by look-ups, and what is there as names are staged and let go.
use Rattle.std.proofs.Common.{◌≡◌, ℕ, Bool, true, false, cond, List, [], ◌∷◌, ◌++◌, Option, Some, None, option_map, refl, sym, ap, subst, ◌∙◌}
use Rattle.std.specs.Prelude.{filter, not}
use Rattle.std.specs.List.{AllByRecursion}
use Rattle.std.specs.Map.{lookup, remove_entry}
use Rattle.std.specs.Option.{is_some, option_or}
use Rattle.std.specs.Ordering.{match_ordering}
use Rattle.std.specs.declared.cmp.Ordering.{Ordering}
use Rattle.std.specs.declared.cmp.Ordering.TheVariants.{Less, Equal, Greater}
use Rattle.std.specs.BTreeMap.{BTreeMap, get, insert_entry, is_at}
use Rattle.std.specs.BTreeSet.{BTreeSet, IsEmpty, contains}
use Rattle.std.proofs.lemmas.Bool.{false≢true}
use Rattle.std.proofs.lemmas.Cmp.{eq_by_cmp_equiv}
use Rattle.rad_base.specs.declared.names.Oid.{Oid}
use Rattle.rad_base.specs.Order.{oid_cmp}
use Rattle.rad_base.proofs.NameOrder.{equal_from_is_eq, oid_exact, oid_total}
use Rattle.git_object.specs.Names.{name}
use Rattle.git_object.specs.declared.kind.Kind.{Kind}
use Rattle.commit_graph.specs.Objects.{Object}
use Rattle.commit_graph.specs.InMemory.{objects_in}
use Rattle.commit_graph.specs.declared.memory.Held.{Held}
use Rattle.commit_graph.specs.Memory.{AreNamed, is_there, object_of, held_objects}
use Rattle.commit_graph.proofs.Named.{objects_behind}

-- what a test of the names lets through, by a look-up
pub found_by : (p : Oid → Bool) (es : List (Oid × Held)) → AreNamed es → (oid : Oid)
    → objects_in (held_objects (filter (λ e. p e.0) es)) oid ≡ cond (p oid) (option_map object_of (lookup (is_at (oid_cmp oid)) es)) None
found_by p [] named oid = by_test (p oid)
  where
    by_test : (b : Bool) → None ≡ cond b (option_map object_of (lookup (is_at (oid_cmp oid)) [])) None
    by_test true = refl
    by_test false = refl
found_by p (e ∷ es) named oid = by_tests (found_by p es named.1 oid) (p e.0) refl (is_at (oid_cmp oid) e.0) refl
  where
    key : is_at (oid_cmp oid) (name e.1.kind e.1.bytes.items) ≡ is_at (oid_cmp oid) e.0
    key = ap (λ (o : Oid). is_at (oid_cmp oid) o) named.0

    by_tests : objects_in (held_objects (filter (λ x. p x.0) es)) oid ≡ cond (p oid) (option_map object_of (lookup (is_at (oid_cmp oid)) es)) None
        → (b : Bool) → p e.0 ≡ b → (k : Bool) → is_at (oid_cmp oid) e.0 ≡ k
        → objects_in (held_objects (filter (λ x. p x.0) (e ∷ es))) oid ≡ cond (p oid) (option_map object_of (lookup (is_at (oid_cmp oid)) (e ∷ es))) None
    by_tests rest true h true k =
        let same : oid ≡ e.0 = oid_exact oid e.0 (equal_from_is_eq _ k) in
        let here : p oid ≡ true = ap p same ∙ h in
        rw (h, key, k, here) refl
    by_tests rest true h false k = rw (h, key, k) rest
    by_tests rest false h true k =
        let same : oid ≡ e.0 = oid_exact oid e.0 (equal_from_is_eq _ k) in
        let here : p oid ≡ false = ap p same ∙ h in
        rw (h, k, here) (rest ∙ ap (λ (b : Bool). cond b (option_map object_of (lookup (is_at (oid_cmp oid)) es)) None) here)
    by_tests rest false h false k = rw (h, k) rest

-- what is there, by a look-up
pub found_there : (staged : BTreeSet Oid) (es : List (Oid × Held)) → AreNamed es → (oid : Oid)
    → objects_in (held_objects (filter (is_there staged) es)) oid ≡ cond (not (contains oid_cmp staged oid)) (option_map object_of (lookup (is_at (oid_cmp oid)) es)) None
found_there staged es named oid = found_by (λ o. not (contains oid_cmp staged o)) es named oid

-- a test that lets all through
filter_all : (es : List (Oid × Held)) → filter (λ _. true) es ≡ es
filter_all [] = refl
filter_all (e ∷ es) = ap (λ (l : List (Oid × Held)). e ∷ l) (filter_all es)

-- what is held, by a look-up
pub found_held : (es : List (Oid × Held)) → AreNamed es → (oid : Oid)
    → objects_in (held_objects es) oid ≡ option_map object_of (lookup (is_at (oid_cmp oid)) es)
found_held es named oid = ap (λ (l : List (Oid × Held)). objects_in (held_objects l) oid) (sym (filter_all es)) ∙ found_by (λ _. true) es named oid

-- ---- one object more

-- equal names, read either way
turned : (a b : Oid) → is_at (oid_cmp a) b ≡ is_at (oid_cmp b) a
turned a b = (eq_by_cmp_equiv oid_total).symm a b

same_name : (a b : Oid) → is_at (oid_cmp a) b ≡ true → a ≡ b
same_name a b h = oid_exact a b (equal_from_is_eq _ h)

-- entries with one more, or a new value at a key
pub named_insert : (es : List (Oid × Held)) (oid : Oid) (held : Held) → AreNamed es → name held.kind held.bytes.items ≡ oid → AreNamed (insert_entry oid_cmp es oid held)
named_insert [] oid held named is = (is, tt)
named_insert (e ∷ es) oid held named is = by_order (named_insert es oid held named.1 is) (oid_cmp oid e.0) refl
  where
    by_order : AreNamed (insert_entry oid_cmp es oid held) → (o : Ordering) → oid_cmp oid e.0 ≡ o
        → AreNamed (match_ordering o ((oid, held) ∷ e ∷ es) ((e.0, held) ∷ es) (e ∷ insert_entry oid_cmp es oid held))
    by_order later Less h = (is, named)
    by_order later Equal h = (is ∙ oid_exact oid e.0 h, named.1)
    by_order later Greater h = (named.0, later)

-- entries without one
pub named_remove : (es : List (Oid × Held)) (test : Oid → Bool) → AreNamed es → AreNamed (remove_entry test es)
named_remove [] test named = named
named_remove (e ∷ es) test named = by_test (named_remove es test named.1) (test e.0)
  where
    by_test : AreNamed (remove_entry test es) → (b : Bool) → AreNamed (cond b es (e ∷ remove_entry test es))
    by_test later true = named.1
    by_test later false = (named.0, later)

is_some_mapped : (o : Option Held) → is_some (option_map object_of o) ≡ is_some o
is_some_mapped None = refl
is_some_mapped (Some x) = refl

-- an object that is held under its name is not put again
pub put_again : (held : BTreeMap Oid Held) (oid : Oid) (kind : Kind) (bytes : List ℕ) → oid ≡ name kind bytes → AreNamed held.entries → is_some (get oid_cmp held oid) ≡ true
    → objects_in (held_objects held.entries) ≡ objects_in (held_objects held.entries ++ (kind, bytes) ∷ [])
put_again held oid kind bytes is named there = λ i q. (by_name q (is_at (oid_cmp q) oid) refl (objects_in (held_objects held.entries) q) refl) i
  where
    by_name : (q : Oid) (b : Bool) → is_at (oid_cmp q) oid ≡ b → (o : Option Object) → objects_in (held_objects held.entries) q ≡ o
        → objects_in (held_objects held.entries) q ≡ objects_in (held_objects held.entries ++ (kind, bytes) ∷ []) q
    by_name q b h (Some x) e = rw (objects_behind (held_objects held.entries) ((kind, bytes) ∷ []) q, e) refl
    by_name q false h None e = rw (objects_behind (held_objects held.entries) ((kind, bytes) ∷ []) q, e, ← is, h) refl
    by_name q true h None e =
        let some : is_some (option_map object_of (get oid_cmp held q)) ≡ false = ap is_some (sym (found_held held.entries named q) ∙ e) in
        let at : is_some (get oid_cmp held q) ≡ true = ap (λ (o : Oid). is_some (get oid_cmp held o)) (same_name q oid h) ∙ there in
        absurd (false≢true (sym some ∙ is_some_mapped (get oid_cmp held q) ∙ at))

or_nothing : (o : Option Object) → option_or o None ≡ o
or_nothing None = refl
or_nothing (Some x) = refl

-- a new object is there once it is admitted
pub staged_pending : (held held' : BTreeMap Oid Held) (oid : Oid) (object : Held) → name object.kind object.bytes.items ≡ oid → AreNamed held.entries → AreNamed held'.entries
    → get oid_cmp held oid ≡ None
    → ((q : Oid) → get oid_cmp held' q ≡ cond (is_at (oid_cmp oid) q) (Some object) (get oid_cmp held q))
    → objects_in (held_objects held'.entries) ≡ objects_in (held_objects held.entries ++ object_of object ∷ [])
staged_pending held held' oid object is named named' absent puts = λ i q.
    (found_held held'.entries named' q ∙ by_name q (is_at (oid_cmp oid) q) refl ∙ sym (objects_behind (held_objects held.entries) (object_of object ∷ []) q)) i
  where
    by_name : (q : Oid) (b : Bool) → is_at (oid_cmp oid) q ≡ b
        → option_map object_of (get oid_cmp held' q) ≡ option_or (objects_in (held_objects held.entries) q) (cond (is_at (oid_cmp q) (name object.kind object.bytes.items)) (Some (object_of object)) None)
    by_name q true h =
        let none : get oid_cmp held q ≡ None = ap (get oid_cmp held) (sym (same_name oid q h)) ∙ absent in
        rw (found_held held.entries named q, puts q, h, none, is, turned q oid, h) refl
    by_name q false h = rw (found_held held.entries named q, puts q, h, is, turned q oid, h) (sym (or_nothing (option_map object_of (get oid_cmp held q))))

-- nothing is staged, so all is there
pub all_there : (staged : BTreeSet Oid) (es : List (Oid × Held)) → ((q : Oid) → contains oid_cmp staged q ≡ false) → filter (is_there staged) es ≡ es
all_there staged [] none = refl
all_there staged (e ∷ es) none = rw (none e.0) (ap (λ (l : List (Oid × Held)). e ∷ l) (all_there staged es none))

pub none_in : (set : BTreeSet Oid) → IsEmpty set → (q : Oid) → contains oid_cmp set q ≡ false
none_in set empty q = rw empty refl

-- a key of which the map has nothing
pub absent_from : (o : Option Held) → is_some o ≡ false → o ≡ None
absent_from None e = refl
absent_from (Some x) e = absurd (false≢true (sym e))

-- entries without one, as they were left
pub named_removed : (es fs : List (Oid × Held)) (test : Oid → Bool) → fs ≡ remove_entry test es
    → AreNamed es → AreNamed fs
named_removed es fs test e named = subst AreNamed (sym e) (named_remove es test named)

-- ---- what is there stays as names are staged and let go

-- no entry has the name
abbrev pub Lacks : Oid → List (Oid × Held) → Type 0
Lacks oid es = AllByRecursion (λ e. is_at (oid_cmp oid) e.0 ≡ false) es

pub lacks_by : (oid : Oid) (es : List (Oid × Held)) → lookup (is_at (oid_cmp oid)) es ≡ None
    → Lacks oid es
lacks_by oid [] none = tt
lacks_by oid (e ∷ es) none = by_key (lacks_by oid es) (is_at (oid_cmp oid) e.0) refl none
  where
    by_key : (lookup (is_at (oid_cmp oid)) es ≡ None → Lacks oid es) → (b : Bool)
        → is_at (oid_cmp oid) e.0 ≡ b → cond b (Some e.1) (lookup (is_at (oid_cmp oid)) es) ≡ None
        → Lacks oid (e ∷ es)
    by_key later true h none = cc none
    by_key later false h none = (h, later none)

-- the sets have the same names but for one
abbrev pub SameBut : Oid → BTreeSet Oid → BTreeSet Oid → Type 0
SameBut oid a b = (q : Oid) → is_at (oid_cmp oid) q ≡ false → contains oid_cmp a q ≡ contains oid_cmp b q

-- entries that lack the name are there alike
there_alike : (oid : Oid) (a b : BTreeSet Oid) (es : List (Oid × Held)) → SameBut oid a b
    → Lacks oid es → filter (is_there a) es ≡ filter (is_there b) es
there_alike oid a b [] same lacks = refl
there_alike oid a b (e ∷ es) same lacks =
    rw (same e.0 lacks.0)
    (ap (λ (l : List (Oid × Held)). cond (not (contains oid_cmp b e.0)) (e ∷ l) l) (there_alike oid a b es same lacks.1))

-- a new name that is staged is not there
pub there_staged : (oid : Oid) (held : Held) (staged staged' : BTreeSet Oid)
    (es : List (Oid × Held)) → SameBut oid staged' staged → contains oid_cmp staged' oid ≡ true
    → Lacks oid es → filter (is_there staged') (insert_entry oid_cmp es oid held) ≡ filter (is_there staged) es
there_staged oid held staged staged' [] same marked lacks = rw marked refl
there_staged oid held staged staged' (e ∷ es) same marked lacks =
    by_order (there_staged oid held staged staged' es same marked lacks.1) (oid_cmp oid e.0) refl
  where
    by_order : filter (is_there staged') (insert_entry oid_cmp es oid held) ≡ filter (is_there staged) es
        → (o : Ordering) → oid_cmp oid e.0 ≡ o
        → filter (is_there staged') (match_ordering o ((oid, held) ∷ e ∷ es) ((e.0, held) ∷ es) (e ∷ insert_entry oid_cmp es oid held)) ≡ filter (is_there staged) (e ∷ es)
    by_order later Less h = rw marked (there_alike oid staged' staged (e ∷ es) same lacks)
    by_order later Equal h = absurd (false≢true (sym lacks.0 ∙ rw h refl))
    by_order later Greater h =
        rw (same e.0 lacks.0)
        (ap (λ (l : List (Oid × Held)). cond (not (contains oid_cmp staged e.0)) (e ∷ l) l) later)

-- a staged name that is let go was not there
pub there_dropped : (oid : Oid) (staged staged' : BTreeSet Oid) (es : List (Oid × Held))
    → SameBut oid staged' staged → contains oid_cmp staged oid ≡ true
    → Lacks oid (remove_entry (is_at (oid_cmp oid)) es)
    → filter (is_there staged') (remove_entry (is_at (oid_cmp oid)) es) ≡ filter (is_there staged) es
there_dropped oid staged staged' [] same marked lacks = refl
there_dropped oid staged staged' (e ∷ es) same marked lacks =
    by_key (there_dropped oid staged staged' es same marked) (is_at (oid_cmp oid) e.0) refl lacks
  where
    by_key : (Lacks oid (remove_entry (is_at (oid_cmp oid)) es) → filter (is_there staged') (remove_entry (is_at (oid_cmp oid)) es) ≡ filter (is_there staged) es)
        → (b : Bool) → is_at (oid_cmp oid) e.0 ≡ b
        → Lacks oid (cond b es (e ∷ remove_entry (is_at (oid_cmp oid)) es))
        → filter (is_there staged') (cond b es (e ∷ remove_entry (is_at (oid_cmp oid)) es)) ≡ filter (is_there staged) (e ∷ es)
    by_key later true h lacks =
        let marks : contains oid_cmp staged e.0 ≡ true = ap (contains oid_cmp staged) (sym (same_name oid e.0 h)) ∙ marked in
        rw marks (there_alike oid staged' staged es same lacks)
    by_key later false h lacks =
        rw (same e.0 h)
        (ap (λ (l : List (Oid × Held)). cond (not (contains oid_cmp staged e.0)) (e ∷ l) l) (later lacks.1))

-- ---- as the calls leave them

same_at : (oid : Oid) → is_at (oid_cmp oid) oid ≡ true
same_at oid = (eq_by_cmp_equiv oid_total).refl oid

module _ (held held' : BTreeMap Oid Held) (staged staged' : BTreeSet Oid) (oid : Oid) where
  -- one more is held, and staged
  pub stage_there : (object : Held) → get oid_cmp held oid ≡ None
      → held'.entries ≡ insert_entry oid_cmp held.entries oid object
      → ((q : Oid) → contains oid_cmp staged' q ≡ cond (is_at (oid_cmp oid) q) true (contains oid_cmp staged q))
      → filter (is_there staged') held'.entries ≡ filter (is_there staged) held.entries
  stage_there object absent puts marks =
      rw puts
      (there_staged oid object staged staged' held.entries (λ q h. marks q ∙ rw h refl) (marks oid ∙ rw (same_at oid) refl)
      (lacks_by oid held.entries absent))

  -- one that was staged is held no more
  pub unstage_there : contains oid_cmp staged oid ≡ true
      → held'.entries ≡ remove_entry (is_at (oid_cmp oid)) held.entries
      → ((q : Oid) → get oid_cmp held' q ≡ cond (is_at (oid_cmp oid) q) None (get oid_cmp held q))
      → ((q : Oid) → contains oid_cmp staged' q ≡ cond (is_at (oid_cmp oid) q) false (contains oid_cmp staged q))
      → filter (is_there staged') held'.entries ≡ filter (is_there staged) held.entries
  unstage_there marked drops gone marks =
      let lacks : Lacks oid held'.entries = lacks_by oid held'.entries (gone oid ∙ rw (same_at oid) refl) in
      rw drops
      (there_dropped oid staged staged' held.entries (λ q h. marks q ∙ rw h refl) marked (subst (Lacks oid) drops lacks))

-- one was staged and let go again
pub same_there : (staged mid staged' : BTreeSet Oid) (oid : Oid) (held : BTreeMap Oid Held)
    → get oid_cmp held oid ≡ None
    → ((q : Oid) → contains oid_cmp mid q ≡ cond (is_at (oid_cmp oid) q) true (contains oid_cmp staged q))
    → ((q : Oid) → contains oid_cmp staged' q ≡ cond (is_at (oid_cmp oid) q) false (contains oid_cmp mid q))
    → filter (is_there staged') held.entries ≡ filter (is_there staged) held.entries
same_there staged mid staged' oid held absent adds drops =
    there_alike oid staged' staged held.entries (λ q h. drops q ∙ rw h (adds q ∙ rw h refl)) (lacks_by oid held.entries absent)
