-- Remotes of which some are replaced or added are one list.
use Rattle.std.proofs.Common.{◌≡◌, Bool, true, false, cond, List, [], ◌∷◌, Option, Some, None, refl, sym, ap, subst, ⊎_elim, ◌∙◌}
use Rattle.std.specs.Prelude.{Contains}
use Rattle.std.specs.Option.{option_or}
use Rattle.std.specs.BTreeMap.{insert_entry, is_at}
use Rattle.std.specs.Ordering.{match_ordering, ordering_reverse}
use Rattle.std.specs.declared.cmp.Ordering.{Ordering}
use Rattle.std.specs.declared.cmp.Ordering.TheVariants.{Less, Equal, Greater}
use Rattle.rad_base.specs.declared.names.Nid.{Nid}
use Rattle.rad_base.specs.declared.names.Oid.{Oid}
use Rattle.rad_base.specs.Order.{IsRising, commit_of, nid_cmp, node_of}
use Rattle.rad_base.proofs.Members.{contains_cases, contains_head, contains_one, contains_tail}
use Rattle.rad_base.proofs.NameOrder.{equal_from_is_eq, equals_itself, nid_exact, nid_total, not_below_itself}
use Rattle.rad_base.proofs.Options.{some_is}
use Rattle.rad_base.proofs.Lookups.{below_all, found_among}
use Rattle.rad_base.proofs.Rising.{rises_tail}
use Rattle.repo_slice.specs.Standing.{Replaces, next_commit, replaced}

-- ---- the order

-- a remote below all others may stand in front of them
rising_cons : (x : Nid × Oid) (xs : List (Nid × Oid)) → ((y : Nid × Oid) → Contains xs y → nid_cmp x.0 y.0 ≡ Less) → IsRising xs → IsRising (x ∷ xs)
rising_cons x [] h r = tt
rising_cons x (y ∷ ys) h r = (h y (contains_head y ys), r)

-- what holds of each key and of one more holds of each once it is put
keys_hold : (P : Nid → Type 0) (xs : List (Nid × Oid)) (k : Nid) (v : Oid) → ((x : Nid × Oid) → Contains xs x → P x.0) → P k
    → (y : Nid × Oid) → Contains (insert_entry nid_cmp xs k v) y → P y.0
keys_hold P [] k v each own y c = subst (λ (x : Nid × Oid). P x.0) (contains_one (k, v) y c) own
keys_hold P (e ∷ es) k v each own y c =
    by_order (λ (d : Contains (insert_entry nid_cmp es k v) y). keys_hold P es k v (λ x h. each x (behind x h)) own y d) (nid_cmp k e.0) c
  where
    behind : (x : Nid × Oid) → Contains es x → Contains (e ∷ es) x
    behind x h = contains_tail e es x h

    by_order : (Contains (insert_entry nid_cmp es k v) y → P y.0) → (o : Ordering)
        → Contains (match_ordering o ((k, v) ∷ e ∷ es) ((e.0, v) ∷ es) (e ∷ insert_entry nid_cmp es k v)) y → P y.0
    by_order later Less d =
        ⊎_elim (λ s. subst (λ (x : Nid × Oid). P x.0) s own) (λ h. each y h) (contains_cases (k, v) (e ∷ es) y d)
    by_order later Equal d =
        ⊎_elim (λ s. subst (λ (x : Nid × Oid). P x.0) s (each e (contains_head e es))) (λ h. each y (behind y h)) (contains_cases (e.0, v) es y d)
    by_order later Greater d =
        ⊎_elim (λ s. subst (λ (x : Nid × Oid). P x.0) s (each e (contains_head e es))) later (contains_cases e (insert_entry nid_cmp es k v) y d)

same_key : (e : Nid × Oid) (v : Oid) (es : List (Nid × Oid)) → IsRising (e ∷ es) → IsRising ((e.0, v) ∷ es)
same_key e v [] r = tt
same_key e v (y ∷ ys) r = r

-- remotes stay rising as one is put
rising_insert : (xs : List (Nid × Oid)) (k : Nid) (v : Oid) → IsRising xs → IsRising (insert_entry nid_cmp xs k v)
rising_insert [] k v r = tt
rising_insert (e ∷ es) k v r = by_order (rising_insert es k v (rises_tail node_of nid_cmp e es r)) (nid_cmp k e.0) refl
  where
    by_order : IsRising (insert_entry nid_cmp es k v) → (o : Ordering) → nid_cmp k e.0 ≡ o
        → IsRising (match_ordering o ((k, v) ∷ e ∷ es) ((e.0, v) ∷ es) (e ∷ insert_entry nid_cmp es k v))
    by_order later Less h = (h, r)
    by_order later Equal h = same_key e v es r
    by_order later Greater h =
        let above : nid_cmp e.0 k ≡ Less = nid_total.antisymm e.0 k ∙ ap ordering_reverse h in
        rising_cons e (insert_entry nid_cmp es k v) (keys_hold (λ (n : Nid). nid_cmp e.0 n ≡ Less) es k v (below_all e es r) above) later

-- ---- what is found

-- nothing is found below all keys
none_below : (node : Nid) (xs : List (Nid × Oid)) → ((y : Nid × Oid) → Contains xs y → nid_cmp node y.0 ≡ Less) → commit_of xs node ≡ None
none_below node xs h = by_found (commit_of xs node) refl
  where
    by_found : (o : Option Oid) → commit_of xs node ≡ o → commit_of xs node ≡ None
    by_found None e = e
    by_found (Some commit) e = absurd (not_below_itself node.0 (h (node, commit) (found_among xs node commit e)))

-- keys that are found at one node are one
both_at : (node a b : Nid) → is_at (nid_cmp node) a ≡ true → is_at (nid_cmp node) b ≡ true → a ≡ b
both_at node a b h k = sym (nid_exact node a (equal_from_is_eq _ h)) ∙ nid_exact node b (equal_from_is_eq _ k)

not_above_itself : (k : Nid) → nid_cmp k k ≡ Greater → ⊥
not_above_itself k h = not_below_itself k.0 (nid_total.antisymm k k ∙ ap ordering_reverse h)

at_own : (node : Nid) → is_at (nid_cmp node) node ≡ true
at_own node = equals_itself node.0

-- what is found once a remote is put
found_insert : (xs : List (Nid × Oid)) (k : Nid) (v : Oid) (node : Nid) → IsRising xs
    → commit_of (insert_entry nid_cmp xs k v) node ≡ cond (is_at (nid_cmp node) k) (Some v) (commit_of xs node)
found_insert [] k v node r = refl
found_insert (e ∷ es) k v node r = by_order (found_insert es k v node (rises_tail node_of nid_cmp e es r)) (nid_cmp k e.0) refl
  where
    equal_at : (b : Bool) → cond b (Some v) (commit_of es node) ≡ cond b (Some v) (cond b (Some e.1) (commit_of es node))
    equal_at true = refl
    equal_at false = refl

    greater_at : (a b : Bool) → (a ≡ true → b ≡ true → ⊥)
        → cond a (Some e.1) (cond b (Some v) (commit_of es node)) ≡ cond b (Some v) (cond a (Some e.1) (commit_of es node))
    greater_at true true other = absurd (other refl refl)
    greater_at true false other = refl
    greater_at false b other = refl

    by_order : commit_of (insert_entry nid_cmp es k v) node ≡ cond (is_at (nid_cmp node) k) (Some v) (commit_of es node)
        → (o : Ordering) → nid_cmp k e.0 ≡ o
        → commit_of (match_ordering o ((k, v) ∷ e ∷ es) ((e.0, v) ∷ es) (e ∷ insert_entry nid_cmp es k v)) node
        ≡ cond (is_at (nid_cmp node) k) (Some v) (commit_of (e ∷ es) node)
    by_order later Less h = refl
    by_order later Equal h =
        let same : e.0 ≡ k = sym (nid_exact k e.0 h) in
        ap (λ (n : Nid). cond (is_at (nid_cmp node) n) (Some v) (commit_of es node)) same
        ∙ equal_at (is_at (nid_cmp node) k)
        ∙ ap (λ (n : Nid). cond (is_at (nid_cmp node) k) (Some v) (cond (is_at (nid_cmp node) n) (Some e.1) (commit_of es node))) (sym same)
    by_order later Greater h =
        ap (λ (x : Option Oid). cond (is_at (nid_cmp node) e.0) (Some e.1) x) later
        ∙ greater_at (is_at (nid_cmp node) e.0) (is_at (nid_cmp node) k)
        (λ at own. not_above_itself k (subst (λ (n : Nid). nid_cmp k n ≡ Greater) (both_at node e.0 k at own) h))

-- ---- all of them

rising_replaced : (advanced old : List (Nid × Oid)) → IsRising old → IsRising (replaced old advanced)
rising_replaced [] old r = r
rising_replaced (p ∷ advanced) old r = rising_replaced advanced (insert_entry nid_cmp old p.0 p.1) (rising_insert old p.0 p.1 r)

found_replaced : (advanced old : List (Nid × Oid)) (node : Nid) → IsRising old → IsRising advanced
    → commit_of (replaced old advanced) node ≡ next_commit old advanced node
found_replaced [] old node r up = refl
found_replaced (p ∷ advanced) old node r up =
    found_replaced advanced (insert_entry nid_cmp old p.0 p.1) node (rising_insert old p.0 p.1 r) (rises_tail node_of nid_cmp p advanced up)
    ∙ ap (λ (x : Option Oid). option_or (commit_of advanced node) x) (found_insert old p.0 p.1 node r)
    ∙ by_test (is_at (nid_cmp node) p.0) refl
  where
    none : is_at (nid_cmp node) p.0 ≡ true → commit_of advanced node ≡ None
    none h =
        let same : node ≡ p.0 = nid_exact node p.0 (equal_from_is_eq _ h) in
        none_below node advanced (λ y c. subst (λ (n : Nid). nid_cmp n y.0 ≡ Less) (sym same) (below_all p advanced up y c))

    by_test : (b : Bool) → is_at (nid_cmp node) p.0 ≡ b
        → option_or (commit_of advanced node) (cond b (Some p.1) (commit_of old node)) ≡ option_or (cond b (Some p.1) (commit_of advanced node)) (commit_of old node)
    by_test true h = ap (λ (x : Option Oid). option_or x (Some p.1)) (none h)
    by_test false h = refl

-- the list has the remotes with exactly the advanced ones replaced or added
pub replaced_replaces : (old advanced : List (Nid × Oid)) → IsRising old → IsRising advanced → Replaces old advanced (replaced old advanced)
replaced_replaces old advanced r up = record { rising = rising_replaced advanced old r; commits = λ node. found_replaced advanced old node r up }

first_found : (x : Nid × Oid) (xs : List (Nid × Oid)) → commit_of (x ∷ xs) x.0 ≡ Some x.1
first_found x xs = ap (λ (b : Bool). cond b (Some x.1) (commit_of xs x.0)) (at_own x.0)

-- what is below the first is not among rising remotes
below_first : (node : Nid) (x : Nid × Oid) (xs : List (Nid × Oid)) → IsRising (x ∷ xs) → nid_cmp node x.0 ≡ Less → commit_of (x ∷ xs) node ≡ None
below_first node x xs r h =
    none_below node (x ∷ xs) (λ y c. ⊎_elim (λ s. subst (λ (z : Nid × Oid). nid_cmp node z.0 ≡ Less) s h)
    (λ d. nid_total.trans node x.0 y.0 h (below_all x xs r y d)) (contains_cases x xs y c))

-- the tail finds what the whole finds, but for the first
tail_finds : (x : Nid × Oid) (xs : List (Nid × Oid)) (node : Nid) → IsRising (x ∷ xs)
    → commit_of xs node ≡ cond (is_at (nid_cmp node) x.0) None (commit_of (x ∷ xs) node)
tail_finds x xs node r = by_test (is_at (nid_cmp node) x.0) refl
  where
    by_test : (b : Bool) → is_at (nid_cmp node) x.0 ≡ b → commit_of xs node ≡ cond b None (cond b (Some x.1) (commit_of xs node))
    by_test true h =
        let same : node ≡ x.0 = nid_exact node x.0 (equal_from_is_eq _ h) in
        none_below node xs (λ y c. subst (λ (n : Nid). nid_cmp n y.0 ≡ Less) (sym same) (below_all x xs r y c))
    by_test false h = refl

same_pair : (x y : Nid × Oid) → x.0 ≡ y.0 → x.1 ≡ y.1 → x ≡ y
same_pair x y e f = (λ i. (e i, f i))

nothing_is_some : (commit : Oid) → None ≡ Some commit → ⊥
nothing_is_some commit e = cc e

-- rising remotes in which the same is found are one
pub same_remotes : (xs ys : List (Nid × Oid)) → IsRising xs → IsRising ys → ((node : Nid) → commit_of xs node ≡ commit_of ys node) → xs ≡ ys
same_remotes [] [] r up same = refl
same_remotes [] (y ∷ ys) r up same = absurd (nothing_is_some y.1 (same y.0 ∙ first_found y ys))
same_remotes (x ∷ xs) [] r up same = absurd (nothing_is_some x.1 (sym (same x.0) ∙ first_found x xs))
same_remotes (x ∷ xs) (y ∷ ys) r up same = by_order (same_remotes xs ys (rises_tail node_of nid_cmp x xs r) (rises_tail node_of nid_cmp y ys up)) (nid_cmp x.0 y.0) refl
  where
    by_order : (((node : Nid) → commit_of xs node ≡ commit_of ys node) → xs ≡ ys) → (o : Ordering) → nid_cmp x.0 y.0 ≡ o → x ∷ xs ≡ y ∷ ys
    by_order later Less h = absurd (nothing_is_some x.1 (sym (below_first x.0 y ys up h) ∙ sym (same x.0) ∙ first_found x xs))
    by_order later Greater h =
        let above : nid_cmp y.0 x.0 ≡ Less = nid_total.antisymm y.0 x.0 ∙ ap ordering_reverse h in
        absurd (nothing_is_some y.1 (sym (below_first y.0 x xs r above) ∙ same y.0 ∙ first_found y ys))
    by_order later Equal h =
        let key : x.0 ≡ y.0 = nid_exact x.0 y.0 h in
        let value : x.1 ≡ y.1 = some_is x.1 y.1 (sym (first_found x xs) ∙ same x.0 ∙ ap (commit_of (y ∷ ys)) key ∙ first_found y ys) in
        let rest : xs ≡ ys = later (λ node. tail_finds x xs node r
        ∙ ap (λ (o : Option Oid). cond (is_at (nid_cmp node) x.0) None o) (same node)
        ∙ ap (λ (n : Nid). cond (is_at (nid_cmp node) n) None (commit_of (y ∷ ys) node)) key
        ∙ sym (tail_finds y ys node up)) in
        ap (λ (z : Nid × Oid). z ∷ xs) (same_pair x y key value) ∙ ap (λ (l : List (Nid × Oid)). y ∷ l) rest

-- so the list is the only one
pub one_replaced : (old advanced new : List (Nid × Oid)) → IsRising old → IsRising advanced → Replaces old advanced new → new ≡ replaced old advanced
one_replaced old advanced new r up h =
    same_remotes new (replaced old advanced) h.rising (rising_replaced advanced old r) (λ node. h.commits node ∙ sym (found_replaced advanced old node r up))
