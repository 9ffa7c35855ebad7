-- Remotes that are put into a map in order.
use Rattle.std.proofs.Common.{◌≡◌, Bool, true, false, cond, List, [], ◌∷◌, ◌++◌, Option, Some, None, refl, sym, ap, ◌∙◌}
use Rattle.std.specs.Prelude.{Contains}
use Rattle.std.specs.Option.{option_or}
use Rattle.std.specs.BTreeMap.{is_at}
use Rattle.std.specs.Map.{keys_of}
use Rattle.std.specs.List.Sorted.{IsStrictlySortedBy}
use Rattle.std.specs.declared.cmp.Ordering.TheVariants.{Less}
use Rattle.std.proofs.lemmas.Cmp.{eq_by_cmp_equiv}
use Rattle.rad_base.specs.declared.names.Nid.{Nid}
use Rattle.rad_base.specs.declared.names.Oid.{Oid}
use Rattle.rad_base.specs.Order.{IsRising, nid_cmp}
use Rattle.rad_base.proofs.NameOrder.{equal_from_is_eq, nid_exact, nid_total, not_below_itself}
use Rattle.rad_base.specs.Order.{commit_of}
use Rattle.rad_base.proofs.Lookups.{found_among}

-- one remote behind others
commit_append : (xs : List (Nid × Oid)) (p : Nid × Oid) (node : Nid)
    → commit_of (xs ++ p ∷ []) node ≡ option_or (commit_of xs node) (cond (is_at (nid_cmp node) p.0) (Some p.1) None)
commit_append [] p node = refl
commit_append (x ∷ xs) p node = by_test (commit_append xs p node) (is_at (nid_cmp node) x.0)
  where
    by_test : commit_of (xs ++ p ∷ []) node ≡ option_or (commit_of xs node) (cond (is_at (nid_cmp node) p.0) (Some p.1) None)
        → (b : Bool) → cond b (Some x.1) (commit_of (xs ++ p ∷ []) node) ≡ option_or (cond b (Some x.1) (commit_of xs node)) (cond (is_at (nid_cmp node) p.0) (Some p.1) None)
    by_test later true = refl
    by_test later false = later

no_more : (o : Option Oid) → option_or o None ≡ o
no_more None = refl
no_more (Some x) = refl

-- a key above all has no remote
none_above : (xs : List (Nid × Oid)) (node : Nid) → ((x : Nid × Oid) → Contains xs x → nid_cmp x.0 node ≡ Less) → commit_of xs node ≡ None
none_above xs node below = by_found (commit_of xs node) refl
  where
    by_found : (o : Option Oid) → commit_of xs node ≡ o → commit_of xs node ≡ None
    by_found None e = e
    by_found (Some commit) e = absurd (not_below_itself node.0 (below (node, commit) (found_among xs node commit e)))

-- one remote more is put into the map
pub put_turn : (before : Option Oid) (xs : List (Nid × Oid)) (p : Nid × Oid) (old new : Option Oid) (node : Nid)
    → ((x : Nid × Oid) → Contains xs x → nid_cmp x.0 p.0 ≡ Less)
    → old ≡ option_or (commit_of xs node) before → new ≡ cond (is_at (nid_cmp p.0) node) (Some p.1) old
    → new ≡ option_or (commit_of (xs ++ p ∷ []) node) before
put_turn before xs p old new node below was is = is ∙ by_test (is_at (nid_cmp p.0) node) refl ∙ ap (λ (o : Option Oid). option_or o before) (sym (commit_append xs p node))
  where
    turned : is_at (nid_cmp node) p.0 ≡ is_at (nid_cmp p.0) node
    turned = (eq_by_cmp_equiv nid_total).symm node p.0

    by_test : (b : Bool) → is_at (nid_cmp p.0) node ≡ b
        → cond (is_at (nid_cmp p.0) node) (Some p.1) old ≡ option_or (option_or (commit_of xs node) (cond (is_at (nid_cmp node) p.0) (Some p.1) None)) before
    by_test true h =
        let same : p.0 ≡ node = nid_exact p.0 node (equal_from_is_eq _ h) in
        let none : commit_of xs node ≡ None = ap (commit_of xs) (sym same) ∙ none_above xs p.0 below in
        rw (turned, h, none) refl
    by_test false h = rw (turned, h, no_more (commit_of xs node)) was

-- keys in order rise
pub rising_from_ordered : (es : List (Nid × Oid)) → IsStrictlySortedBy nid_cmp (keys_of es) → IsRising es
unfolding IsStrictlySortedBy
rising_from_ordered [] h = tt
rising_from_ordered (x ∷ []) h = tt
rising_from_ordered (x ∷ y ∷ es) h = (h.0.0, rising_from_ordered (y ∷ es) h.1)
