-- What a binary search by key finds among rising remotes.
use Rattle.std.proofs.Common.{◌≡◌, ℕ, ◌<◌, ◌≤◌, List, length, get_or, Option, None, Some, refl, ap, subst, ⊎_elim, ◌∙◌, arith}
use Rattle.std.specs.List.Sorted.{IsNonDecreasingBy, IsPartitionPoint}
use Rattle.std.specs.Ordering.{ordering_index, ordering_reverse}
use Rattle.std.specs.declared.cmp.Ordering.{Ordering}
use Rattle.std.specs.declared.cmp.Ordering.TheVariants.{Less, Equal, Greater}
use Rattle.std.proofs.lemmas.Bool.{cases_lt}
use Rattle.std.proofs.lemmas.Option.{slice_get-get_or}
use Rattle.rad_base.specs.declared.names.Nid.{Nid}
use Rattle.rad_base.specs.declared.names.Oid.{Oid}
use Rattle.rad_base.specs.Order.{IsRising, commit_of, nid_cmp, node_of}
use Rattle.rad_base.proofs.Members.{contains_at}
use Rattle.rad_base.proofs.NameOrder.{nid_exact, nid_total, not_below_itself}
use Rattle.rad_base.proofs.Lookups.{among_found, found_among}
use Rattle.rad_base.proofs.Rising.{rises_searched}

-- a place of an equal key is that of the node's remote
pub searched_found : (xs : List (Nid × Oid)) (node : Nid) (i : ℕ) (d : Nid × Oid) → IsRising xs → i < length xs → nid_cmp (get_or xs i d).0 node ≡ Equal
    → commit_of xs node ≡ Some (get_or xs i d).1
searched_found xs node i d r inside equal =
    let x = get_or xs i d in
    subst (λ (n : Nid). commit_of xs n ≡ Some x.1) (nid_exact x.0 node equal)
    (among_found xs x.0 x.1 r (contains_at xs i x (slice_get-get_or xs i d inside)))

apart_here : (node : Nid) (x : Nid × Oid) → x.0 ≡ node → (o : Ordering) → nid_cmp x.0 node ≡ o → (o ≡ Equal → ⊥) → ⊥
apart_here node x same Less h other = not_below_itself node.0 (subst (λ (n : Nid). nid_cmp n node ≡ Less) same h)
apart_here node x same Equal h other = other refl
apart_here node x same Greater h other =
    not_below_itself node.0 (subst (λ (n : Nid). nid_cmp node n ≡ Less) same (nid_total.antisymm node x.0 ∙ ap ordering_reverse h))

-- between lesser and greater keys there is none
pub searched_none : (xs : List (Nid × Oid)) (node : Nid) (i : ℕ) → IsRising xs
    → (IsNonDecreasingBy (λ y. ordering_index (nid_cmp y.0 node)) xs → IsPartitionPoint (λ y. nid_cmp y.0 node ≡ Less) (λ y. nid_cmp y.0 node ≡ Greater) xs i)
    → commit_of xs node ≡ None
searched_none xs node i r parts = by_found (commit_of xs node) refl
  where
    by_found : (o : Option Oid) → commit_of xs node ≡ o → commit_of xs node ≡ None
    by_found None e = e
    by_found (Some commit) e =
        let c = found_among xs node commit e in
        let x = get_or xs c.0 (node, commit) in
        let same : x.0 ≡ node = ap (λ (y : Nid × Oid). y.0) c.2 in
        let at = parts (rises_searched node_of nid_cmp nid_total xs node r) in
        absurd (⊎_elim
        (λ (below : c.0 < i). apart_here node x same Less (at.0 c.0 (node, commit) (omega arith) below) (λ h. cc h))
        (λ (above : i ≤ c.0). apart_here node x same Greater (at.1 c.0 (node, commit) above c.1) (λ h. cc h))
        (cases_lt c.0 i))
