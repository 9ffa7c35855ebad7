-- Names in a map by the bytes of their texts.
use Rattle.rad_base.proofs.NameOrder.{equal_from_is_eq}
use Rattle.std.proofs.Common.{◌≡◌, ℕ, Bool, true, false, cond, List, [], ◌∷◌, Vec, Option, Some, None, refl, sym, ap, ◌∙◌}
use Rattle.std.specs.declared.alloc.Global.{Global}
use Rattle.std.specs.declared.cmp.Ordering.{Ordering}
use Rattle.std.specs.declared.cmp.Ordering.TheVariants.{Less, Equal, Greater}
use Rattle.std.specs.Cmp.{IsTotalOrder}
use Rattle.std.specs.Cmp.Lexicographic.{slice_cmp}
use Rattle.std.specs.Ordering.{is_eq, match_ordering, nat_cmp}
use Rattle.std.specs.Map.{lookup}
use Rattle.std.specs.BTreeMap.{insert_entry, is_at}
use Rattle.std.specs.FinMap.{from_entries, insert}
use Rattle.std.proofs.lemmas.Cmp.{eq_by_cmp_equiv, nat_list_cmp_total}
use Rattle.std.proofs.lemmas.Map.Lookups.{CmpEqualImpliesEq, exact_bytes}
use Rattle.rad_base.specs.declared.names.Nid.{Nid}
use Rattle.rad_base.proofs.KeyedMaps.{one_given}
use Rattle.keyring.specs.Readers.{by_text}

-- a text is found by its bytes
pub lookup_by_text : (text : List ℕ) (names : List (Vec ℕ Global × Nid))
    → lookup (is_at (slice_cmp nat_cmp text)) (by_text names) ≡ lookup (is_at (λ key. slice_cmp nat_cmp text key.items)) names
lookup_by_text text [] = refl
lookup_by_text text (name ∷ names) = ap (cond (is_eq (slice_cmp nat_cmp text name.0.items)) (Some name.1)) (lookup_by_text text names)

abbrev vec_cmp : Vec ℕ Global → Vec ℕ Global → Ordering
vec_cmp a b = slice_cmp nat_cmp a.items b.items

-- one step of a put, by how the text compares with the first
put_step : (o : Ordering) (name : Vec ℕ Global × Nid) (names put : List (Vec ℕ Global × Nid)) (text : Vec ℕ Global) (key : Nid) (rest : List (List ℕ × Nid))
    → by_text put ≡ rest
    → by_text (match_ordering o ((text, key) ∷ name ∷ names) ((name.0, key) ∷ names) (name ∷ put))
    ≡ match_ordering o ((text.items, key) ∷ by_text (name ∷ names)) ((name.0.items, key) ∷ by_text names) ((name.0.items, name.1) ∷ rest)
put_step Less name names put text key rest h = refl
put_step Equal name names put text key rest h = refl
put_step Greater name names put text key rest h = ap (λ (l : List (List ℕ × Nid)). (name.0.items, name.1) ∷ l) h

-- a text is put in its place by its bytes
by_text-insert_entry : (names : List (Vec ℕ Global × Nid)) (text : Vec ℕ Global) (key : Nid)
    → by_text (insert_entry vec_cmp names text key) ≡ insert_entry (slice_cmp nat_cmp) (by_text names) text.items key
by_text-insert_entry [] text key = refl
by_text-insert_entry (name ∷ names) text key =
    put_step (vec_cmp text name.0) name names (insert_entry vec_cmp names text key) text key _ (by_text-insert_entry names text key)

over : {X : Type 0} (b : Bool) (x y : X) (z : Option X) → cond b (Some x) z ≡ cond b (Some x) (cond b (Some y) z)
over true x y z = refl
over false x y z = refl

beside : {X : Type 0} (b c : Bool) (x y : X) (z : Option X) → (b ≡ true → c ≡ false) → cond b (Some y) (cond c (Some x) z) ≡ cond c (Some x) (cond b (Some y) z)
beside true true x y z h = let bad : true ≡ false = h refl in cc bad
beside true false x y z h = refl
beside false c x y z h = refl

module _ {K : Type 0} (R : K → K → Ordering) (total : IsTotalOrder R) (exact : CmpEqualImpliesEq R) where
  same_way : (k q : K) → is_eq (R q k) ≡ is_eq (R k q)
  same_way k q = (eq_by_cmp_equiv total).symm q k

  -- one step of a search, by how the key that was put compares with the first
  found_step : {X : Type 0} (o : Ordering) (k q : K) (v : X) (e : K × X) (es put : List (K × X)) → R k e.0 ≡ o
      → lookup (is_at (R q)) put ≡ cond (is_eq (R k q)) (Some v) (lookup (is_at (R q)) es)
      → lookup (is_at (R q)) (match_ordering o ((k, v) ∷ e ∷ es) ((e.0, v) ∷ es) (e ∷ put))
      ≡ cond (is_eq (R k q)) (Some v) (cond (is_eq (R q e.0)) (Some e.1) (lookup (is_at (R q)) es))
  found_step Less k q v e es put h ih = ap (λ b. cond b (Some v) (cond (is_eq (R q e.0)) (Some e.1) (lookup (is_at (R q)) es))) (same_way k q)
  found_step Equal k q v e es put h ih =
      let same : is_eq (R q e.0) ≡ is_eq (R k q) = ap (λ x. is_eq (R q x)) (sym (exact k e.0 h)) ∙ same_way k q in
      rw same (over (is_eq (R k q)) v e.1 (lookup (is_at (R q)) es))
  found_step Greater k q v e es put h ih =
      ap (cond (is_eq (R q e.0)) (Some e.1)) ih
      ∙ beside (is_eq (R q e.0)) (is_eq (R k q)) v e.1 (lookup (is_at (R q)) es)
      (λ there. ap (λ x. is_eq (R k x)) (exact q e.0 (equal_from_is_eq (R q e.0) there)) ∙ ap is_eq h)

  -- a key that was put is found, and the others are found as before
  lookup-insert_entry : {X : Type 0} (es : List (K × X)) (k : K) (v : X) (q : K)
      → lookup (is_at (R q)) (insert_entry R es k v) ≡ cond (is_eq (R k q)) (Some v) (lookup (is_at (R q)) es)
  lookup-insert_entry [] k v q = ap (λ b. cond b (Some v) None) (same_way k q)
  lookup-insert_entry (e ∷ es) k v q = found_step (R k e.0) k q v e es (insert_entry R es k v) refl (lookup-insert_entry es k v q)

-- a name that was put is in the map
pub from_entries-insert_entry : (names : List (Vec ℕ Global × Nid)) (text : Vec ℕ Global) (key : Nid)
    → from_entries {R = slice_cmp nat_cmp} (by_text (insert_entry (λ a b. slice_cmp nat_cmp a.items b.items) names text key))
    ≡ insert (from_entries (by_text names)) text.items key
from_entries-insert_entry names text key =
    ap (λ es. from_entries {R = slice_cmp nat_cmp} es) (by_text-insert_entry names text key)
    ∙ one_given nat_list_cmp_total exact_bytes (by_text names) _ text.items key
    (λ q. lookup-insert_entry (slice_cmp nat_cmp) nat_list_cmp_total exact_bytes (by_text names) text.items key q)
