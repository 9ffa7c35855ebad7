-- A set of nodes, and whether a node is among those of a list.
use Rattle.std.proofs.Common.{◌≡◌, Bool, true, false, cond, ◌||◌, List, [], ◌∷◌, ◌++◌, refl, sym, ap, ◌∙◌}
use Rattle.std.specs.Prelude.{Contains, IsTrue, ◌↔◌}
use Rattle.std.specs.List.{list_any}
use Rattle.std.specs.Ordering.{eq_by_cmp}
use Rattle.std.proofs.lemmas.Cmp.{eq_by_cmp_equiv}
use Rattle.std.proofs.lemmas.List.Folds.{list_any-append}
use Rattle.std.proofs.lemmas.Map.Views.{Contains-from_any, list_any-from_Contains, tells_apart}
use Rattle.rad_base.specs.declared.names.Nid.{Nid}
use Rattle.rad_base.specs.Order.{nid_cmp}
use Rattle.rad_base.proofs.NameOrder.{equals_itself, nid_exact, nid_total}

equal_itself : (a b : Nid) → a ≡ b → eq_by_cmp nid_cmp a b ≡ true
equal_itself a b e = ap (λ (x : Nid). eq_by_cmp nid_cmp a x) (sym e) ∙ equals_itself a.0

turned : (a b : Nid) (x y : Bool) → eq_by_cmp nid_cmp a b ≡ x → eq_by_cmp nid_cmp b a ≡ y → x ≡ y
turned a b true true e f = refl
turned a b false false e f = refl
turned a b true false e f = cc (f, equal_itself b a (sym (tells_apart nid_exact a b e)))
turned a b false true e f = cc (e, equal_itself a b (sym (tells_apart nid_exact b a f)))

last : (old now : Bool) → (old || (now || false)) ≡ cond now true old
last true true = refl
last true false = refl
last false true = refl
last false false = refl

-- one node more in a set that has those of a list
pub any_more : (nodes : List Nid) (node q : Nid) (was is : Bool) → was ≡ list_any (eq_by_cmp nid_cmp q) nodes
    → is ≡ cond (eq_by_cmp nid_cmp node q) true was → is ≡ list_any (eq_by_cmp nid_cmp q) (nodes ++ node ∷ [])
any_more nodes node q was is old new =
    let here : eq_by_cmp nid_cmp node q ≡ eq_by_cmp nid_cmp q node = turned node q _ _ refl refl in
    new ∙ ap (λ (b : Bool). cond b true was) here ∙ ap (λ (b : Bool). cond (eq_by_cmp nid_cmp q node) true b) old
    ∙ sym (last (list_any (eq_by_cmp nid_cmp q) nodes) (eq_by_cmp nid_cmp q node))
    ∙ sym (list_any-append (eq_by_cmp nid_cmp q) nodes (node ∷ []))

-- a node is found exactly where the list has it
pub any_has : (nodes : List Nid) (node : Nid) → IsTrue (list_any (eq_by_cmp nid_cmp node) nodes) ↔ Contains nodes node
any_has nodes node = (
  λ h. Contains-from_any (tells_apart nid_exact) node nodes h,
  λ h. list_any-from_Contains (eq_by_cmp_equiv nid_total) node nodes h,
)
