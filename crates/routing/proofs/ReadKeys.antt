-- The keys of the elements of `follow`.
use Rattle.std.proofs.Common.{◌≡◌, ℕ, ◌+◌, ◌<◌, List, [], ◌∷◌, ◌++◌, length, map, take, drop, get_or, Option, Some, Result, Ok, Err, sym, ap, subst, ◌∙◌}
use Rattle.std.specs.Prelude.{IfErr, IfOk}
use Rattle.std.proofs.lemmas.List.{append_assoc, map-append, map_more, take-append-drop}
use Rattle.hex.specs.Hex.{encode_lower}
use Rattle.serde_json.specs.Data.{Data}
use Rattle.serde_json.specs.Find.{as_array, as_str}
use Rattle.serde_json.specs.View.{items_view, view}
use Rattle.serde_json.specs.declared.value.Value.{Value}
use Rattle.rad_base.proofs.Options.{one_value}
use Rattle.identity_doc.specs.Documents.{elements}
use Rattle.identity_doc.proofs.Elements.{elements_view}
use Rattle.rad_base.specs.Sizes.{IsNid}
use Rattle.rad_base.specs.declared.names.Nid.{Nid}
use Rattle.routing.specs.RulesFiles.{AreKeys, HasKeys}

-- one key more
pub keys_more : (ds : List Data) (nids : List Nid) (d : Data) (nid : Nid) → AreKeys ds nids
    → IsNid nid × (as_str d ≡ Some (encode_lower nid.0)) → AreKeys (ds ++ d ∷ []) (nids ++ nid ∷ [])
keys_more [] [] d nid are is = (is, tt)
keys_more [] (n ∷ nids) d nid are is = absurd are
keys_more (x ∷ ds) [] d nid are is = absurd are
keys_more (x ∷ ds) (n ∷ nids) d nid are is = (are.0, keys_more ds nids d nid are.1 is)

-- where one element is no key, there are none
pub no_keys : (ds : List Data) (d : Data) (rest : List Data) (nids : List Nid)
    → ((nid : Nid) → IsNid nid → as_str d ≡ Some (encode_lower nid.0) → ⊥) → AreKeys (ds ++ d ∷ rest) nids → ⊥
no_keys [] d rest [] none are = are
no_keys [] d rest (n ∷ nids) none are = none n are.0.0 are.0.1
no_keys (x ∷ ds) d rest [] none are = are
no_keys (x ∷ ds) d rest (n ∷ nids) none are = no_keys ds d rest nids none are.1

-- a list up to an item, the item, and the rest
pub split_at : {X Y : Type 0} (f : X → Y) (xs : List X) (i : ℕ) (d : X) → i < length xs
    → map f xs ≡ map f (take i xs) ++ f (get_or xs i d) ∷ map f (drop (i + 1) xs)
split_at f xs i d inside =
    ap (map f) (sym (take-append-drop (i + 1) xs)) ∙ map-append f (take (i + 1) xs) (drop (i + 1) xs)
    ∙ ap (λ ys. ys ++ map f (drop (i + 1) xs)) (map_more f xs i d inside)
    ∙ append_assoc (map f (take i xs)) (f (get_or xs i d) ∷ []) (map f (drop (i + 1) xs))

-- the member is an array of these values
pub has_keys : (field : Option Data) (value : Data) (vs : List Value) (nids : List Nid) → field ≡ Some value
    → as_array value ≡ Some (items_view vs) → AreKeys (map view vs) nids → HasKeys field nids
has_keys field value vs nids e array are =
    subst (λ (o : Option Data). HasKeys o nids) (sym e)
    (items_view vs, array, subst (λ (ds : List Data). AreKeys ds nids) (sym (elements_view vs)) are)

pub has_no_keys : (field : Option Data) (value : Data) (vs : List Value) → field ≡ Some value
    → as_array value ≡ Some (items_view vs) → ((nids : List Nid) → AreKeys (map view vs) nids → ⊥) → (nids : List Nid) → HasKeys field nids → ⊥
has_no_keys field value vs e array none nids has =
    let here : HasKeys (Some value) nids = subst (λ (o : Option Data). HasKeys o nids) e has in
    let same : here.0 ≡ items_view vs = one_value here.1 array in
    none nids (subst (λ (ds : List Data). AreKeys ds nids) (ap elements same ∙ elements_view vs) here.2)

pub ok_through : {T E : Type 0} (r : Result T E) (P Q : T → Type 0) → ((v : T) → P v → Q v) → IfOk r P → IfOk r Q
ok_through (Ok v) P Q f h = f v h
ok_through (Err e) P Q f h = tt

pub err_through : {T E : Type 0} (r : Result T E) (P Q : E → Type 0) → ((e : E) → P e → Q e) → IfErr r P → IfErr r Q
err_through (Ok v) P Q f h = tt
err_through (Err e) P Q f h = f e h
