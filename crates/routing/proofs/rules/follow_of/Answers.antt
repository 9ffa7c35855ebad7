use Rattle.std.proofs.Common.{◌≡◌, Some, codes, sym}
use Rattle.serde_json.specs.Find.{as_array, get}
use Rattle.serde_json.specs.View.{items_view, view}
use Rattle.routing.proofs.ReadKeys.{err_through, has_keys, has_no_keys, ok_through}
use Rattle.routing.proofs.rules.follow_of.Goals as goal

pub returns-clause-read : goal.returns-clause-read
returns-clause-read c =
    let field : get (codes "follow") (view c.args.value.now) ≡ Some (view c.in-Some.said.now) = rw c.in-Some.is at (sym c.get.ensures) in
    let array : as_array (view c.in-Some.said.now) ≡ Some (items_view c.in-Some-as_array.elements.now.items) = rw c.in-Some-as_array.is at (sym c.as_array.ensures) in
    ok_through c.keys_in.result _ _ (λ nids are.
    has_keys _ _ c.in-Some-as_array.elements.now.items nids field array (rw c.as_slice.ensures.value at are)) c.keys_in.ensures.read

pub returns-clause-refused : goal.returns-clause-refused
returns-clause-refused c =
    let field : get (codes "follow") (view c.args.value.now) ≡ Some (view c.in-Some.said.now) = rw c.in-Some.is at (sym c.get.ensures) in
    let array : as_array (view c.in-Some.said.now) ≡ Some (items_view c.in-Some-as_array.elements.now.items) = rw c.in-Some-as_array.is at (sym c.as_array.ensures) in
    err_through c.keys_in.result _ _ (λ fault why check.
    let is = why check in
    (is.0, has_no_keys _ _ c.in-Some-as_array.elements.now.items field array (rw c.as_slice.ensures.value at is.1))) c.keys_in.ensures.refused
