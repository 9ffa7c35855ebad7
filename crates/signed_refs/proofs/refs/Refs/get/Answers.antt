use Rattle.std.proofs.Common.{◌≡◌, get_or, sym, ◌∙◌, rules}
use Rattle.std.proofs.lemmas.Fn.{always_returns_same}
use Rattle.signed_refs.specs.Lines.{order_of}
use Rattle.signed_refs.proofs.Searching.{searched_found, searched_none}
use Rattle.signed_refs.proofs.refs.Refs.get.Goals as goal

pub returns-in-Ok : goal.returns-in-Ok
returns-in-Ok c =
    let item = c.index.result.now in
    let at : get_or c.deref.result.now c.in-Ok.at item ≡ item = rw c.deref.ensures.value (sym c.index.ensures) in
    let equal = c.in-Ok.ensures.position (order_of c.args.name.now) (always_returns_same _ _ _ (λ a r g called. search rules)) in
    searched_found c.args.self.now c.deref.result.now c.args.name.now c.in-Ok.at item (c.deref.ensures.value ∙ c.self.view_is)
    (rw c.self.view_is at c.self.invariant) c.in-Ok.ensures.bound at (equal item)

pub returns-in-Err : goal.returns-in-Err
returns-in-Err c =
    let parts = c.in-Err.ensures.position (order_of c.args.name.now) (always_returns_same _ _ _ (λ a r g called. search rules)) in
    searched_none c.args.self.now c.deref.result.now c.args.name.now _ (c.deref.ensures.value ∙ c.self.view_is)
    (rw c.self.view_is at c.self.invariant) parts
