use Rattle.std.proofs.Common.{◌≡◌, Bool, true, false, [], ◌∷◌, ◌++◌, Option, Some, None, not, is_some, refl, sym, ap, ◌∙◌}
use Rattle.std.specs.Bool.{OnFalse}
use Rattle.rad_base.proofs.HexText.{on_true}
use Rattle.keyring.proofs.Saying.{adds_name, adds_accept, adds_own, names_twice}
use Rattle.keyring.proofs.keyring.Keyring.add.Goals as goal

none_if_not : {X : Type 0} (o : Option X) (b : Bool) → is_some o ≡ not b → b ≡ true → o ≡ None
none_if_not None b e h = cc
none_if_not (Some x) true e h = cc e
none_if_not (Some x) false e h = cc h

some_if_not : {X : Type 0} (o : Option X) (b : Bool) → is_some o ≡ not b → b ≡ false → o ≡ None → ⊥
some_if_not None true e h n = cc h
some_if_not None false e h n = cc e
some_if_not (Some x) b e h n = cc n

on_false : (b : Bool) (P : Type 0) → (b ≡ false → P) → OnFalse b P
on_false true P h = tt
on_false false P h = h refl

pub returns-in_ok-before-in-Named-clause-added : goal.returns-in_ok-before-in-Named-clause-added
returns-in_ok-before-in-Named-clause-added c =
    on_true c.is_none.result _ (λ fresh. rw c.in-Named.is
    (adds_name c.self.inside.names.entries c.insert.new.self.entries c.self.inside.accepted.keys c.self.inside.own.items c.in-Named.text c.in-Named.key
    c.in_ok-before-in-Named.ensures.entries
    (sym c.in_ok-before-in-Named.ensures.old ∙ none_if_not c.in_ok-before-in-Named.before c.is_none.result c.is_none.ensures fresh)
    c.args.self.now c.self.view_is))

pub returns-in_ok-before-in-Named-clause-taken : goal.returns-in_ok-before-in-Named-clause-taken
returns-in_ok-before-in-Named-clause-taken c =
    on_false c.is_none.result _ (λ twice. rw c.in-Named.is
    (names_twice c.self.inside.names.entries c.self.inside.accepted.keys c.self.inside.own.items c.in-Named.text c.in-Named.key
    (λ none. some_if_not c.in_ok-before-in-Named.before c.is_none.result c.is_none.ensures twice (c.in_ok-before-in-Named.ensures.old ∙ none))
    c.args.self.now c.self.view_is))

pub returns-in_ok-insert-in-Accepted-clause-added : goal.returns-in_ok-insert-in-Accepted-clause-added
returns-in_ok-insert-in-Accepted-clause-added c = rw c.in-Accepted.is
    (adds_accept c.self.inside.names.entries c.self.inside.accepted.keys c.insert-in-Accepted.new.self.keys c.self.inside.own.items c.in-Accepted.accept
    c.in_ok-insert-in-Accepted.ensures.updates.0 c.args.self.now c.self.view_is)

pub returns-in_ok-push-in-Owned-clause-added : goal.returns-in_ok-push-in-Owned-clause-added
returns-in_ok-push-in-Owned-clause-added c = rw c.in-Owned.is
    (adds_own c.self.inside.names.entries c.self.inside.accepted.keys c.self.inside.own.items c.push.new.self.items c.in-Owned.message.items
    (c.in_ok-push-in-Owned.ensures.items ∙ ap (λ m. c.self.inside.own.items ++ m ∷ []) c.of.ensures) c.args.self.now c.self.view_is)
