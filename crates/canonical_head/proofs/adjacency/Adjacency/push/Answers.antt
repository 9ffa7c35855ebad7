use Rattle.std.proofs.Common.{◌++◌, ◌∷◌, [], List, ℕ, ap, ◌∙◌, arith}
use Rattle.canonical_head.proofs.Parts.{on_err, parts_pushed, parts_same, spans_pushed}
use Rattle.canonical_head.proofs.adjacency.Adjacency.push.Goals as goal

pub returns-in_err-push-clause-err : goal.returns-in_err-push-clause-err
returns-in_err-push-clause-err c =
    on_err c.from_residual-in_err-push.result
    (parts_same c.self.inside.numbers.items c.extend_from_slice.new.self.items c.args.list.now c.self.inside.spans.items c.push.new.self.items
    c.in_ok-extend_from_slice.ensures.items c.in_err-push.ensures.items c.self.invariant ∙ c.self.view_is)

pub invariant_of-self-2 : goal.invariant_of-self-2
invariant_of-self-2 c =
    spans_pushed c.self.inside.numbers.items c.extend_from_slice.new.self.items c.args.list.now c.self.inside.spans.items c.push.new.self.items _
    c.in_ok-extend_from_slice.ensures.items c.in_ok-push.ensures.items
    (omega (arith, c.len-from.ensures, c.self.inside.numbers.ok.0)) (omega (arith, c.len-to.ensures, c.extend_from_slice.new.self.ok.0)) c.self.invariant

pub returns-clause-ok : goal.returns-clause-ok
returns-clause-ok c =
    parts_pushed c.self.inside.numbers.items c.extend_from_slice.new.self.items c.args.list.now c.self.inside.spans.items c.push.new.self.items _
    c.in_ok-extend_from_slice.ensures.items c.in_ok-push.ensures.items
    (omega (arith, c.len-from.ensures, c.self.inside.numbers.ok.0)) (omega (arith, c.len-to.ensures, c.extend_from_slice.new.self.ok.0)) c.self.invariant
    ∙ ap (λ (lists : List (List ℕ)). lists ++ c.args.list.now ∷ []) c.self.view_is
