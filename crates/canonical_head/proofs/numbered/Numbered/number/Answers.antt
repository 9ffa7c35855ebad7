use Rattle.std.proofs.Common.{◌≡◌, List, length, Some, None, sym, ap, subst, ◌∙◌, arith}
use Rattle.std.specs.BTreeMap.{get}
use Rattle.std.specs.Prelude.{slice_get}
use Rattle.rad_base.proofs.Members.{contains_at}
use Rattle.rad_base.specs.declared.names.Oid.{Oid}
use Rattle.rad_base.specs.Order.{oid_cmp}
use Rattle.commit_graph.proofs.Marks.{adds_new, adds_old}
use Rattle.canonical_head.proofs.Numbering.{none_left, numbered_again, numbered_back, numbered_lacks, numbered_push}
use Rattle.canonical_head.proofs.Places.{at_end}
use Rattle.canonical_head.specs.Numbers.{IsNumbered}
use Rattle.canonical_head.proofs.numbered.Numbered.number.Goals as goal

pub invariant_of-self-in-Some : goal.invariant_of-self-in-Some
invariant_of-self-in-Some c =
    let was : get oid_cmp c.self.inside.numbers c.args.oid ≡ Some c.in-Some.old = sym c.in_ok-old.ensures.old ∙ c.in-Some.is in
    numbered_again c.self.inside.numbers c.insert.new.self c.insert-in-Some.new.self c.self.inside.commits.items c.args.oid c.in-Some.old c.len-number.result
    c.insert-in-Some.result c.self.invariant was c.in_ok-old.ensures.updates.0 c.insert-in-Some.ensures.updates c.insert-in-Some.ensures.absent

pub returns-in-Some-clause-number : goal.returns-in-Some-clause-number
returns-in-Some-clause-number c =
    (c.self.invariant.same c.args.oid c.in-Some.old).0 (sym c.in_ok-old.ensures.old ∙ c.in-Some.is)

pub returns-in-Some-clause-ok : goal.returns-in-Some-clause-ok
returns-in-Some-clause-ok c =
    adds_old c.self.view_is c.self.view_is
    (contains_at c.self.inside.commits.items c.in-Some.old c.args.oid ((c.self.invariant.same c.args.oid c.in-Some.old).0 (sym c.in_ok-old.ensures.old ∙ c.in-Some.is)))

pub invariant_of-self-in-Ok : goal.invariant_of-self-in-Ok
invariant_of-self-in-Ok c =
    let none : get oid_cmp c.self.inside.numbers c.args.oid ≡ None = sym c.in_ok-old.ensures.old ∙ none_left c.in_ok-old.field-0 c.in_default.not-Some in
    let last : c.len-number.result ≡ length c.self.inside.commits.items = omega (arith, c.len-number.ensures, c.self.inside.commits.ok.0) in
    subst (IsNumbered c.insert.new.self) (sym c.in-Ok.ensures.items)
    (numbered_push c.self.inside.numbers c.insert.new.self c.self.inside.commits.items c.args.oid c.self.invariant none
    (λ q. rw (← last) (c.in_ok-old.ensures.updates.0 q)))

pub invariant_of-self-in-Err : goal.invariant_of-self-in-Err
invariant_of-self-in-Err c =
    let none : get oid_cmp c.self.inside.numbers c.args.oid ≡ None = sym c.in_ok-old.ensures.old ∙ none_left c.in_ok-old.field-0 c.in_default.not-Some in
    subst (IsNumbered c.remove.new.self) (sym c.in-Err.ensures.items)
    (numbered_back c.self.inside.numbers c.insert.new.self c.remove.new.self c.self.inside.commits.items c.args.oid (Some c.len-number.result)
    c.self.invariant none c.in_ok-old.ensures.updates.0 c.remove.ensures.updates.0)

pub returns-in-Ok-clause-number : goal.returns-in-Ok-clause-number
returns-in-Ok-clause-number c =
    let last : c.len-number.result ≡ length c.self.inside.commits.items = omega (arith, c.len-number.ensures, c.self.inside.commits.ok.0) in
    ap (slice_get c.push.new.self.items) last ∙ ap (λ (xs : List Oid). slice_get xs (length c.self.inside.commits.items)) c.in-Ok.ensures.items
    ∙ at_end c.self.inside.commits.items c.args.oid

pub returns-in-Ok-clause-ok : goal.returns-in-Ok-clause-ok
returns-in-Ok-clause-ok c =
    let none : get oid_cmp c.self.inside.numbers c.args.oid ≡ None = sym c.in_ok-old.ensures.old ∙ none_left c.in_ok-old.field-0 c.in_default.not-Some in
    adds_new c.self.view_is c.in-Ok.ensures.items
    (numbered_lacks c.self.inside.numbers c.self.inside.commits.items c.args.oid c.self.invariant none)
