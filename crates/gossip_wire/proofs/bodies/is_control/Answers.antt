use Rattle.std.proofs.Common.{◌≡◌, ◌∷◌, length, arith, rules}
use Rattle.std.proofs.lemmas.Bool.Decides.{nat_tests}
use Rattle.gossip_wire.proofs.BodyTexts.{control_reads}
use Rattle.gossip_wire.proofs.bodies.is_control.Goals as goal

pub returns-in-Value-clause-no : goal.returns-in-Value-clause-no
returns-in-Value-clause-no c = λ h.
    let split : c.args.bytes.now ≡ c.in-Some.first.now ∷ c.in-Some.rest.now = first_of (search rules, grind arith) in
    let all = control_reads c.args.bytes.now c.in-Some.rest.now c.in-Some.first.now split (λ i. omega (arith, c.type_inv.bytes i)) h in
    let same : c.in-Value.size ≡ length c.in-Some.rest.now = cc (c.in-Value.ensures.exact, all.reads) in
    grind (arith, nat_tests, same)

pub returns-in-Short-clause-no : goal.returns-in-Short-clause-no
returns-in-Short-clause-no c = λ h.
    let split : c.args.bytes.now ≡ c.in-Some.first.now ∷ c.in-Some.rest.now = first_of (search rules, grind arith) in
    let all = control_reads c.args.bytes.now c.in-Some.rest.now c.in-Some.first.now split (λ i. omega (arith, c.type_inv.bytes i)) h in
    absurd (cc (c.in-Short.ensures.exact, all.reads))

pub returns-in-Long-clause-no : goal.returns-in-Long-clause-no
returns-in-Long-clause-no c = λ h.
    let split : c.args.bytes.now ≡ c.in-Some.first.now ∷ c.in-Some.rest.now = first_of (search rules, grind arith) in
    let all = control_reads c.args.bytes.now c.in-Some.rest.now c.in-Some.first.now split (λ i. omega (arith, c.type_inv.bytes i)) h in
    absurd (cc (c.in-Long.ensures.exact, all.reads))
