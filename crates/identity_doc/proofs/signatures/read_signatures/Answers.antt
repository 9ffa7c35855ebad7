use Rattle.std.proofs.Common.{◌≡◌, length, rules}
use Rattle.rad_base.proofs.Conditions.{differ, is_something}
use Rattle.identity_doc.specs.SignatureReaders.{KeyMayFollow}
use Rattle.identity_doc.proofs.SignatureReading.{breaks_order, read_more}
use Rattle.identity_doc.proofs.signatures.read_signatures.Goals as goal

pub returns-then-not-may_follow-clause-refused : goal.returns-then-not-may_follow-clause-refused
returns-then-not-may_follow-clause-refused c =
    let none : KeyMayFollow c.reading.lines.items c.in-Some.line.key → ⊥
    = λ may. differ c.may_follow.result (c.may_follow.ensures.1 (rw c.deref.ensures.value may)) c.if-not-may_follow.true in
    let count : c.len-then-not-may_follow.result ≡ length c.reading.lines.items = search rules in
    rw count
    (breaks_order c.args.bytes.now c.reading.rest.now c.in-Some.behind.now c.reading.lines.items c.in-Some.line c.reading.invariant
    (is_something c.is_empty.result c.reading.rest.now c.is_empty.ensures c.reading-test.true) (rw c.in-Some.is at c.line_in_front.ensures.found) none)

pub reading-preserved : goal.reading-preserved
reading-preserved c =
    let may : KeyMayFollow c.reading.lines.items c.in-Some.line.key = rw c.deref.ensures.value at c.may_follow.ensures.0 c.if-not-may_follow.false in
    rw c.in_ok-push.ensures.items
    (read_more c.args.bytes.now c.reading.rest.now c.in-Some.behind.now c.reading.lines.items c.in-Some.line c.reading.invariant
    (rw c.in-Some.is at c.line_in_front.ensures.found) may)
