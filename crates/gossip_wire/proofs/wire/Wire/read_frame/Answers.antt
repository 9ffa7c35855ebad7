use Rattle.std.proofs.Common.{◌≡◌, refl, true, ap, ◌∙◌, arith, rules}
use Rattle.std.proofs.lemmas.Result.{err_from_is_err_and}
use Rattle.gossip_wire.proofs.WireReads.{fails_then, reads_none, reads_then, rose_from, stops_then}
use Rattle.gossip_wire.proofs.wire.Wire.read_frame.Goals as goal

pub bytes-init : goal.bytes-init
bytes-init g c = record { reads = reads_none _; stop = refl; given = refl; later = omega arith; loan = refl }

pub returns-in_err-refill-clause-next : goal.returns-in_err-refill-clause-next
returns-in_err-refill-clause-next g c =
    let p = err_from_is_err_and c.from_residual.result c.from_residual.ensures.1 in
    let err = c.in_err-refill.ensures.err in
    rw (p.1, p.2) (fails_then c.in_err-refill.field-0.0 _ _ (λ rose. rose_from _ _ _ c.bytes.invariant.later rose) (reads_then c.bytes.invariant.reads err.0) err.1)

pub returns-then-self-clause-next : goal.returns-then-self-clause-next
returns-then-self-clause-next g c =
    let yes : c.in_ok-refill.field-0 ≡ true = search rules in
    let ok = c.in_ok-refill.ensures.ok in
    (reads_then c.bytes.invariant.reads ok.0, (c.if-self.true, ok.1.0 yes))

pub returns-in_err-frame-clause-next : goal.returns-in_err-frame-clause-next
returns-in_err-frame-clause-next g c =
    let p = err_from_is_err_and c.from_residual-in_err-frame.result c.from_residual-in_err-frame.ensures.1 in
    rw (p.1, p.2) (stops_then _ c.in_err-frame.field-0.0 _ (reads_then c.bytes.invariant.reads c.in_ok-refill.ensures.ok.0) c.in_err-frame.ensures.err)

pub returns-in-Some-clause-next : goal.returns-in-Some-clause-next
returns-in-Some-clause-next g c =
    let ok = rw c.in-Some.is at c.in_ok-frame.ensures.ok in
    reads_then (reads_then c.bytes.invariant.reads c.in_ok-refill.ensures.ok.0) ok.0

pub bytes-preserved : goal.bytes-preserved
bytes-preserved g c =
    let ok = rw c.in-None.is at c.in_ok-frame.ensures.ok in
    let same = c.in_ok-frame.ensures.same in
    let refilled = c.in_ok-refill.ensures in
    record {
      reads = reads_then (reads_then c.bytes.invariant.reads refilled.ok.0) ok.0;
      stop = same.1 ∙ (refilled.same.0 ∙ c.bytes.invariant.stop);
      given = ap g.L.Sink.given same.0 ∙ (refilled.given ∙ c.bytes.invariant.given);
      later = rw same.0 (omega (arith, c.bytes.invariant.later, refilled.later));
      loan = ap g.L.Source.loan same.0 ∙ (refilled.loan ∙ c.bytes.invariant.loan);
    }
