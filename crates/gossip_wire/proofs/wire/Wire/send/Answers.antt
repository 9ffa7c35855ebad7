use Rattle.std.proofs.Common.{◌≡◌, ◌+◌, ◌-◌, ◌≤◌, List, ℕ, length, take, drop, sym, subst, ap, ◌∙◌, arith, length-take, take-add, take-take, rules}
use Rattle.std.specs.Io.KnownBytes.{Appends}
use Rattle.std.proofs.Common.{take-append-drop}
use Rattle.std.proofs.lemmas.Result.{err_from_is_err_and}
use Rattle.gossip_wire.proofs.WireReads.{appends_keeps, appends_then}
use Rattle.gossip_wire.proofs.wire.Wire.send.Goals as goal

pub bytes-preserved : goal.bytes-preserved
bytes-preserved g c =
    let bytes : List ℕ = c.args.bytes.now in
    let n : ℕ = c.in_ok-given.field-0 in
    let old = g.L.Sink.given c.args.self.now.link in
    let new = g.L.Sink.given c.give.new.self in
    let rest : List ℕ = drop c.bytes.given bytes in
    let size = length-take (length bytes - c.bytes.given) rest in
    let fits : n ≤ length bytes - c.bytes.given = omega (arith, size, c.in_ok-given.ensures.bound) in
    let gave = subst (λ (l : List ℕ). Appends (g.L.Sink.given c.bytes.self.link) new l) (take-take n (length bytes - c.bytes.given) rest fits) c.in_ok-given.ensures.bytes in
    record {
      within = omega (arith, fits, c.bytes.invariant.within);
      given = subst (λ (l : List ℕ). Appends old new l) (sym (take-add c.bytes.given n bytes))
          (appends_then old (g.L.Sink.given c.bytes.self.link) new (take c.bytes.given bytes) (take n rest) c.bytes.invariant.given gave);
      later = omega (arith, c.bytes.invariant.later, c.give.ensures.cause.later);
      left = sym (g.met.L.Link.give_leaves c.give.new.self) ∙ (c.give.ensures.beside ∙ (g.met.L.Link.give_leaves c.bytes.self.link ∙ c.bytes.invariant.left));
      same = search rules;
      loan = g.met.L.Link.one_loan c.give.new.self ∙ (c.give.ensures.stays ∙ (sym (g.met.L.Link.one_loan c.bytes.self.link) ∙ c.bytes.invariant.loan));
    }

pub returns-in_err-given-clause-failed : goal.returns-in_err-given-clause-failed
returns-in_err-given-clause-failed g c =
    let bytes : List ℕ = c.args.bytes.now in
    let p = err_from_is_err_and c.from_residual.result c.from_residual.ensures.1 in
    rw p.1 (
      take c.bytes.given bytes,
      drop c.bytes.given bytes,
      sym (take-append-drop c.bytes.given bytes),
      appends_keeps _ _ _ (take c.bytes.given bytes) c.bytes.invariant.given c.in_err-given.ensures.bytes,
    )
