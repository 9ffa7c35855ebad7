use Rattle.std.proofs.Common.{◌∷◌, length, inl, inr, refl, ap, arith, length-append}
use Rattle.std.proofs.lemmas.Result.{err_from_is_err_and}
use Rattle.keyring.specs.Keys.{BreaksKeyringAt}
use Rattle.keyring.specs.Lines.{keyring_line_text}
use Rattle.keyring.specs.Readers.{seen}
use Rattle.keyring.specs.declared.fault.KeyFault.TheVariants.{BadLine}
use Rattle.rad_base.proofs.Conditions.{is_nothing, is_something}
use Rattle.keyring.proofs.Files.{breaks_here, breaks_order, one_broken_line, read_all, read_more, read_nothing, read_unbroken}
use Rattle.keyring.proofs.keyring.Keyring.read.Goals as goal

pub reading-init : goal.reading-init
reading-init c = record { left = omega arith; read = rw c.new-keyring.ensures (read_nothing c.args.bytes.now) }

pub returns-in_err-entry-clause-keys : goal.returns-in_err-entry-clause-keys
returns-in_err-entry-clause-keys c = let p = err_from_is_err_and c.from_residual.result c.from_residual.ensures.1 in rw p.1 tt

pub returns-in_err-entry-clause-refused : goal.returns-in_err-entry-clause-refused
returns-in_err-entry-clause-refused c = let p = err_from_is_err_and c.from_residual.result c.from_residual.ensures.1 in rw (p.1, p.2) tt

pub returns-in_err-entry-clause-exact : goal.returns-in_err-entry-clause-exact
returns-in_err-entry-clause-exact c = λ n b. let p = err_from_is_err_and c.from_residual.result c.from_residual.ensures.1 in rw (p.1, p.2) (inr refl)

pub returns-in_default-clause-refused : goal.returns-in_default-clause-refused
returns-in_default-clause-refused c =
    breaks_here c.args.bytes.now c.reading.rest.now c.reading.number c.reading.keyring c.reading.invariant.read
    (is_something c.is_empty.result c.reading.rest.now c.is_empty.ensures c.reading-test.true)
    (rw c.in_default.is at c.in_ok-entry.ensures.none)

pub returns-in_default-clause-exact : goal.returns-in_default-clause-exact
returns-in_default-clause-exact c = λ n b.
    let here : BreaksKeyringAt c.reading.number c.args.bytes.now =
    breaks_here c.args.bytes.now c.reading.rest.now c.reading.number c.reading.keyring c.reading.invariant.read
    (is_something c.is_empty.result c.reading.rest.now c.is_empty.ensures c.reading-test.true)
    (rw c.in_default.is at c.in_ok-entry.ensures.none) in
    inl (ap BadLine (one_broken_line c.args.bytes.now c.reading.number n here b))

pub returns-in_err-add-clause-keys : goal.returns-in_err-add-clause-keys
returns-in_err-add-clause-keys c = let p = err_from_is_err_and c.from_residual-in_err-add.result c.from_residual-in_err-add.ensures.1 in rw p.1 tt

pub returns-in_err-add-clause-refused : goal.returns-in_err-add-clause-refused
returns-in_err-add-clause-refused c = let p = err_from_is_err_and c.from_residual-in_err-add.result c.from_residual-in_err-add.ensures.1 in rw (p.1, p.2) tt

pub returns-in_err-add-clause-exact : goal.returns-in_err-add-clause-exact
returns-in_err-add-clause-exact c = λ n b.
    let p = err_from_is_err_and c.from_residual-in_err-add.result c.from_residual-in_err-add.ensures.1 in rw (p.1, p.2) (inr refl)

pub returns-then-not-branch-clause-refused : goal.returns-then-not-branch-clause-refused
returns-then-not-branch-clause-refused c =
    breaks_order c.args.bytes.now c.reading.rest.now c.in-Some.behind.now c.reading.number c.reading.keyring (seen c.in-Some.entry) c.reading.invariant.read
    (is_something c.is_empty.result c.reading.rest.now c.is_empty.ensures c.reading-test.true)
    (rw c.in-Some.is at c.in_ok-entry.ensures.found) (rw c.if-not-branch.true at c.in_ok-add.ensures.taken)

pub returns-then-not-branch-clause-exact : goal.returns-then-not-branch-clause-exact
returns-then-not-branch-clause-exact c = λ n b.
    let here : BreaksKeyringAt c.reading.number c.args.bytes.now =
    breaks_order c.args.bytes.now c.reading.rest.now c.in-Some.behind.now c.reading.number c.reading.keyring (seen c.in-Some.entry) c.reading.invariant.read
    (is_something c.is_empty.result c.reading.rest.now c.is_empty.ensures c.reading-test.true)
    (rw c.in-Some.is at c.in_ok-entry.ensures.found) (rw c.if-not-branch.true at c.in_ok-add.ensures.taken) in
    inl (ap BadLine (one_broken_line c.args.bytes.now c.reading.number n here b))

pub reading-smaller : goal.reading-smaller
reading-smaller c =
    let front = rw c.in-Some.is at c.in_ok-entry.ensures.found in
    omega (arith, ap length front.text, length-append (keyring_line_text (seen c.in-Some.entry)) (10 ∷ c.in-Some.behind.now))

pub reading-preserved : goal.reading-preserved
reading-preserved c =
    let front = rw c.in-Some.is at c.in_ok-entry.ensures.found in
    record {
      left = omega (arith, c.reading.invariant.left, ap length front.text, length-append (keyring_line_text (seen c.in-Some.entry)) (10 ∷ c.in-Some.behind.now));
      read = read_more c.args.bytes.now c.reading.rest.now c.in-Some.behind.now c.reading.number c.reading.keyring c.add.new.self (seen c.in-Some.entry)
          c.reading.invariant.read front (rw c.if-not-branch.false at c.in_ok-add.ensures.added);
    }

pub returns-clause-keys : goal.returns-clause-keys
returns-clause-keys c =
    read_all c.args.bytes.now c.reading.rest.now c.reading.number c.reading.keyring c.reading.invariant.read
    (is_nothing c.is_empty.result c.reading.rest.now c.is_empty.ensures c.reading-test.false)

pub returns-clause-exact : goal.returns-clause-exact
returns-clause-exact c = λ n b.
    read_unbroken c.args.bytes.now c.reading.keyring n
    (read_all c.args.bytes.now c.reading.rest.now c.reading.number c.reading.keyring c.reading.invariant.read
    (is_nothing c.is_empty.result c.reading.rest.now c.is_empty.ensures c.reading-test.false)) b
