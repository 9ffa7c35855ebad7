use Rattle.repo_slice.specs.Parts.{case_in}
use Rattle.repo_slice.proofs.Passes.{bad_outcome, last_outcome_is, missing_outcome}
use Rattle.repo_slice.proofs.remote.closed_outcome.Goals as goal

pub returns-in-Closed-clause-told : goal.returns-in-Closed-clause-told
returns-in-Closed-clause-told c = λ m commit h.
    last_outcome_is m (case_in c.args.terms.now) c.args.count c.args.node.now commit c.last_outcome.result
    (rw c.in-Closed.is at h) c.last_outcome.ensures

pub returns-in-Missing-clause-told : goal.returns-in-Missing-clause-told
returns-in-Missing-clause-told c = λ m commit h.
    missing_outcome m (case_in c.args.terms.now) c.args.count c.args.node.now commit c.in-Missing.oid (rw c.in-Missing.is at h)

pub returns-in-BadObject-clause-told : goal.returns-in-BadObject-clause-told
returns-in-BadObject-clause-told c = λ m commit h.
    bad_outcome m (case_in c.args.terms.now) c.args.count c.args.node.now commit c.in-BadObject.oid (rw c.in-BadObject.is at h)
