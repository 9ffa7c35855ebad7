use Rattle.std.proofs.Common.{◌∙◌, ℕ, ap, refl, subst, sym}
use Rattle.std.proofs.lemmas.Result.{err_from_is_err_and}
use Rattle.fetch_stages.specs.Puts.{Joins, StopsJoining}
use Rattle.fetch_stages.specs.Sections.{object_of_part, objects_among}
use Rattle.fetch_stages.proofs.Entering.{cause_along, leaves_along, leaves_none, same_caller}
use Rattle.fetch_stages.proofs.Joining.{all_came, more_came, none_came, stops_coming}
use Rattle.fetch_stages.proofs.Parts.{contents_left_in, head_first, head_none, objects_first}
use Rattle.fetch_stages.proofs.taken.Taken.take_parts.Goals as goal

pub taking-init : goal.taking-init
taking-init g c =
    let keep = g.K.Keep in
    record {
      leaves = leaves_none keep.constants keep.loan keep.faults keep.held c.args.rid.now c.args.keep.now;
      sizes = c.requires.sizes;
      came = none_came keep.made keep.held c.args.rid.now (keep.constants c.args.keep.now).caller
          c.args.keep.now c.args.self.now.batcher (objects_among c.args.parts);
      head = refl;
    }

pub taking-preserved : goal.taking-preserved
taking-preserved g c =
    let keep = g.K.Keep in
    let h = c.taking.invariant in
    let first = c.in-Some.ensures.first in
    let parts = c.taking.parts in
    let left = c.pop_front.new.self in
    let part = c.in-Some.part in
    record {
      leaves = leaves_along keep.constants keep.loan keep.faults keep.held c.args.rid.now c.args.keep.now
          c.taking.keep c.take_part.new.keep h.leaves c.in_ok-take_part.ensures.leaves;
      sizes = contents_left_in parts left part first h.sizes;
      came = more_came keep.made keep.held c.args.rid.now (keep.constants c.args.keep.now).caller
          c.args.keep.now c.taking.keep c.take_part.new.keep c.args.self.now.batcher
          (objects_among c.args.parts) (objects_among parts) c.taking.self.batcher (objects_among left)
          c.take_part.new.self.batcher (object_of_part part) h.came (objects_first parts left part first)
          (subst (λ (n : ℕ). Joins keep.made keep.held c.args.rid.now n c.taking.keep c.take_part.new.keep
          c.taking.self.batcher (object_of_part part) c.take_part.new.self.batcher)
          (same_caller _ _ h.leaves.constants_stay) c.in_ok-take_part.ensures.joins);
      head = head_first c.taking.self.head c.take_part.new.self.head parts left part first
          c.in_ok-take_part.ensures.head ∙ h.head;
    }

pub returns-in_err-take_part-clause-stops : goal.returns-in_err-take_part-clause-stops
returns-in_err-take_part-clause-stops g c =
    let keep = g.K.Keep in
    let h = c.taking.invariant in
    let first = c.in-Some.ensures.first in
    let p = err_from_is_err_and c.from_residual.result c.from_residual.ensures.1 in
    rw (p.1, p.2)
    (stops_coming keep.made keep.held c.args.rid.now (keep.constants c.args.keep.now).caller
    (keep.end c.take_part.new.keep) c.args.keep.now c.taking.keep c.take_part.new.keep
    c.args.self.now.batcher (objects_among c.args.parts) (objects_among c.taking.parts)
    c.taking.self.batcher (objects_among c.pop_front.new.self) (object_of_part c.in-Some.part)
    c.in_err-take_part.field-0.0 h.came
    (objects_first c.taking.parts c.pop_front.new.self c.in-Some.part first)
    (subst (λ (n : ℕ). StopsJoining keep.made c.args.rid.now n (keep.end c.take_part.new.keep)
    c.taking.keep c.take_part.new.keep c.taking.self.batcher (object_of_part c.in-Some.part)
    c.in_err-take_part.field-0.0) (same_caller _ _ h.leaves.constants_stay)
    c.in_err-take_part.ensures.stops))

pub returns-in_err-take_part-clause-cause : goal.returns-in_err-take_part-clause-cause
returns-in_err-take_part-clause-cause g c =
    let keep = g.K.Keep in
    let p = err_from_is_err_and c.from_residual.result c.from_residual.ensures.1 in
    rw (p.1, p.2)
    (cause_along (keep.held c.taking.keep c.args.rid.now).objects
    (keep.held c.args.keep.now c.args.rid.now).objects (keep.faults c.args.keep.now)
    (keep.faults c.taking.keep) (keep.faults c.take_part.new.keep) c.in_err-take_part.field-0.0
    c.taking.invariant.leaves.later c.in_err-take_part.ensures.cause c.in_err-take_part.ensures.unchanged)

pub returns-clause-joins : goal.returns-clause-joins
returns-clause-joins g c =
    let keep = g.K.Keep in
    let none = c.in_default.ensures.none refl in
    all_came keep.made keep.held c.args.rid.now (keep.constants c.args.keep.now).caller c.args.keep.now
    c.taking.keep c.args.self.now.batcher (objects_among c.args.parts) (objects_among c.taking.parts)
    c.taking.self.batcher c.taking.invariant.came (ap objects_among none)

pub returns-clause-head : goal.returns-clause-head
returns-clause-head g c =
    let none = c.in_default.ensures.none refl in
    sym (head_none c.taking.self.head c.taking.parts none) ∙ c.taking.invariant.head
