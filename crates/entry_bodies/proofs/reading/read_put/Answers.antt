use Rattle.std.proofs.Common.{◌++◌, List, ℕ, ap, ◌∙◌, arith}
use Rattle.entry_bodies.proofs.Bodies.{no_put}
use Rattle.entry_bodies.proofs.reading.read_put.Goals as goal
use Rattle.entry_bodies.proofs.reading.read_put.Goals.{then-count-lt1-via-then-count-lt1, then-count-lt1-via-else-count-lt1+then-count-gt-MOST_OBJECTS}

pub returns-then-count-lt1-clause-none : goal.returns-then-count-lt1-clause-none
returns-then-count-lt1-clause-none c =
    let a = c.in-Some.ensures.found in
    let b = c.in-Some-four_bytes_front.ensures.found in
    no_put c.in-Some.rid c.args.bytes.now c.in-Some-four_bytes_front.rest.now c.in-Some-four_bytes_front.count a.0 b.0
    (a.1 ∙ ap (λ (l : List ℕ). c.in-Some.rid.0 ++ l) b.1)
    (λ objects some few are. elim c.then-count-lt1.branch [
      | then-count-lt1-via-then-count-lt1 w ↦ omega (arith, some, w.if-count-lt1)
      | then-count-lt1-via-else-count-lt1+then-count-gt-MOST_OBJECTS w ↦ omega (arith, few, w.if-count-gt-MOST_OBJECTS)
    ])

pub returns-in-None-clause-none : goal.returns-in-None-clause-none
returns-in-None-clause-none c =
    let a = c.in-Some.ensures.found in
    let b = c.in-Some-four_bytes_front.ensures.found in
    no_put c.in-Some.rid c.args.bytes.now c.in-Some-four_bytes_front.rest.now c.in-Some-four_bytes_front.count a.0 b.0
    (a.1 ∙ ap (λ (l : List ℕ). c.in-Some.rid.0 ++ l) b.1)
    (λ objects some few are. (rw c.in-None.is at c.in_ok-objects_in.ensures.none) objects are)
