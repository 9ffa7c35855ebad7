use Rattle.std.proofs.Common.{◌++◌, List, ℕ, ap, ◌∙◌, arith}
use Rattle.entry_bodies.proofs.Bodies.{no_install}
use Rattle.entry_bodies.proofs.reading.read_install.Goals as goal

pub returns-then-count-gt-MOST_REMOTES-clause-none : goal.returns-then-count-gt-MOST_REMOTES-clause-none
returns-then-count-gt-MOST_REMOTES-clause-none c =
    let a = c.in-Some.ensures.found in
    let b = c.in-Some-oid_front.ensures.found in
    let n = c.in-Some-two_bytes_front.ensures.found in
    no_install c.in-Some.rid c.in-Some-oid_front.id c.args.bytes.now c.in-Some-two_bytes_front.rest.now c.in-Some-two_bytes_front.count a.0 b.0 n.0
    (a.1 ∙ ap (λ (l : List ℕ). c.in-Some.rid.0 ++ l) (b.1 ∙ ap (λ (l : List ℕ). c.in-Some-oid_front.id.0 ++ l) n.1))
    (λ remotes few are. omega (arith, few))

pub returns-in-None-clause-none : goal.returns-in-None-clause-none
returns-in-None-clause-none c =
    let a = c.in-Some.ensures.found in
    let b = c.in-Some-oid_front.ensures.found in
    let n = c.in-Some-two_bytes_front.ensures.found in
    no_install c.in-Some.rid c.in-Some-oid_front.id c.args.bytes.now c.in-Some-two_bytes_front.rest.now c.in-Some-two_bytes_front.count a.0 b.0 n.0
    (a.1 ∙ ap (λ (l : List ℕ). c.in-Some.rid.0 ++ l) (b.1 ∙ ap (λ (l : List ℕ). c.in-Some-oid_front.id.0 ++ l) n.1))
    (λ remotes few are. (rw c.in-None.is at c.in_ok-remotes_in.ensures.none) remotes are)
