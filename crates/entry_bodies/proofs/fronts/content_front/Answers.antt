use Rattle.std.proofs.Common.{arith}
use Rattle.rad_base.proofs.OneFront.{if_none}
use Rattle.entry_bodies.proofs.Contents.{no_content_here, no_content_short}
use Rattle.entry_bodies.proofs.fronts.content_front.Goals as goal

pub returns-in_err-length-clause-none : goal.returns-in_err-length-clause-none
returns-in_err-length-clause-none c = if_none c.from_residual.result _ (no_content_short c.args.bytes.now c.in_err-length.ensures.none)

pub returns-then-length-gt-MOST_CONTENT-clause-none : goal.returns-then-length-gt-MOST_CONTENT-clause-none
returns-then-length-gt-MOST_CONTENT-clause-none c =
    no_content_here c.args.bytes.now c.in_ok-length.rest.now c.in_ok-length.length c.in_ok-length.ensures.found.0 c.in_ok-length.ensures.found.1
    (λ small enough. omega (arith, small, enough))
