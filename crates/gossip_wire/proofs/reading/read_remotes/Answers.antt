use Rattle.std.proofs.Common.{length, ap, arith, length-append}
use Rattle.std.specs.List.{flat_map}
use Rattle.rad_base.specs.RemoteTexts.{pair_text}
use Rattle.gossip_wire.proofs.AnnouncedTexts.{are_remotes, no_time, refs_counted, refs_size}
use Rattle.gossip_wire.proofs.MessageTexts.{no_refs}
use Rattle.gossip_wire.proofs.reading.read_remotes.Goals as goal

pub returns-in_default-clause-none : goal.returns-in_default-clause-none
returns-in_default-clause-none c =
    no_refs c.args.node c.args.sig c.args.bytes.now c.requires
    (λ name remotes time is e. omega (arith, c.in_default.ensures.none, ap length e, refs_size name remotes time is))

pub returns-in_default-two_bytes_front-clause-none : goal.returns-in_default-two_bytes_front-clause-none
returns-in_default-two_bytes_front-clause-none c =
    let a = c.in-Some.ensures.found in
    no_refs c.args.node c.args.sig c.args.bytes.now c.requires
    (λ name remotes time is e.
    omega (arith, c.in_default-two_bytes_front.ensures.none, a.0.size, ap length a.1, length-append c.in-Some.rid.0 c.in-Some.rest.now, ap length e, refs_size name remotes time is))

pub returns-then-count-gt-MOST_REMOTES-clause-none : goal.returns-then-count-gt-MOST_REMOTES-clause-none
returns-then-count-gt-MOST_REMOTES-clause-none c =
    let a = c.in-Some.ensures.found in
    let n = c.in-Some-two_bytes_front.ensures.found in
    no_refs c.args.node c.args.sig c.args.bytes.now c.requires
    (λ name remotes time is e.
    let counted = refs_counted c.in-Some.rid c.in-Some-two_bytes_front.count c.args.bytes.now c.in-Some.rest.now c.in-Some-two_bytes_front.rest.now a.0 n.0 a.1 n.1 name remotes time is e in
    omega (arith, counted.count, is.few))

pub returns-in_default-number_behind-clause-none : goal.returns-in_default-number_behind-clause-none
returns-in_default-number_behind-clause-none c =
    let a = c.in-Some.ensures.found in
    let n = c.in-Some-two_bytes_front.ensures.found in
    no_refs c.args.node c.args.sig c.args.bytes.now c.requires
    (λ name remotes time is e.
    no_time c.in-Some-two_bytes_front.count (length remotes) time c.in-Some-two_bytes_front.rest.now (flat_map pair_text remotes) c.in_default-number_behind.ensures.none
    (refs_counted c.in-Some.rid c.in-Some-two_bytes_front.count c.args.bytes.now c.in-Some.rest.now c.in-Some-two_bytes_front.rest.now a.0 n.0 a.1 n.1 name remotes time is e))

pub returns-in-None-clause-none : goal.returns-in-None-clause-none
returns-in-None-clause-none c =
    let a = c.in-Some.ensures.found in
    let n = c.in-Some-two_bytes_front.ensures.found in
    let b = c.in-Some-number_behind.ensures.found in
    no_refs c.args.node c.args.sig c.args.bytes.now c.requires
    (λ name remotes time is e. (rw c.in-None.is at c.in_ok-remotes_in.ensures.none) remotes
    (are_remotes c.in-Some.rid c.in-Some-two_bytes_front.count c.in-Some-number_behind.time c.args.bytes.now c.in-Some.rest.now c.in-Some-two_bytes_front.rest.now c.in-Some-number_behind.pairs.now
    a.0 n.0 a.1 n.1 b.1 name remotes time is e))
