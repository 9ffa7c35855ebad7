use Rattle.git_object.proofs.Linked.{gather_end, gather_more, gather_start}
use Rattle.git_object.proofs.link.add_parent_links.Goals as goal

pub reading-init : goal.reading-init
reading-init c = gather_start c.args.bytes.now c.args.found.now.items

pub reading-preserved : goal.reading-preserved
reading-preserved c =
    let line = c.in-Some.ensures.found in
    gather_more c.args.bytes.now c.reading.rest.now c.in-Some.more.now c.args.found.now.items c.reading.found.items c.push.new.self.items c.in-Some.oid
    c.reading.invariant line.0 line.1 c.in_ok-push.ensures.items

pub returns-clause-added : goal.returns-clause-added
returns-clause-added c = gather_end c.args.bytes.now c.reading.rest.now c.args.found.now.items c.reading.found.items c.reading.invariant c.in_default.ensures.none
