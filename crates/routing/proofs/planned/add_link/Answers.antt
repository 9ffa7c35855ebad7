use Rattle.std.proofs.Common.{Option, sym, subst}
use Rattle.std.specs.BTreeMap.{get}
use Rattle.rad_base.specs.Order.{nid_cmp}
use Rattle.rad_base.specs.declared.names.Nid.{Nid}
use Rattle.routing.specs.Plans.{AddsLink}
use Rattle.routing.proofs.Links.{link_first, link_known}
use Rattle.routing.proofs.RidOrder.{none_of, some_of}
use Rattle.routing.proofs.planned.add_link.Goals as goal

pub returns-then-contains_key : goal.returns-then-contains_key
returns-then-contains_key c =
    let links = c.args.links.now in
    let known = some_of (get nid_cmp links c.in-Some.node) c.contains_key.result c.contains_key.ensures c.if-contains_key.true in
    subst (λ (p : Option Nid). AddsLink p c.args.link links links) (sym c.in-Some.is) (link_known c.in-Some.node c.args.link known.0 links known.1)

pub returns : goal.returns
returns c =
    let links = c.args.links.now in
    let unknown = none_of (get nid_cmp links c.in-Some.node) c.contains_key.result c.contains_key.ensures c.if-contains_key.false in
    subst (λ (p : Option Nid). AddsLink p c.args.link links c.insert.new.self) (sym c.in-Some.is)
    (link_first c.in-Some.node c.args.link links c.insert.new.self unknown c.in_ok-insert.ensures.updates.0)
