use Rattle.std.proofs.Common.{refl, rules, ◌≡◌, []}
use Rattle.gossip_wire.proofs.WireReads.{filled, not_filled, reads_none, some_of}
use Rattle.gossip_wire.proofs.wire.Wire.refill.Goals as goal

pub returns-clause-ok : goal.returns-clause-ok
returns-clause-ok g c =
    (reads_none _, (λ _. some_of c.args.self.now.window (λ none. absurd (cc (c.is_empty.ensures.1 none, c.if-is_empty.false))), λ _. refl), λ e. absurd (cc e))

pub returns-then-is_empty-clause-ok : goal.returns-then-is_empty-clause-ok
returns-then-is_empty-clause-ok g c =
    let self = c.args.self.now in
    let empty : self.window ≡ [] = c.is_empty.ensures.0 c.if-is_empty.true in
    filled self.reader self.window c.fill.new.self self.place self.budget (g.L.Source.left self.link) (g.L.Source.left c.fill.new.source) empty c.fill.result c.fill.ensures.ok

pub returns-then-is_empty-clause-err : goal.returns-then-is_empty-clause-err
returns-then-is_empty-clause-err g c =
    let self = c.args.self.now in
    let empty : self.window ≡ [] = c.is_empty.ensures.0 c.if-is_empty.true in
    not_filled self.reader self.window c.fill.new.self self.place self.budget (g.L.Source.left self.link) (g.L.Source.left c.fill.new.source) empty c.fill.result _ c.fill.ensures.err
