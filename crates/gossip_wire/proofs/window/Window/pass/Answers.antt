use Rattle.gossip_wire.proofs.Windows.{passed}
use Rattle.gossip_wire.proofs.window.Window.pass.Goals as goal

pub returns : goal.returns
returns c =
    let w = c.self.inside in
    let fits = rw (← c.self.view_is) at c.requires in
    rw (← c.self.view_is) (passed w.buffer.items w.start w.end c.args.count fits)
