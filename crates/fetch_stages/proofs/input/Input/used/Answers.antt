use Rattle.std.proofs.Common.{ℕ, List, ap}
use Rattle.fetch_stages.proofs.Windows.{later_window}
use Rattle.fetch_stages.proofs.input.Input.used.Goals as goal

pub returns-clause-rest : goal.returns-clause-rest
returns-clause-rest g c =
    later_window c.self.inside.piece.items c.self.inside.from c.args.count c.self.inside.upto c.args.self.now.1
    (ap (λ (v : g.row.S.Denot × List ℕ). v.1) c.self.view_is) c.requires
