use Rattle.routing.proofs.AddedRoutes.{route_added}
use Rattle.routing.proofs.routes.Routes.add.Goals as goal

pub returns : goal.returns
returns c = route_added c.args.self.now (record { pairs = c.insert.new.self }) c.args.rid c.args.node c.in_ok-insert.ensures.updates.0
