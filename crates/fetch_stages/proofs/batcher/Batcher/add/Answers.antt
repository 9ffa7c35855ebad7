use Rattle.std.proofs.lemmas.Result.{err_from_is_err_and}
use Rattle.fetch_stages.proofs.Joining.{joins_one, stops_place, stops_push}
use Rattle.fetch_stages.proofs.batcher.Batcher.add.Goals as goal

pub returns-in_err-make_place-clause-stops : goal.returns-in_err-make_place-clause-stops
returns-in_err-make_place-clause-stops g c =
    let p = err_from_is_err_and c.from_residual.result c.from_residual.ensures.1 in
    rw (p.1, p.2)
    (stops_place g.K.Keep.made c.args.rid.now (g.K.Keep.constants c.args.keep.now).caller
    (g.K.Keep.end c.make_place.new.keep) c.args.keep.now c.make_place.new.keep c.args.self.now
    (c.args.kind, c.args.content) c.in_err-make_place.field-0.0 c.in_err-make_place.ensures.full
    c.in_err-make_place.ensures.stops)

pub returns-in_err-push-clause-stops : goal.returns-in_err-push-clause-stops
returns-in_err-push-clause-stops g c =
    let p = err_from_is_err_and c.from_residual-in_err-push.result c.from_residual-in_err-push.ensures.1 in
    let place = c.in_ok-make_place.ensures.place in
    rw (p.1, p.2)
    (stops_push g.K.Keep.made c.args.rid.now (g.K.Keep.constants c.args.keep.now).caller
    (g.K.Keep.end c.make_place.new.keep) c.args.keep.now c.make_place.new.keep c.args.self.now
    c.make_place.new.self (c.args.kind, c.args.content) place.0 place.1 place.2.entered)

pub returns-clause-joins : goal.returns-clause-joins
returns-clause-joins g c =
    let place = c.in_ok-make_place.ensures.place in
    rw c.in_ok-push.ensures.ok
    (joins_one g.K.Keep.made g.K.Keep.held c.args.rid.now (g.K.Keep.constants c.args.keep.now).caller
    c.args.keep.now c.make_place.new.keep c.args.self.now c.make_place.new.self
    (c.args.kind, c.args.content) place.0 place.1 place.2)
