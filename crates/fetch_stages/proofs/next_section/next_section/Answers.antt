use Rattle.std.proofs.Common.{◌-◌, ◌^◌}
use Rattle.std.specs.Io.KnownBytes.{IsAtEnd}
use Rattle.std.proofs.lemmas.Result.{err_from_is_err_and}
use Rattle.rad_base.specs.Faults.{Rose}
use Rattle.fetch_stages.proofs.Next.{puts_next, stops_at_start, stops_next}
use Rattle.fetch_stages.proofs.next_section.next_section.Goals as goal

pub returns-in_err-begin_section-clause-stops : goal.returns-in_err-begin_section-clause-stops
returns-in_err-begin_section-clause-stops g c =
    let keep = g.K.Keep in
    let source = g.S.Source in
    let p = err_from_is_err_and c.from_residual.result c.from_residual.ensures.1 in
    rw (p.1, p.2)
    (stops_at_start keep.made (keep.constants c.args.keep.now) c.args.rid.now (keep.end c.args.keep.now) c.args.keep.now
    c.args.which c.args.place (2 ^ 30 - c.args.place) (source.left c.args.input.now.0) (source.left c.begin_section.new.input.0)
    c.args.input.now.1 c.begin_section.new.input.1
    (Rose (source.faults c.args.input.now.0) (source.faults c.begin_section.new.input.0)) c.in_err-begin_section.field-0.0
    c.requires.within c.in_err-begin_section.ensures.fills c.in_err-begin_section.ensures.stops)

pub returns-in-Ok-clause-puts : goal.returns-in-Ok-clause-puts
returns-in-Ok-clause-puts g c =
    let keep = g.K.Keep in
    let source = g.S.Source in
    let start = c.in_ok-begin_section.ensures in
    puts_next keep.made keep.held c.args.rid.now (keep.constants c.args.keep.now).caller c.args.keep.now c.put_section.new.keep
    c.args.which (2 ^ 30 - c.args.place) (source.left c.args.input.now.0) (source.left c.begin_section.new.input.0)
    (source.left c.put_section.new.input.0) c.args.input.now.1 c.begin_section.new.input.1 c.put_section.new.input.1
    c.in-Ok.section start.fills start.some start.begins c.in-Ok.ensures.puts

pub returns-in-Err-clause-stops : goal.returns-in-Err-clause-stops
returns-in-Err-clause-stops g c =
    let keep = g.K.Keep in
    let source = g.S.Source in
    let start = c.in_ok-begin_section.ensures in
    stops_next keep.made keep.held (keep.constants c.args.keep.now) c.args.rid.now (keep.end c.put_section.new.keep)
    c.args.keep.now c.put_section.new.keep c.args.which c.args.place (2 ^ 30 - c.args.place)
    (source.left c.args.input.now.0) (source.left c.begin_section.new.input.0) (source.left c.put_section.new.input.0)
    (source.left c.stop_at.new.input.0) c.args.input.now.1 c.begin_section.new.input.1 c.put_section.new.input.1
    c.stop_at.new.input.1 (IsAtEnd (source.left c.put_section.new.input.0)) start.fills start.some start.begins
    (Rose (source.faults c.put_section.new.input.0) (source.faults c.stop_at.new.input.0)) c.in-Err.stop c.stop_at.result
    (λ ended. ended) c.stop_at.ensures.fills c.in-Err.ensures.stops c.stop_at.ensures.same c.stop_at.ensures.is
