use Rattle.std.proofs.Common.{◌-◌, refl, []}
use Rattle.std.proofs.lemmas.Result.{err_from_is_err_and}
use Rattle.repo_entries.specs.Items.{put}
use Rattle.repo_slice.proofs.Stopping.{stops_for_memory, stops_missed}
use Rattle.repo_slice.proofs.mem_keep.MemKeepKeep.put.Goals as goal

pub returns-in_err-miss-clause-stops : goal.returns-in_err-miss-clause-stops
returns-in_err-miss-clause-stops c =
    let p = err_from_is_err_and c.from_residual.result c.from_residual.ensures.1 in
    rw (p.1, p.2) (stops_for_memory c.args.rid.now c.args.self.now c.miss.new.self (put c.args.rid.now c.args.batch.now 1) [] c.in_err-miss.ensures.err)

pub returns-then-self-eq0-clause-stops : goal.returns-then-self-eq0-clause-stops
returns-then-self-eq0-clause-stops c =
    stops_missed c.args.rid.now c.args.self.now c.miss.new.self (put c.args.rid.now c.args.batch.now 1) [] c.in_ok-miss.ensures.ok

pub returns-in_err-copy-clause-stops : goal.returns-in_err-copy-clause-stops
returns-in_err-copy-clause-stops c =
    let p = err_from_is_err_and c.from_residual-in_err-copy.result c.from_residual-in_err-copy.ensures.1 in
    rw (p.1, p.2) (stops_for_memory c.args.rid.now c.args.self.now
    (record { made = c.args.self.now.made; calls_left = c.args.self.now.calls_left - 1; faults = c.args.self.now.faults })
    (put c.args.rid.now c.args.batch.now 1) [] refl)

pub returns-in_err-make-clause-stops : goal.returns-in_err-make-clause-stops
returns-in_err-make-clause-stops c =
    let p = err_from_is_err_and c.from_residual-in_err-make.result c.from_residual-in_err-make.ensures.1 in
    rw (p.1, p.2) (stops_for_memory c.args.rid.now c.args.self.now c.make.new.self (put c.args.rid.now c.args.batch.now 1) [] c.in_err-make.ensures.err)
