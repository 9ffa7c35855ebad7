use Rattle.std.proofs.Common.{refl}
use Rattle.repo_slice.proofs.slice.Slice.stage_entry.Goals as goal
use Rattle.repo_slice.proofs.Staging.{on_ok, ready_put, stages_put}

pub returns-in-Put-clause-staged : goal.returns-in-Put-clause-staged
returns-in-Put-clause-staged c =
    on_ok c.stage_all.result _ _
    (λ e. stages_put c.args.self.now _ c.args.entry.now c.in-Put.rid c.in-Put.names c.in-Put.caller c.args.batch.now c.as_slice-in-Put.result.now
    c.in-Put.is c.as_slice-in-Put.ensures c.requires.none refl e)
    c.stage_all.ensures.pending

pub returns-in-Put-clause-ready : goal.returns-in-Put-clause-ready
returns-in-Put-clause-ready c =
    on_ok c.stage_all.result _ _
    (λ e. ready_put c.args.self.now _ c.args.entry.now c.in-Put.rid c.in-Put.names c.in-Put.caller c.args.batch.now c.as_slice-in-Put.result.now
    c.in-Put.is c.as_slice-in-Put.ensures c.requires.none refl c.requires.entry refl e)
    c.stage_all.ensures.pending
