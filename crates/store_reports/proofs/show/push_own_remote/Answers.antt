use Rattle.std.proofs.Common.{ap, length, refl}
use Rattle.repo_slice.specs.Slices.{objects_of, state_of}
use Rattle.report_texts.specs.declared.shown.ShownRemote.{ShownRemote}
use Rattle.store_reports.proofs.Adding.{on_ok}
use Rattle.store_reports.proofs.Showing.{none_missing, remote_shown}
use Rattle.store_reports.proofs.show.push_own_remote.Goals as goal

pub returns-in-Ok-Some : goal.returns-in-Ok-Some
returns-in-Ok-Some c = λ keyring good there.
    let shown : ShownRemote = record { node = c.args.node.now; commit = c.args.commit.now; lines = length c.as_slice.result.now } in
    on_ok c.push_remote.result _ _ c.push_remote.ensures (λ w. record {
      one = shown;
      is = remote_shown (objects_of c.args.slice.now) (state_of c.args.slice.now) c.args.node.now c.args.commit.now c.in-Ok-Some.refs shown
          (rw c.in-Ok-Some.field-0-is at (c.in-Ok-Some.ensures.told keyring good)) there refl refl (ap length c.as_slice.ensures.items);
      written = w;
    })

pub returns-in-Ok-None : goal.returns-in-Ok-None
returns-in-Ok-None c = λ keyring good there.
    absurd (none_missing (objects_of c.args.slice.now) (state_of c.args.slice.now) c.args.node.now c.args.commit.now
    (rw c.in-Ok-None.field-0-is at (c.in-Ok-None.ensures.told keyring good)) there)
