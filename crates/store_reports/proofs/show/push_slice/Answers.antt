use Rattle.repo_slice.specs.Slices.{objects_of, state_of}
use Rattle.store_reports.proofs.Adding.{on_ok}
use Rattle.store_reports.proofs.Showing.{slice_adds}
use Rattle.store_reports.proofs.show.push_slice.Goals as goal

pub returns : goal.returns
returns c = λ keyring good.
    on_ok c.push_remotes.result _ _ (c.push_remotes.ensures keyring good) (λ h.
    slice_adds (objects_of c.args.slice.now) (state_of c.args.slice.now) c.rid.result.now c.id.result c.args.text.now.items c.push_repository.new.text.items
    c.push_remotes.new.text.items c.rid.ensures c.id.ensures c.in_ok-push_repository.ensures h)
