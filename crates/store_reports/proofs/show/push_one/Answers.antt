use Rattle.store_reports.proofs.Adding.{on_ok}
use Rattle.store_reports.proofs.Showing.{repository_adds, slice_good}
use Rattle.store_reports.proofs.show.push_one.Goals as goal

pub returns-in-Some : goal.returns-in-Some
returns-in-Some g c = λ items s shows.
    let shown = c.in-Some.ensures items s in
    let keyring = c.args.store.now.keyring in
    on_ok c.push_slice.result _ _ (c.push_slice.ensures keyring (slice_good c.in-Some.slice.now c.args.rid.now keyring items s.legal shown.1 shown.2)) (λ h.
    repository_adds c.in-Some.slice.now c.args.rid.now items c.args.text.now.items c.push_slice.new.text.items shown.1 shown.2 h)
