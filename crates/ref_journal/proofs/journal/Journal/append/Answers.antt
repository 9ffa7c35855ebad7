use Rattle.std.proofs.Common.{Err, ap, inl, inr}
use Rattle.std.proofs.lemmas.Result.{err_from_is_err_and}
use Rattle.ref_journal.proofs.Appending.{left_after_mend, moments_none}
use Rattle.ref_journal.proofs.Lasting.{leaves_both, leaves_more}
use Rattle.ref_journal.proofs.journal.Journal.append.Goals as goal

pub returns-then-self-size-clause-moments : goal.returns-then-self-size-clause-moments
returns-then-self-size-clause-moments g c = λ bodies doubt h.
    leaves_more _ _ _ _ _ _ (λ image has. inl has)
    (moments_none bodies doubt c.args.self.now.end _ _ _ _ h.tells (g.met.D.Disk.only_now c.args.self.now.disk))

pub returns-in_err-mend-clause-left : goal.returns-in_err-mend-clause-left
returns-in_err-mend-clause-left g c =
    let p = err_from_is_err_and c.from_residual.result c.from_residual.ensures.1 in
    rw (p.1, p.2) (λ bodies doubt h. inr (c.in_err-mend.ensures.kept bodies doubt h))

pub returns-in_err-mend-clause-moments : goal.returns-in_err-mend-clause-moments
returns-in_err-mend-clause-moments g c = λ bodies doubt h.
    leaves_more _ _ _ _ _ _ (λ image has. inl has) (c.in_err-mend.ensures.moments bodies doubt h)

pub returns-in_err-enter-clause-left : goal.returns-in_err-enter-clause-left
returns-in_err-enter-clause-left g c =
    let p = err_from_is_err_and c.from_residual-in_err-enter.result c.from_residual-in_err-enter.ensures.1 in
    rw (p.1, p.2) (λ bodies doubt h.
    left_after_mend {D = g.row.D.Denot} g.D.Disk.reads_as g.D.Disk.images bodies doubt c.args.parcel.now c.enter.new.self c.in_err-enter.field-0.0 (λ e. c.in_err-enter.ensures.not_full (ap Err e))
    (c.in_err-enter.ensures.left bodies c.args.parcel.now c.framed-frame.ensures.bytes c.framed-frame.ensures.size (c.in_ok-mend.ensures.mended bodies doubt h)))

pub returns-in_err-enter-clause-moments : goal.returns-in_err-enter-clause-moments
returns-in_err-enter-clause-moments g c =
    let p = err_from_is_err_and c.from_residual-in_err-enter.result c.from_residual-in_err-enter.ensures.1 in
    rw (p.1, p.2) (λ bodies doubt h.
    leaves_both _ _ _ _ _ _ _
    (leaves_more _ _ _ _ _ _ (λ image has. inl has) (c.in_ok-mend.ensures.moments bodies doubt h))
    (leaves_more _ _ _ _ _ _ (λ image has. inr has) (c.in_err-enter.ensures.moments bodies c.args.parcel.now c.framed-frame.ensures.bytes c.framed-frame.ensures.size
    (c.in_ok-mend.ensures.mended bodies doubt h))))

pub returns-clause-holds : goal.returns-clause-holds
returns-clause-holds g c = λ bodies doubt h.
    c.in_ok-enter.ensures.holds bodies c.args.parcel.now c.framed-frame.ensures.bytes c.framed-frame.ensures.size (c.in_ok-mend.ensures.mended bodies doubt h)

pub returns-clause-moments : goal.returns-clause-moments
returns-clause-moments g c = λ bodies doubt h.
    leaves_both _ _ _ _ _ _ _
    (leaves_more _ _ _ _ _ _ (λ image has. inl has) (c.in_ok-mend.ensures.moments bodies doubt h))
    (leaves_more _ _ _ _ _ _ (λ image has. inr has) (c.in_ok-enter.ensures.moments bodies c.args.parcel.now c.framed-frame.ensures.bytes c.framed-frame.ensures.size
    (c.in_ok-mend.ensures.mended bodies doubt h)))
