use Rattle.std.proofs.Common.{◌-◌, arith}
use Rattle.ref_journal.proofs.Scanning.{left_body, scanned}
use Rattle.ref_journal.proofs.journal.Journal.scan.Goals as goal

pub returns-then-left-lt9-clause-body : goal.returns-then-left-lt9-clause-body
returns-then-left-lt9-clause-body g c = λ before after body doubt h at.
    absurd (omega (arith, (left_body before after body doubt h.tells.bytes c.args.place c.args.self.now.end h.tells.has at).1, c.if-left-lt9.true))

pub returns-clause-body : goal.returns-clause-body
returns-clause-body g c = λ before after body doubt h at.
    scanned _ before after body doubt h.tells.bytes _ c.args.place c.args.self.now.end (c.saturating_sub-left.result - 9) c.in_ok-size.size
    h.tells.told h.tells.has at (omega (arith, c.saturating_sub-left.ensures)) c.in_ok-size.ensures.body
