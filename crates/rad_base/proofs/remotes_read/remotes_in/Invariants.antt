use Rattle.rad_base.proofs.RemotesRead.{HasRemotes}
use Rattle.rad_base.proofs.remotes_read.remotes_in.Given as goal

abbrev pub invariant-remotes : goal.invariant-remotes
invariant-remotes l = HasRemotes l.bytes l.counter l.remotes l.rest
