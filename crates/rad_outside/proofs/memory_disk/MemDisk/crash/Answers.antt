use Rattle.std.proofs.Common.{min, subst, sym}
use Rattle.rad_outside.specs.CallLog.{moment_of}
use Rattle.rad_outside.specs.CrashLaws.{filled_since}
use Rattle.rad_outside.specs.MemoryDisk.{IsImageSince}
use Rattle.rad_outside.proofs.memory_disk.MemDisk.crash.Goals as goal

pub returns-clause-since : goal.returns-clause-since
returns-clause-since c =
    let log = c.args.self.now.log in
    let since = IsImageSince log.first.items log.calls.items (min c.args.call (moment_of log)) in
    subst since (sym c.in_ok-crash.ensures) (filled_since c.args.fill log.first.items log.calls.items c.args.call)
