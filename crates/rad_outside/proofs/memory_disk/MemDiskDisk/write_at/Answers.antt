use Rattle.rad_outside.proofs.Written.{written_on_ok}
use Rattle.rad_outside.specs.CallLog.{state_of}
use Rattle.rad_outside.proofs.memory_disk.MemDiskDisk.write_at.Goals as goal

-- src/memory_disk.rt:127:5
pub returns-clause-written : goal.returns-clause-written
returns-clause-written c =
    rw c.end_call.ensures.log (written_on_ok c.write-kept.result c.end_call.result c.args.place c.args.bytes.now c.fails_next-to_fail.result
    (state_of c.args.self.now.log) (state_of c.write-kept.new.self) c.end_call.ensures.ok c.write-kept.ensures.ok)
