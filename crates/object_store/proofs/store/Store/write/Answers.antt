use Rattle.object_store.proofs.store.Store.write.Goals as goal

pub returns-in-Err-DiskFault-clause-fault : goal.returns-in-Err-DiskFault-clause-fault
returns-in-Err-DiskFault-clause-fault g c = record {
  let_go = record { same = c.unstage_at-in-Err-DiskFault.ensures.same; idle = c.unstage_at-in-Err-DiskFault.ensures.idle };
  in_doubt = c.in-Err-DiskFault.in_doubt;
  entries = rw (c.into_missed-missed.ensures, c.in-Err-DiskFault.field-0-is) at c.push-in-Err-DiskFault.ensures;
  left = rw c.in-Err-DiskFault.field-0-is at c.in-Err-DiskFault.ensures.left;
  time = rw c.in-Err-DiskFault.field-0-is at c.in-Err-DiskFault.ensures.moments;
}

pub returns-in-Ok-clause-wrote : goal.returns-in-Ok-clause-wrote
returns-in-Ok-clause-wrote g c = record {
  admitted = c.admit_at.ensures.admitted;
  entries = c.push.ensures;
  holds = c.in-Ok.ensures.holds;
  time = c.in-Ok.ensures.moments;
}
