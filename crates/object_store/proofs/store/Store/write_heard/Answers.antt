use Rattle.object_store.proofs.store.Store.write_heard.Goals as goal

pub returns-in-Err-DiskFault-clause-fault : goal.returns-in-Err-DiskFault-clause-fault
returns-in-Err-DiskFault-clause-fault g c = record {
  in_doubt = c.in-Err-DiskFault.in_doubt;
  entries = rw c.into_missed-missed.ensures at c.push-in-Err-DiskFault.ensures;
  left = rw c.in-Err-DiskFault.field-0-is at c.in-Err-DiskFault.ensures.left;
  time = rw c.in-Err-DiskFault.field-0-is at c.in-Err-DiskFault.ensures.moments;
}

pub returns-in-Ok-clause-wrote : goal.returns-in-Ok-clause-wrote
returns-in-Ok-clause-wrote g c = record {
  entries = c.push.ensures;
  holds = c.in-Ok.ensures.holds;
  time = c.in-Ok.ensures.moments;
}
