use Rattle.std.proofs.Common.{◌≡◌, ◌-◌, List, ℕ, None}
use Rattle.ref_journal.specs.Holds.{Holds, OnlyReads}
use Rattle.object_store.specs.Opens.{IsWalk}
use Rattle.object_store.proofs.replayed.read_all.Given as goal

abbrev pub invariant-walking : goal.invariant-walking
invariant-walking g l = record {
  walk : IsWalk g.D.Disk.reads_as g.D.Disk.images l.initial.journal l.keyring l.place l.read;
  held : (bodies : List (List ℕ)) → Holds g.D.Disk.reads_as g.D.Disk.images l.initial.journal bodies None → Holds g.D.Disk.reads_as g.D.Disk.images l.journal bodies None;
  end : l.journal.end ≡ l.initial.journal.end;
  reads : OnlyReads g.D.Disk.loan g.D.Disk.faults g.D.Disk.reads_as g.D.Disk.images g.D.Disk.moment g.D.Disk.images_since l.initial.journal.disk l.journal.disk;
}

abbrev pub decreases-walking : goal.decreases-walking
decreases-walking g l = l.journal.end - l.place
