use Rattle.std.proofs.Common.{◌∙◌, ◌++◌, ◌∷◌, [], None}
use Rattle.rad_base.proofs.EachItem.{each_more}
use Rattle.entry_bodies.specs.Bodies.{HasBody, item_in}
use Rattle.ref_journal.proofs.Walks.{only_reads_on}
use Rattle.object_store.proofs.Reading.{begins_more, ended, had_all, met, no_entry}
use Rattle.object_store.proofs.replayed.read_all.Goals as goal

pub returns-in-Ok-None-clause-reading : goal.returns-in-Ok-None-clause-reading
returns-in-Ok-None-clause-reading g c =
    let walk = c.walking.invariant.walk in
    let rises = rw c.in-Some.is at c.in-Ok.ensures.rises in
    λ bodies h.
    let was = c.walking.invariant.held bodies h in
    let begins = walk.begins bodies h in
    no_entry bodies c.scan.new.into.items c.walking.place c.in-Some.gate walk.items walk.had_bodies (rw (c.in-Ok-None.field-0-is, c.deref.ensures.value) at c.in-Ok-None.ensures.none)
    begins (met g.D.Disk.reads_as g.D.Disk.images c.walking.journal c.walking.place c.in-Some.gate c.in-Ok.next c.scan.new.into.items bodies walk.items c.in-Some.is rises.0 rises.1 c.in-Ok.ensures.body was begins)

pub walking-preserved : goal.walking-preserved
walking-preserved g c =
    let walk = c.walking.invariant.walk in
    let rises = rw c.in-Some.is at c.in-Ok.ensures.rises in
    let found = rw (c.in-Ok-Some.field-0-is, c.deref.ensures.value) at c.in-Ok-Some.ensures.found in
    let item = item_in c.in-Ok-Some.body in
    record {
      walk = record {
        items = walk.items ++ item ∷ [];
        had_bodies = each_more HasBody walk.items item walk.had_bodies found.is;
        had = c.in-Ok-take.ensures walk.items walk.had;
        begins = λ bodies h.
            begins_more bodies c.scan.new.into.items c.in-Some.gate walk.items item found.text
            (met g.D.Disk.reads_as g.D.Disk.images c.walking.journal c.walking.place c.in-Some.gate c.in-Ok.next c.scan.new.into.items bodies walk.items c.in-Some.is rises.0 rises.1 c.in-Ok.ensures.body
            (c.walking.invariant.held bodies h) (walk.begins bodies h));
      };
      held = λ bodies h. c.in-Ok.ensures.keeps bodies None (c.walking.invariant.held bodies h);
      end = c.in-Ok.ensures.end ∙ c.walking.invariant.end;
      reads = only_reads_on g.D.Disk.loan g.D.Disk.faults g.D.Disk.reads_as g.D.Disk.images g.D.Disk.moment g.D.Disk.images_since _ _ _ c.walking.invariant.reads c.in-Ok.ensures.reads;
    }

pub returns-in-Some-illegal-clause-reading : goal.returns-in-Some-illegal-clause-reading
returns-in-Some-illegal-clause-reading g c =
    let walk = c.walking.invariant.walk in (
      walk.items,
      walk.had_bodies,
      rw c.in-Some-illegal.is at walk.had,
      λ bodies h. ended g.D.Disk.reads_as g.D.Disk.images c.walking.journal c.walking.place c.in-Ok.next c.scan.new.into.items bodies walk.items c.in_default.is c.in-Ok.ensures.body
          (c.walking.invariant.held bodies h) (walk.begins bodies h),
    )

pub returns-in-None-clause-reading : goal.returns-in-None-clause-reading
returns-in-None-clause-reading g c =
    let walk = c.walking.invariant.walk in (
      walk.items,
      walk.had_bodies,
      had_all c.args.keyring.now c.walking.read c.walking.read.illegal walk.items c.in-None.is walk.had,
      λ bodies h. ended g.D.Disk.reads_as g.D.Disk.images c.walking.journal c.walking.place c.in-Ok.next c.scan.new.into.items bodies walk.items c.in_default.is c.in-Ok.ensures.body
          (c.walking.invariant.held bodies h) (walk.begins bodies h),
    )

pub returns-in-Err-DiskFault-clause-keeps : goal.returns-in-Err-DiskFault-clause-keeps
returns-in-Err-DiskFault-clause-keeps g c = λ bodies h. c.scan.ensures.keeps bodies None (c.walking.invariant.held bodies h)

pub returns-in-Err-NoMemory-clause-keeps : goal.returns-in-Err-NoMemory-clause-keeps
returns-in-Err-NoMemory-clause-keeps g c = λ bodies h. c.scan.ensures.keeps bodies None (c.walking.invariant.held bodies h)

pub returns-in-Err-clause-keeps : goal.returns-in-Err-clause-keeps
returns-in-Err-clause-keeps g c = λ bodies h. c.scan.ensures.keeps bodies None (c.walking.invariant.held bodies h)

pub returns-in-Ok-None-clause-keeps : goal.returns-in-Ok-None-clause-keeps
returns-in-Ok-None-clause-keeps g c = λ bodies h. c.scan.ensures.keeps bodies None (c.walking.invariant.held bodies h)

pub returns-in-Err-take-clause-keeps : goal.returns-in-Err-take-clause-keeps
returns-in-Err-take-clause-keeps g c = λ bodies h. c.scan.ensures.keeps bodies None (c.walking.invariant.held bodies h)

pub returns-in-Some-illegal-clause-keeps : goal.returns-in-Some-illegal-clause-keeps
returns-in-Some-illegal-clause-keeps g c = λ bodies h. c.scan.ensures.keeps bodies None (c.walking.invariant.held bodies h)

pub returns-in-None-clause-keeps : goal.returns-in-None-clause-keeps
returns-in-None-clause-keeps g c = λ bodies h. c.scan.ensures.keeps bodies None (c.walking.invariant.held bodies h)
