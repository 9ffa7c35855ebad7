use Rattle.std.proofs.Common.{[]}
use Rattle.store_keep.proofs.Calling.{claim_adds, claimed_itself, stands_then}
use Rattle.store_keep.proofs.calls.claim_for.Goals as goal

pub returns-in-Ok-clause-adds : goal.returns-in-Ok-clause-adds
returns-in-Ok-clause-adds g c =
    claim_adds g.D.Disk.reads_as g.D.Disk.images g.D.Disk.moment g.D.Disk.images_since c.args.rid.now c.args.caller c.args.store.now c.claim.new.self c.claim.result c.claim.ensures.keyring c.claim.ensures.journal c.requires.stands c.claim.ensures.events

pub returns-in-Ok-clause-stands : goal.returns-in-Ok-clause-stands
returns-in-Ok-clause-stands g c =
    stands_then g.D.Disk.reads_as g.D.Disk.images g.D.Disk.moment g.D.Disk.images_since c.args.rid.now c.args.caller c.args.store.now c.claim.new.self [] c.requires.stands
    (claim_adds g.D.Disk.reads_as g.D.Disk.images g.D.Disk.moment g.D.Disk.images_since c.args.rid.now c.args.caller c.args.store.now c.claim.new.self c.claim.result c.claim.ensures.keyring c.claim.ensures.journal c.requires.stands c.claim.ensures.events)

pub returns-in-Err-Claimed-clause-adds : goal.returns-in-Err-Claimed-clause-adds
returns-in-Err-Claimed-clause-adds g c =
    claim_adds g.D.Disk.reads_as g.D.Disk.images g.D.Disk.moment g.D.Disk.images_since c.args.rid.now c.args.caller c.args.store.now c.claim.new.self c.claim.result c.claim.ensures.keyring c.claim.ensures.journal c.requires.stands c.claim.ensures.events

pub returns-in-Err-Claimed-clause-stands : goal.returns-in-Err-Claimed-clause-stands
returns-in-Err-Claimed-clause-stands g c =
    stands_then g.D.Disk.reads_as g.D.Disk.images g.D.Disk.moment g.D.Disk.images_since c.args.rid.now c.args.caller c.args.store.now c.claim.new.self [] c.requires.stands
    (claim_adds g.D.Disk.reads_as g.D.Disk.images g.D.Disk.moment g.D.Disk.images_since c.args.rid.now c.args.caller c.args.store.now c.claim.new.self c.claim.result c.claim.ensures.keyring c.claim.ensures.journal c.requires.stands c.claim.ensures.events)

pub returns-in-Err-Claimed-clause-claimed : goal.returns-in-Err-Claimed-clause-claimed
returns-in-Err-Claimed-clause-claimed g c =
    claimed_itself g.D.Disk.reads_as g.D.Disk.images g.D.Disk.moment g.D.Disk.images_since c.args.rid.now c.args.caller c.args.store.now c.claim.new.self c.in-Err-Claimed.field-0-0 c.requires.caller c.requires.stands c.requires.free c.claim.ensures.claims
    (rw c.in-Err-Claimed.field-0-is at c.in-Err-Claimed.ensures.events)

pub returns-in-Err-NoMemory-clause-adds : goal.returns-in-Err-NoMemory-clause-adds
returns-in-Err-NoMemory-clause-adds g c =
    claim_adds g.D.Disk.reads_as g.D.Disk.images g.D.Disk.moment g.D.Disk.images_since c.args.rid.now c.args.caller c.args.store.now c.claim.new.self c.claim.result c.claim.ensures.keyring c.claim.ensures.journal c.requires.stands c.claim.ensures.events

pub returns-in-Err-NoMemory-clause-stands : goal.returns-in-Err-NoMemory-clause-stands
returns-in-Err-NoMemory-clause-stands g c =
    stands_then g.D.Disk.reads_as g.D.Disk.images g.D.Disk.moment g.D.Disk.images_since c.args.rid.now c.args.caller c.args.store.now c.claim.new.self [] c.requires.stands
    (claim_adds g.D.Disk.reads_as g.D.Disk.images g.D.Disk.moment g.D.Disk.images_since c.args.rid.now c.args.caller c.args.store.now c.claim.new.self c.claim.result c.claim.ensures.keyring c.claim.ensures.journal c.requires.stands c.claim.ensures.events)
