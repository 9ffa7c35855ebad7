use Rattle.std.proofs.Common.{◌≡◌, ◌∙◌, Some, ⊎_elim, inl, inr}
use Rattle.rad_node.specs.Statuses.{generated_keyring}
use Rattle.rad_node.specs.Runs.{LeavesAlso}
use Rattle.rad_node.specs.Transfers.{GivesBy}
use Rattle.rad_base.specs.Faults.{Rose}
use Rattle.rad_node.proofs.Importing.{imports_generated}
use Rattle.rad_node.proofs.Openings.{generated_said}
use Rattle.rad_node.proofs.generating.generate.Goals as goal

pub returns-clause-done : goal.returns-clause-done
returns-clause-done g c =
    let given = g.W.Sink.given in
    let keys : c.new-keys.result.rest.now ≡ generated_keyring c.args.commits = c.new-keys.ensures ∙ c.as_slice.ensures ∙ c.in-Ok.ensures.keyring in
    let bytes : c.new-input.result.rest.now ≡ c.in-Ok.made.bundle = c.new-input.ensures ∙ c.as_slice-2.ensures in
    ⊎_elim (λ i. inl (imports_generated c.args.commits (g.D.Disk.reads_as c.args.disk) (g.D.Disk.images c.import.result.1)
    (LeavesAlso (g.D.Disk.images c.args.disk) (g.D.Disk.images_since c.import.result.1 (g.D.Disk.moment c.args.disk)))
    (GivesBy c.import.result.0 (given c.args.out.now) (given c.import.new.out)) c.import.result.0 c.new-keys.result.rest.now c.new-input.result.rest.now
    (Some c.import.new.input.rest.now) keys (rw bytes c.in-Ok.ensures.bundle) i)) (λ x. inr (x.0, x.1)) c.import.ensures.done

pub returns-clause-said : goal.returns-clause-said
returns-clause-said g c =
    generated_said c.args.commits c.new-keys.result.rest.now (generated_keyring c.args.commits) (g.D.Disk.reads_as c.args.disk)
    (Rose (g.D.Disk.faults c.args.disk) (g.D.Disk.faults c.import.result.1)) (Rose (g.W.Sink.faults c.args.out.now) (g.W.Sink.faults c.import.new.out))
    c.import.result.0 (c.new-keys.ensures ∙ c.as_slice.ensures ∙ c.in-Ok.ensures.keyring) c.import.ensures.cause c.import.ensures.said
