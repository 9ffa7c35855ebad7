use Rattle.std.proofs.Common.{◌∙◌, ◌++◌, ◌∷◌, [], List, ap, refl, rules}
use Rattle.repo_entries.specs.Batches.{IsBatch}
use Rattle.repo_entries.specs.Items.{put}
use Rattle.repo_entries.specs.declared.entry.Entry.{Entry}
use Rattle.object_store.proofs.Taking.{took_illegal, took_put}
use Rattle.object_store.proofs.replayed.Replayed.take_put.Goals as goal

pub returns-then-not-is_batch : goal.returns-then-not-is_batch
returns-then-not-is_batch c = λ keyring items h.
    let none : IsBatch c.args.batch.now → ⊥ = search rules in
    took_illegal keyring c.args.self.now items (put c.args.rid.now c.args.batch.now 0) c.count.result (λ lawful. none lawful.0) c.count.ensures.is h

pub returns : goal.returns
returns c = λ keyring items h.
    took_put keyring c.args.self.now _ c.ensure_at.new.all c.stage_put_at.new.all c.args.rid.now c.in_ok-ensure_at.ensures.others c.in_ok-ensure_at.ensures.known
    c.in_ok-entry.ensures.others c.in_ok-entry.ensures.same c.admit_at.ensures.others items h c.in_ok-entry.entry
    (c.push.ensures ∙ ap (λ (l : List Entry). l ++ c.in_ok-entry.entry ∷ []) c.in_ok-make_room.ensures.same) refl c.requires.legal c.admit_at.ensures.admitted
    c.args.batch.now c.requires.body (search rules) c.in_ok-entry.ensures.entry c.in_ok-entry.ensures.staged
