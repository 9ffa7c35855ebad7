use Rattle.std.proofs.Common.{◌≡◌, ◌∙◌, ◌++◌, ◌∷◌, [], List, ap, length, refl, rules}
use Rattle.announcements.specs.Held.{kept_in}
use Rattle.announcements.specs.declared.heard.Heard.TheVariants.{Raised}
use Rattle.repo_entries.specs.Items.{heard}
use Rattle.repo_entries.specs.declared.entry.Entry.{Entry}
use Rattle.object_store.proofs.Hearing.{may_raise_last, took_heard}
use Rattle.object_store.proofs.Taking.{took_illegal}
use Rattle.object_store.proofs.replayed.Replayed.take_heard.Goals as goal

pub returns-then-not-matches : goal.returns-then-not-matches
returns-then-not-matches c = λ items h.
    let none : c.in_ok-heard.heard ≡ Raised → ⊥ = search rules in
    took_illegal c.args.keyring.now c.args.self.now items (heard c.args.message.now 0) c.count.result
    (λ lawful. none (c.in_ok-heard.ensures.told ∙ may_raise_last (kept_in c.args.self.now.table) c.args.keyring.now items c.args.message.now h.table lawful))
    (c.count.ensures.is ∙ ap length c.in_ok-make_room.ensures.same) h

pub returns : goal.returns
returns c = λ items h.
    let raised : c.in_ok-heard.heard ≡ Raised = search rules in
    took_heard c.args.keyring.now c.args.self.now _ items c.args.message.now c.in_ok-entry.entry c.in_ok-heard.heard h c.requires.body raised c.in_ok-heard.ensures.told
    c.in_ok-heard.ensures.kept c.in_ok-entry.ensures (c.push.ensures ∙ ap (λ (l : List Entry). l ++ c.in_ok-entry.entry ∷ []) c.in_ok-make_room.ensures.same) refl c.requires.legal
