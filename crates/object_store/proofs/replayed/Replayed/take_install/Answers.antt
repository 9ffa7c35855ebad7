use Rattle.std.proofs.Common.{◌∙◌, ◌++◌, ◌∷◌, [], List, Option, ap, length, refl, rules, subst, sym}
use Rattle.std.specs.BTreeMap.{get}
use Rattle.rad_base.specs.Order.{rid_cmp}
use Rattle.repo_entries.specs.Items.{install}
use Rattle.repo_entries.specs.declared.entry.Entry.{Entry}
use Rattle.object_store.specs.Installs.{IsThere}
use Rattle.object_store.specs.declared.repository.Repository.{Repository}
use Rattle.object_store.proofs.Taking.{may_install, may_not_install, replay_few, took_illegal, took_install}
use Rattle.object_store.proofs.replayed.Replayed.take_install.Goals as goal

pub judge_at-requires : goal.judge_at-requires
judge_at-requires c =
    replay_few c.args.keyring.now c.args.self.now c.ensure_at.new.all c.args.rid.now c.requires.replay c.requires.legal c.in_ok-ensure_at.ensures.known

pub returns-then-not-is_whole_advance : goal.returns-then-not-is_whole_advance
returns-then-not-is_whole_advance c = λ items h.
    took_illegal c.args.keyring.now c.args.self.now items (install c.args.rid.now c.args.offer.id c.args.offer.remotes 0) c.count.result
    (may_not_install c.args.keyring.now c.args.rid.now items c.args.offer.id c.args.offer.remotes (get rid_cmp c.args.self.now.repositories c.args.rid.now)
    (get rid_cmp c.ensure_at.new.all c.args.rid.now) c.in_ok-verdict.verdict h.legal (h.each c.args.rid.now) c.in_ok-ensure_at.ensures.known c.in_ok-verdict.ensures.told
    (search rules))
    (c.count.ensures.is ∙ ap length c.in_ok-make_room.ensures.same) h

pub returns : goal.returns
returns c = λ items h.
    took_install c.args.keyring.now c.args.self.now _ c.judge_at.new.all c.stage_install_at.new.all c.args.rid.now
    (λ q other. c.in_ok-verdict.ensures.others q other ∙ c.in_ok-ensure_at.ensures.others q other)
    (subst (λ (r : Option Repository). IsThere c.args.rid.now (get rid_cmp c.args.self.now.repositories c.args.rid.now) r) (sym c.in_ok-verdict.ensures.same)
    c.in_ok-ensure_at.ensures.known)
    c.in_ok-entry.ensures.others c.in_ok-entry.ensures.same c.admit_at.ensures.others items h c.in_ok-entry.entry
    (c.push.ensures ∙ ap (λ (l : List Entry). l ++ c.in_ok-entry.entry ∷ []) c.in_ok-make_room.ensures.same) refl c.requires.legal c.admit_at.ensures.admitted
    c.args.offer.id c.args.offer.remotes c.requires.body
    (may_install c.args.keyring.now c.args.rid.now items c.args.offer.id c.args.offer.remotes (get rid_cmp c.args.self.now.repositories c.args.rid.now)
    (get rid_cmp c.ensure_at.new.all c.args.rid.now) c.in_ok-verdict.verdict h.legal (h.each c.args.rid.now) c.in_ok-ensure_at.ensures.known c.in_ok-verdict.ensures.told
    c.requires.body (search rules))
    c.in_ok-entry.ensures.entry c.in_ok-entry.ensures.staged
