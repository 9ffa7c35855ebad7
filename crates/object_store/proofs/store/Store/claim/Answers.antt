use Rattle.std.proofs.Common.{◌∙◌, ◌++◌, ◌∷◌, [], List, ap, refl}
use Rattle.std.proofs.lemmas.Result.{err_from_is_err_and}
use Rattle.repo_entries.specs.declared.entry.Entry.{Entry}
use Rattle.repo_entries.specs.declared.entry.Entry.TheVariants.{Claim}
use Rattle.object_store.proofs.Claims.{claims_claimed, claims_equal, is_claimed}
use Rattle.object_store.proofs.Claiming.{claim_ok, claim_refused, each_still}
use Rattle.object_store.proofs.Moving.{nothing_done}
use Rattle.object_store.proofs.store.Store.claim.Goals as goal

pub returns-in_err-claim_at-clause-events : goal.returns-in_err-claim_at-clause-events
returns-in_err-claim_at-clause-events g c =
    let p = err_from_is_err_and c.from_residual-in_err-claim_at.result c.from_residual-in_err-claim_at.ensures.1 in
    rw (p.1, p.2) (λ core s.
    claim_refused _ _ _ _ g.met.D.Disk.only_now c.args.self.now _ core c.args.rid.now c.args.caller c.in_err-claim_at.field-0.0 s
    (nothing_done _ _ _ _ g.met.D.Disk.only_now c.args.self.now _ core s refl refl c.in_ok-make_room.ensures.same refl
    (each_still c.args.self.now.repositories c.claim_at.new.all c.args.rid.now core.items s.each c.in_err-claim_at.ensures.others c.in_err-claim_at.ensures.same))
    c.in_err-claim_at.ensures.by)

pub returns-clause-events : goal.returns-clause-events
returns-clause-events g c = λ core s.
    claim_ok _ _ _ _ g.met.D.Disk.only_now c.args.self.now _ core c.args.rid.now c.args.caller c.requires s refl refl refl
    (c.push.ensures ∙ ap (λ (l : List Entry). l ++ Claim c.args.rid.now c.args.caller ∷ []) c.in_ok-make_room.ensures.same)
    c.in_ok-claim_at.ensures.others c.in_ok-claim_at.ensures.ok c.in_ok-claim_at.ensures.claimed

pub returns-clause-claimed : goal.returns-clause-claimed
returns-clause-claimed g c = is_claimed c.args.self.now _ c.args.rid.now c.args.caller c.requires c.in_ok-claim_at.ensures.claimed

pub returns-clause-claims : goal.returns-clause-claims
returns-clause-claims g c = claims_claimed c.args.self.now _ c.args.rid.now c.in_ok-claim_at.ensures.others c.in_ok-claim_at.ensures.ok

pub returns-in_err-claim_at-clause-claims : goal.returns-in_err-claim_at-clause-claims
returns-in_err-claim_at-clause-claims g c = claims_equal c.args.self.now _ c.args.rid.now c.in_err-claim_at.ensures.others c.in_err-claim_at.ensures.same

pub returns-in_err-make_room-clause-events : goal.returns-in_err-make_room-clause-events
returns-in_err-make_room-clause-events g c =
    let p = err_from_is_err_and c.from_residual.result c.from_residual.ensures.1 in
    rw (p.1, p.2) (λ core s.
    nothing_done _ _ _ _ g.met.D.Disk.only_now c.args.self.now _ core s refl refl c.in_err-make_room.ensures.same refl s.each)
