use Rattle.std.proofs.Common.{refl}
use Rattle.rad_base.proofs.Options.{not_nothing}
use Rattle.signed_refs.proofs.Told.{root_kept}
use Rattle.signed_refs.proofs.signed_commit.keeps_root.Goals as goal

pub returns-in_default-clause-told : goal.returns-in_default-clause-told
returns-in_default-clause-told g c = λ m e. ((λ t oid has. absurd (not_nothing ((c.get.ensures oid).1 has) c.in_default.is)), λ h. refl)

pub returns-clause-told : goal.returns-clause-told
returns-clause-told g c = λ m e.
    root_kept m c.args.rid.now c.args.refs.now c.get.result c.in-Some.oid c.in_ok-keeps.keeps c.get.ensures c.in-Some.is (c.in_ok-keeps.ensures.told m e)
