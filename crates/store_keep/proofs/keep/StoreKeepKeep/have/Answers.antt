use Rattle.std.proofs.Common.{◌↔◌, subst}
use Rattle.std.specs.Prelude.{Contains, IfOk}
use Rattle.rad_base.specs.declared.names.Oid.{Oid}
use Rattle.repo_slice.specs.Keeps.{IsNamedIn}
use Rattle.object_store.specs.Held.{held_at}
use Rattle.store_keep.specs.Kept.{Kept}
use Rattle.store_keep.proofs.keep.StoreKeepKeep.have.Goals as goal

pub returns-clause-names : goal.returns-clause-names
returns-clause-names g c =
    subst (λ (k : Kept g.row.D.Denot). IfOk c.have_for.result (λ oids. (oid : Oid) → Contains oids oid ↔ IsNamedIn (held_at k.store c.args.rid.now) oid)) c.self.view_is c.have_for.ensures.names
