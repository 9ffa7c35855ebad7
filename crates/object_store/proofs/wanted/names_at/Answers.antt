use Rattle.std.proofs.Common.{◌↔◌, Option, subst}
use Rattle.std.specs.Prelude.{Contains, IfOk}
use Rattle.rad_base.specs.declared.names.Oid.{Oid}
use Rattle.object_store.specs.Held.{IsNamedAt}
use Rattle.object_store.specs.declared.repository.Repository.{Repository}
use Rattle.object_store.proofs.wanted.names_at.Goals as goal

pub returns-in-Some-clause-names : goal.returns-in-Some-clause-names
returns-in-Some-clause-names c =
    subst (λ (r : Option Repository). IfOk c.names_on.result (λ oids. (oid : Oid) → Contains oids oid ↔ IsNamedAt r oid)) c.in-Some.ensures.value c.names_on.ensures.names
