use Rattle.std.proofs.Common.{◌≡◌, ◌⊎◌, ◌↔◌, List, Option, Some, subst, ◌∙◌}
use Rattle.std.specs.Prelude.{Contains, IfOk}
use Rattle.rad_base.specs.declared.names.Nid.{Nid}
use Rattle.rad_base.specs.declared.names.Oid.{Oid}
use Rattle.repo_slice.specs.Slices.{state_of}
use Rattle.object_store.proofs.wanted.names_on.Goals as goal

pub returns-clause-names : goal.returns-clause-names
returns-clause-names c =
    let by_id = subst (λ (id : Option Oid). IfOk c.names_of.result (λ oids. (oid : Oid) → Contains oids oid
    ↔ ((id ≡ Some oid) ⊎ ((node : Nid) × Contains c.as_slice.result.now (node, oid))))) c.id.ensures c.names_of.ensures.names in
    subst (λ (xs : List (Nid × Oid)). IfOk c.names_of.result (λ oids. (oid : Oid) → Contains oids oid
    ↔ (((state_of c.args.slice.now).id ≡ Some oid) ⊎ ((node : Nid) × Contains xs (node, oid))))) (c.as_slice.ensures.items ∙ c.remotes.ensures) by_id
