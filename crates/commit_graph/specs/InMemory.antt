-- Objects in memory by the names that their bytes have.
use Rattle.std.proofs.Common.{◌≡◌, Bool, true, false, cond, List, [], ◌∷◌, Option, Some, None, refl, sym, ap, subst, ◌∙◌}
use Rattle.std.specs.BTreeMap.{is_at}
use Rattle.rad_base.specs.declared.names.Oid.{Oid}
use Rattle.rad_base.specs.Order.{oid_cmp}
use Rattle.rad_base.proofs.NameOrder.{equal_from_is_eq, oid_exact}
use Rattle.rad_base.proofs.Options.{some_is}
use Rattle.git_object.specs.Names.{name}
use Rattle.commit_graph.specs.Objects.{IsNamed, Object, ObjectMap}

-- the first of the objects that has a name
abbrev pub objects_in : List Object → ObjectMap
objects_in [] oid = None
objects_in (object ∷ objects) oid =
    cond (is_at (oid_cmp oid) (name object.0 object.1)) (Some object) (objects_in objects oid)

-- the objects that are there, and those that are there once what is staged is admitted
pub record Holding : Type 0 where
  pub objects : List Object
  pub pending : List Object

named_as : (b : Bool) (object found : Object) (rest : Option Object) (oid : Oid)
    → is_at (oid_cmp oid) (name object.0 object.1) ≡ b
    → (rest ≡ Some found → name found.0 found.1 ≡ oid) → cond b (Some object) rest ≡ Some found
    → name found.0 found.1 ≡ oid
named_as true object found rest oid h later e =
    let same : object ≡ found = some_is object found e in
    sym (ap (λ (o : Object). name o.0 o.1) same) ∙ sym (oid_exact oid (name object.0 object.1) (equal_from_is_eq _ h))
named_as false object found rest oid h later e = later e

-- each of them has its name
pub named_each : (objects : List Object) (oid : Oid) (found : Object)
    → objects_in objects oid ≡ Some found → name found.0 found.1 ≡ oid
named_each [] oid found e = cc e
named_each (object ∷ objects) oid found e =
    named_as (is_at (oid_cmp oid) (name object.0 object.1)) object found (objects_in objects oid) oid refl (named_each objects oid found) e

pub objects_are_named : (objects : List Object) (m : ObjectMap) → Some (objects_in objects) ≡ Some m
    → IsNamed m
objects_are_named objects m e =
    subst IsNamed (some_is (objects_in objects) m e) (λ oid object there. named_each objects oid object there)
