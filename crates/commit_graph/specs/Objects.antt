-- Objects by name.
use Rattle.std.specs.Prelude.{◌≡◌, ℕ, List, Option, Some, None}
use Rattle.rad_base.specs.declared.names.Oid.{Oid}
use Rattle.git_object.specs.declared.kind.Kind.{Kind}
use Rattle.git_object.specs.Names.{name}
use denote.Ref.{Bor}

-- a kind and a content
abbrev pub Object : Type 0
Object = Kind × List ℕ

-- a map from names to objects
abbrev pub ObjectMap : Type 0
ObjectMap = Oid → Option Object

-- what an answer of `get` shows
abbrev pub shown : Option (Kind × Bor (List ℕ)) → Option Object
shown None = None
shown (Some found) = Some (found.0, found.1.now)

-- each object of the map has its name
abbrev pub IsNamed : ObjectMap → Type 0
IsNamed objects = (oid : Oid) (object : Object) → objects oid ≡ Some object → name object.0 object.1 ≡ oid

-- what `get` hands out, if anything, has the name
abbrev pub IsFoundAs : Oid → Option (Kind × Bor (List ℕ)) → Type 0
IsFoundAs oid None = Unit {0}
IsFoundAs oid (Some found) = name found.0 found.1.now ≡ oid

-- objects were added, and none replaced
abbrev pub Grows : ObjectMap → ObjectMap → Type 0
Grows old new = (oid : Oid) (object : Object) → old oid ≡ Some object → new oid ≡ Some object
