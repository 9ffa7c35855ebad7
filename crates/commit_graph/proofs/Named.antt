-- Objects in memory, and others behind them.
use Rattle.std.proofs.Common.{◌≡◌, Bool, true, false, cond, List, [], ◌∷◌, ◌++◌, Option, Some, refl, sym, ap, ◌∙◌}
use Rattle.std.specs.BTreeMap.{is_at}
use Rattle.std.specs.Option.{option_or}
use Rattle.rad_base.specs.declared.names.Oid.{Oid}
use Rattle.rad_base.specs.Order.{oid_cmp}
use Rattle.git_object.specs.Names.{name}
use Rattle.commit_graph.specs.InMemory.{objects_in}
use Rattle.commit_graph.specs.Objects.{Grows, Object, ObjectMap}

by_test : (b : Bool) (x object : Object) (rest more : Option Object)
    → (rest ≡ Some object → more ≡ Some object) → cond b (Some x) rest ≡ Some object
    → cond b (Some x) more ≡ Some object
by_test true x object rest more later e = e
by_test false x object rest more later e = later e

-- objects behind others are added, and replace none
pub grows_behind : (xs ys : List Object) → Grows (objects_in xs) (objects_in (xs ++ ys))
grows_behind [] ys oid object e = cc e
grows_behind (x ∷ xs) ys oid object e =
    by_test (is_at (oid_cmp oid) (name x.0 x.1)) x object (objects_in xs oid) (objects_in (xs ++ ys) oid) (grows_behind xs ys oid object) e

-- what objects behind others give: what the first have, else what they have
pub objects_behind : (xs ys : List Object) (oid : Oid)
    → objects_in (xs ++ ys) oid ≡ option_or (objects_in xs oid) (objects_in ys oid)
objects_behind [] ys oid = refl
objects_behind (x ∷ xs) ys oid = by_name (objects_behind xs ys oid) (is_at (oid_cmp oid) (name x.0 x.1))
  where
    by_name : objects_in (xs ++ ys) oid ≡ option_or (objects_in xs oid) (objects_in ys oid)
        → (b : Bool) → cond b (Some x) (objects_in (xs ++ ys) oid) ≡ option_or (cond b (Some x) (objects_in xs oid)) (objects_in ys oid)
    by_name later true = refl
    by_name later false = later

-- so what is put behind equal maps gives equal maps
pub puts_along : (xs ys zs : List Object) → objects_in xs ≡ objects_in ys
    → objects_in (xs ++ zs) ≡ objects_in (ys ++ zs)
puts_along xs ys zs e = λ i oid.
    (objects_behind xs zs oid ∙ ap (λ (m : ObjectMap). option_or (m oid) (objects_in zs oid)) e ∙ sym (objects_behind ys zs oid)) i
