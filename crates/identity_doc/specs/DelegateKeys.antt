-- The keys of delegates and the first element that fails, said of the whole list.
use Rattle.std.specs.Prelude.{◌≡◌, ℕ, List, ◌∷◌, ◌++◌, length, map, Contains, Option, Some, None}
use Rattle.rad_base.specs.Lists.{AllDiffer}
use Rattle.rad_base.specs.declared.names.Nid.{Nid}

-- element i, behind elements whose keys all differ, has no key
pub record LacksKeyAt (i : ℕ) (found : List (Option Nid)) : Type 0 where
  pub keys : List Nid
  pub rest : List (Option Nid)
  pub text : found ≡ map Some keys ++ None ∷ rest
  pub differ : AllDiffer keys
  pub count : i ≡ length keys

-- element i, behind elements whose keys all differ, has the key of one of them
pub record RepeatsAt (i : ℕ) (found : List (Option Nid)) : Type 0 where
  pub keys : List Nid
  pub key : Nid
  pub rest : List (Option Nid)
  pub text : found ≡ map Some keys ++ Some key ∷ rest
  pub differ : AllDiffer keys
  pub again : Contains keys key
  pub count : i ≡ length keys
