-- The lines of signed refs.
use Rattle.std.specs.Prelude.{◌≡◌, ℕ, ◌≤◌, List, [], ◌∷◌, ◌++◌, length, codes, None}
use Rattle.std.specs.Cmp.Lexicographic.{slice_cmp}
use Rattle.std.specs.List.{AllByRecursion, flat_map}
use Rattle.std.specs.Ordering.{nat_cmp}
use Rattle.std.specs.declared.cmp.Ordering.{Ordering}
use Rattle.hex.specs.Hex.{encode_lower}
use Rattle.rad_base.specs.Lists.{BeginsWith}
use Rattle.rad_base.specs.Sizes.{IsOid}
use Rattle.rad_base.specs.declared.names.Oid.{Oid}
use Rattle.rad_base.specs.Order.{IsBelow, RiseFrom, last_from}
use Rattle.ref_name.specs.Rules.{KeepsRules}

-- the name of a ref, and the object that it names
abbrev pub Line : Type 0
Line = List ℕ × Oid

-- a ref's name by Git's rules, under `refs/`, and not that of the signed refs themselves
pub record IsSignedName (name : List ℕ) : Type 0 where
  pub begins : BeginsWith (codes "refs/") name
  pub keeps : KeepsRules name
  pub other : name ≡ codes "refs/rad/sigrefs" → ⊥

-- a name that may be signed, and the 20 bytes of an object's name
pub record IsRefLine (line : Line) : Type 0 where
  pub name : IsSignedName line.0
  pub oid : IsOid line.1

-- the 40 digits of the object's name, a space, the ref's name and a line feed
abbrev pub ref_line_text : Line → List ℕ
ref_line_text line = encode_lower line.1.0 ++ 32 ∷ (line.0 ++ 10 ∷ [])

-- the texts of the lines, one behind the other
abbrev pub refs_text : List Line → List ℕ
refs_text lines = flat_map ref_line_text lines

-- how the name of a line compares with a name, by their bytes
abbrev pub order_of : List ℕ → Line → Ordering
order_of name line = slice_cmp nat_cmp line.0 name

-- the name of a line's ref
abbrev pub name_in : Line → List ℕ
name_in line = line.0

-- the names are strictly rising
abbrev pub AreRising : List Line → Type 0
AreRising lines = RiseFrom name_in None lines

-- the name is above those of the lines
abbrev pub IsAboveNames : List Line → List ℕ → Type 0
IsAboveNames lines name = IsBelow (last_from name_in None lines) name

-- lines of their form, their names strictly rising, and the bytes that spell them with a rest
pub record SpellsTo (lines : List Line) (rest bytes : List ℕ) : Type 0 where
  pub each : AllByRecursion IsRefLine lines
  pub rising : AreRising lines
  pub text : bytes ≡ refs_text lines ++ rest

-- at most 65,536 lines of their form, their names strictly rising
pub record AreRefs (lines : List Line) : Type 0 where
  pub each : AllByRecursion IsRefLine lines
  pub rising : AreRising lines
  pub few : length lines ≤ 65536

-- the bytes of signed refs that have these lines
pub record SpellsRefs (lines : List Line) (bytes : List ℕ) : Type 0 where
  pub spelled : SpellsTo lines [] bytes
  pub few : length lines ≤ 65536
