-- How long commits are, and how they begin.
use Rattle.std.proofs.Common.{◌≡◌, ℕ, ◌+◌, ◌*◌, ◌≤◌, List, [], ◌∷◌, ◌++◌, length, refl, ap, ◌∙◌, arith, length-append}
use Rattle.std.specs.Prelude.{Option, None, Some, codes}
use Rattle.std.specs.List.{AllByRecursion}
use Rattle.std.specs.Option.{option_to_list}
use Rattle.hex.specs.Hex.{encode_lower}
use Rattle.hex.proofs.HexLemmas.{length-encode_with}
use Rattle.rad_base.specs.Lists.{BeginsWith}
use Rattle.rad_base.specs.Sizes.{IsOid}
use Rattle.rad_base.specs.declared.names.Oid.{Oid}
use Rattle.git_object.specs.Grammar.{SpellsCommit, oid_line, parents_text}
use Rattle.rad_vectors.specs.Objects.{people}

-- the lines of the people begin with the author
pub begins_so : (word : List ℕ) → BeginsWith (codes "author ") (people ++ word)
begins_so word = (codes "a <a@b> 0 +0000\ncommitter a <a@b> 0 +0000\n\n" ++ word, refl)

digits : (oid : Oid) → IsOid oid → length (encode_lower oid.0) ≡ 40
digits oid is = length-encode_with _ oid.0 ∙ ap (λ (n : ℕ). 2 * n) is.size

pub line_size : (word : List ℕ) (oid : Oid) → IsOid oid → length (oid_line word oid) ≡ length word + 41
line_size word oid is =
    let size = digits oid is in
    omega (arith, length-append (word ++ encode_lower oid.0) (10 ∷ []), length-append word (encode_lower oid.0))

parents_size : (before : Option Oid) → AllByRecursion IsOid (option_to_list before) → length (parents_text (option_to_list before)) ≤ 48
parents_size None each = omega arith
parents_size (Some oid) each = omega (arith, line_size (codes "parent ") oid each.0, length-append (oid_line (codes "parent ") oid) [])

-- a commit is not long where its rest is not
pub commit_size : (tree : Oid) (before : Option Oid) (rest bytes : List ℕ) → SpellsCommit (record { tree = tree; parents = option_to_list before; rest = rest }) bytes
    → length rest ≤ 1000 → length bytes ≤ 33554432
commit_size tree before rest bytes spells short =
    let parents : List ℕ = parents_text (option_to_list before) in
    let first : length (oid_line (codes "tree ") tree) ≡ 46 = line_size (codes "tree ") tree spells.tree in
    let some : length parents ≤ 48 = parents_size before spells.parents in
    let whole : length bytes ≡ length (oid_line (codes "tree ") tree ++ (parents ++ rest)) = ap length spells.text in
    omega (arith, length-append (oid_line (codes "tree ") tree) (parents ++ rest), length-append parents rest)
