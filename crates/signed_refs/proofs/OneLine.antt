-- A line in front of bytes, which can be read in one way only.
use Rattle.std.proofs.Common.{◌≡◌, ℕ, List, ◌∷◌, ◌++◌, refl, sym, subst, ◌∙◌, append_assoc}
use Rattle.std.proofs.lemmas.List.Folds.{list_any-from_Any}
use Rattle.std.proofs.lemmas.List.{get_or_default}
use Rattle.hex.specs.Hex.{encode_lower}
use Rattle.rad_base.specs.declared.names.Oid.{Oid}
use Rattle.rad_base.specs.Sizes.{IsOid, Lacks}
use Rattle.rad_base.proofs.OneFront.{one_behind, not_lacking, one_oid_text, one_until}
use Rattle.ref_name.specs.Rules.{KeepsRules, is_control}
use Rattle.signed_refs.specs.Lines.{IsRefLine, IsSignedName, Line, ref_line_text}

-- a line's parts, one behind the other
pub line_parts : (line : Line) (rest : List ℕ) → ref_line_text line ++ rest ≡ encode_lower line.1.0 ++ 32 ∷ (line.0 ++ 10 ∷ rest)
line_parts line rest = simp append_assoc

-- a name that keeps the rules has no line feed
pub lacks_feed : (name : List ℕ) → KeepsRules name → Lacks 10 name
lacks_feed name keeps k d inside e =
    keeps 4 (list_any-from_Any is_control name (k, 10, inside, get_or_default name k 10 d inside ∙ e, refl))

-- what stands behind the name of an object in front of a line
pub behind_oid : (oid : Oid) (behind bytes : List ℕ) (line : Line) (rest : List ℕ) → IsOid oid → bytes ≡ encode_lower oid.0 ++ behind
    → IsRefLine line → bytes ≡ ref_line_text line ++ rest → (oid ≡ line.1) × (behind ≡ 32 ∷ (line.0 ++ 10 ∷ rest))
behind_oid oid behind bytes line rest is e good f =
    one_oid_text oid line.1 behind (32 ∷ (line.0 ++ 10 ∷ rest)) is good.oid (sym e ∙ f ∙ line_parts line rest)

-- no line is in front where no space stands behind the object's name
pub no_space : (oid : Oid) (behind bytes : List ℕ) → IsOid oid → bytes ≡ encode_lower oid.0 ++ behind
    → ((rest : List ℕ) → behind ≡ 32 ∷ rest → ⊥) → (line : Line) (rest : List ℕ) → IsRefLine line → bytes ≡ ref_line_text line ++ rest → ⊥
no_space oid behind bytes is e none line rest good f = none _ (behind_oid oid behind bytes line rest is e good f).1

behind_both : (oid : Oid) (behind after bytes : List ℕ) → IsOid oid → bytes ≡ encode_lower oid.0 ++ behind → behind ≡ 32 ∷ after
    → (line : Line) (rest : List ℕ) → IsRefLine line → bytes ≡ ref_line_text line ++ rest → after ≡ line.0 ++ 10 ∷ rest
behind_both oid behind after bytes is e space line rest good f =
    one_behind 32 after (line.0 ++ 10 ∷ rest) (sym space ∙ (behind_oid oid behind bytes line rest is e good f).1)

-- nor where no line ends
pub no_feed : (oid : Oid) (behind after bytes : List ℕ) → IsOid oid → bytes ≡ encode_lower oid.0 ++ behind → behind ≡ 32 ∷ after
    → Lacks 10 after → (line : Line) (rest : List ℕ) → IsRefLine line → bytes ≡ ref_line_text line ++ rest → ⊥
no_feed oid behind after bytes is e space lacks line rest good f =
    not_lacking 10 line.0 rest (subst (λ (l : List ℕ). Lacks 10 l) (behind_both oid behind after bytes is e space line rest good f) lacks)

-- nor where the name may not be signed
pub no_name : (oid : Oid) (behind after name end bytes : List ℕ) → IsOid oid → bytes ≡ encode_lower oid.0 ++ behind → behind ≡ 32 ∷ after
    → Lacks 10 name → after ≡ name ++ 10 ∷ end → (IsSignedName name → ⊥) → (line : Line) (rest : List ℕ) → IsRefLine line
    → bytes ≡ ref_line_text line ++ rest → ⊥
no_name oid behind after name end bytes is e space lacks split none line rest good f =
    let same = (one_until 10 name line.0 end rest lacks (lacks_feed line.0 good.name.keeps)
    (sym split ∙ behind_both oid behind after bytes is e space line rest good f)).0 in
    none (subst IsSignedName (sym same) good.name)

same_parts : (a b : Line) → a.0 ≡ b.0 → a.1 ≡ b.1 → a ≡ b
same_parts a b e f = (λ i. (e i, f i))

-- two lines in front of the same bytes are one
pub one_line : (line other : Line) (rest more : List ℕ) → IsRefLine line → IsRefLine other → ref_line_text line ++ rest ≡ ref_line_text other ++ more
    → (line ≡ other) × (rest ≡ more)
one_line line other rest more good fine e =
    let first = behind_oid line.1 (32 ∷ (line.0 ++ 10 ∷ rest)) (ref_line_text line ++ rest) other more good.oid (line_parts line rest) fine e in
    let second = one_until 10 line.0 other.0 rest more (lacks_feed line.0 good.name.keeps) (lacks_feed other.0 fine.name.keeps)
    (one_behind 32 (line.0 ++ 10 ∷ rest) (other.0 ++ 10 ∷ more) first.1) in
    (same_parts line other second.0 first.0, second.1)
