-- The default branch: a text that Git allows as a branch's name, and none.
use Rattle.std.proofs.Common.{◌≡◌, ◌↔◌, ◌++◌, ℕ, List, Bool, true, false, Option, Some, None, IsTrue, codes, is_some, not, true≢false, refl, sym, subst}
use Rattle.serde_json.specs.Data.{Data}
use Rattle.ref_name.specs.Rules.{FindsBroken, KeepsRules}
use Rattle.identity_doc.specs.Documents.{branch_text, IsBranch}

-- a name keeps the rules exactly where no broken rule is found
pub none_broken : (name : List ℕ) (rule : Option ℕ) (good : Bool) → is_some rule ≡ not good → FindsBroken name rule
    → IsTrue good ↔ KeepsRules name
none_broken name None true e found = (λ _. found, λ _. refl)
none_broken name None false e found = absurd (true≢false (sym e))
none_broken name (Some n) true e found = absurd (true≢false e)
none_broken name (Some n) false e found = (λ h. absurd (true≢false (sym h)), λ keeps. absurd (keeps n found.broken))

-- a text that Git does not allow names no branch
pub unnamed : (payload : Data) (text : List ℕ) → branch_text payload ≡ Some text
    → (KeepsRules (codes "refs/heads/" ++ text) → ⊥) → IsBranch payload None
unnamed payload text said broken name other keeps =
    let same : name ≡ text = cc in
    broken (subst (λ (n : List ℕ). KeepsRules (codes "refs/heads/" ++ n)) same keeps)

-- a text that Git allows names a branch, of which a copy was made
pub named : (payload : Data) (text copy : List ℕ) → branch_text payload ≡ Some text
    → KeepsRules (codes "refs/heads/" ++ text) → copy ≡ text → IsBranch payload (Some copy)
named payload text copy said keeps same =
    subst (λ (name : List ℕ). IsBranch payload (Some name)) (sym same) (said, keeps)
