-- A value has one document, or is refused for one reason.
use Rattle.std.proofs.Common.{◌≡◌, ◌∙◌, ℕ, List, Option, Some, None, Result, Ok, refl, sym, ap, subst}
use Rattle.serde_json.specs.Data.{Data}
use Rattle.rad_base.specs.declared.names.Nid.{Nid}
use Rattle.keyring.specs.Contents.{Contents}
use Rattle.identity_doc.specs.Documents.{Checked, IsBranch, IsDocument, IsRefused}
use Rattle.identity_doc.specs.declared.doc.Doc.{Doc}
use Rattle.identity_doc.specs.declared.visibility.Visibility.{Visibility}
use Rattle.identity_doc.specs.declared.fault.DocFault.{DocFault}

abbrev doc_of : List Nid → ℕ → Option (List ℕ) → Visibility → Doc
doc_of d m a v = record { delegates = d; threshold = m; default_branch = a; visibility = v }

-- a payload has one default branch, or none
one_branch : (payload : Data) (a b : Option (List ℕ)) → IsBranch payload a → IsBranch payload b → a ≡ b
one_branch payload None None p q = refl
one_branch payload None (Some name) p q = absurd (p name q.0 q.1)
one_branch payload (Some name) None p q = absurd (q name p.0 p.1)
one_branch payload (Some name) (Some other) p q = sym p.0 ∙ q.0

same_parts : (d e : List Nid) (m n : ℕ) (a b : Option (List ℕ)) (v w : Visibility) → d ≡ e → m ≡ n → a ≡ b → v ≡ w
    → doc_of d m a v ≡ doc_of e n b w
same_parts d e m n a b v w p q r s = cc

-- two answers of the same checks
one_passed : (r : Result Checked DocFault) (a b : Checked) → r ≡ Ok a → r ≡ Ok b → a ≡ b
one_passed r a b p q = cc

-- a value is one document
pub one_document : (value : Data) (keyring : Contents) (a b : Doc)
    → IsDocument value keyring a → IsDocument value keyring b → a ≡ b
one_document value keyring a b p q =
    let same = one_passed _ _ _ p.passes q.passes in
    let branch =
    one_branch q.payload a.default_branch b.default_branch
    (subst (λ (d : Data). IsBranch d a.default_branch) (ap (λ (r : Checked). r.payload) same) p.branch) q.branch in
    same_parts a.delegates b.delegates a.threshold b.threshold a.default_branch b.default_branch a.visibility b.visibility
    (ap (λ (r : Checked). r.delegates) same) (ap (λ (r : Checked). r.threshold) same) branch
    (ap (λ (r : Checked). r.visibility) same)

-- a value is refused for one reason
pub one_refusal : (value : Data) (keyring : Contents) (a b : DocFault)
    → IsRefused value keyring a → IsRefused value keyring b → a ≡ b
one_refusal value keyring a b p q = cc

-- no value that is a document is refused
pub not_both : (value : Data) (keyring : Contents) (doc : Doc) (fault : DocFault)
    → IsDocument value keyring doc → IsRefused value keyring fault → ⊥
not_both value keyring doc fault p q = let same = sym p.passes ∙ q in cc
