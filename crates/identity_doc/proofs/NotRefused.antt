-- A tip that has an identity is not refused.
use Rattle.std.proofs.Common.{◌≡◌, ℕ, ◌+◌, ◌≤◌, List, [], ◌∷◌, ◌++◌, length, Some, reverse, refl, sym, ap, subst, ⊎_elim, ◌∙◌, arith}
use Rattle.std.specs.Prelude.{Contains}
use Rattle.serde_json.specs.Data.{Data}
use Rattle.rad_base.specs.declared.names.Oid.{Oid}
use Rattle.rad_base.specs.declared.names.Rid.{Rid}
use Rattle.git_object.specs.declared.kind.Kind.TheVariants.{Blob}
use Rattle.keyring.specs.Contents.{Contents}
use Rattle.commit_graph.specs.Objects.{ObjectMap}
use Rattle.commit_graph.specs.Walks.{Walk}
use Rattle.commit_graph.specs.Chains.{HasParents, IsLine}
use Rattle.rad_base.proofs.Members.{contains_cases, contains_nothing}
use Rattle.commit_graph.proofs.OneAnswer.{one_chain, walk_back}
use Rattle.commit_graph.proofs.PairSteps.{missing_unfit, unfit_apart}
use Rattle.tree_entry.proofs.OneEntry.{one_content, one_embedded}
use Rattle.identity_doc.specs.declared.doc.Doc.{Doc}
use Rattle.identity_doc.specs.declared.fault.DocFault.{DocFault}
use Rattle.identity_doc.specs.declared.id_fault.IdFault.{IdFault}
use Rattle.identity_doc.specs.declared.id_fault.IdFault.TheVariants.{Missing, BadObject, TwoParents, NoRoot, NoDocument, WrongRoot, NotJson, BadDocument, BadSignatures, TooFew, Get}
use Rattle.identity_doc.specs.Documents.{IsDocument}
use Rattle.identity_doc.specs.Majorities.{majority}
use Rattle.identity_doc.specs.Signatures.{AreSignatures}
use Rattle.identity_doc.specs.Texts.{IsBadText, IsNoJson, IsDocumentText}
use Rattle.identity_doc.specs.IdentityChains.{HasDocument, HasDocumentText, HasIdentity, HasSigners, HasSignaturesText, IsIdentityChange, IsFirst, IsIdentityLine}
use Rattle.identity_doc.specs.IdentityFaults.{FailsChange, FailsFirst, FailsLine, IsGet, IsIdFault}
use Rattle.identity_doc.proofs.OneDocument.{not_both}
use Rattle.identity_doc.proofs.OneIdentity.{line_chain, one_document_at}
use Rattle.identity_doc.proofs.OneSignatures.{one_list, whole_unbroken}
use Rattle.identity_doc.proofs.TipLines.{no_fork, no_return, root_ends}

-- ---- what a commit has

-- a commit's document has one text
pub one_document_text : (m : ObjectMap) (commit a b : Oid) (x y : List ℕ) → HasDocumentText m commit a x → HasDocumentText m commit b y → x ≡ y
one_document_text m commit a b x y h k =
    let blob = one_embedded m commit _ a b h.named k.named in
    one_content (m b) Blob x y (subst (λ (o : Oid). m o ≡ Some (Blob, x)) blob h.there) k.there

pub one_signatures_text : (m : ObjectMap) (commit : Oid) (x y : List ℕ) → HasSignaturesText m commit x → HasSignaturesText m commit y → x ≡ y
one_signatures_text m commit x y h k =
    let blob = one_embedded m commit _ h.blob k.blob h.named k.named in
    one_content (m k.blob) Blob x y (subst (λ (o : Oid). m o ≡ Some (Blob, x)) blob h.there) k.there

-- a document's text is JSON
pub text_is_json : (keyring : Contents) (bytes : List ℕ) (doc : Doc) → IsDocumentText keyring bytes doc → IsNoJson bytes → ⊥
text_is_json keyring bytes doc h none = cc (h.json.reads, none h.json.utf8)

-- and passes the checks
pub text_is_good : (keyring : Contents) (bytes : List ℕ) (doc : Doc) (why : DocFault) → IsDocumentText keyring bytes doc → IsBadText keyring bytes why → ⊥
text_is_good keyring bytes doc why h bad =
    let value : h.value ≡ bad.value = cc (h.json.reads, bad.json.reads) in
    not_both bad.value keyring doc why (subst (λ (d : Data). IsDocument d keyring doc) value h.says) bad.fails

-- a change has one number of signers
pub one_count : (m : ObjectMap) (keyring : Contents) (parent : Oid) (before : Doc) (commit : Oid) (a b : ℕ) → HasSigners m keyring parent before commit a
    → HasSigners m keyring parent before commit b → a ≡ b
one_count m keyring parent before commit a b h k =
    let blob = one_embedded m commit _ h.blob k.blob h.named k.named in
    let bytes = one_signatures_text m commit h.has.bytes k.has.bytes h.has.has k.has.has in
    let lines = one_list k.has.bytes h.lines k.lines (subst (λ (l : List ℕ). AreSignatures l h.lines) bytes h.has.are) k.has.are in
    h.count ∙ rw (blob, lines) (sym k.count)

-- ---- commits

-- a root of the repository breaks no rule
pub first_holds : (m : ObjectMap) (keyring : Contents) (rid : Rid) (root : Oid) → IsFirst m keyring rid root → (fault : IdFault)
    → FailsFirst m keyring rid root fault → IsGet fault
first_holds m keyring rid root first (NoDocument oid) h = absurd (h.1 rid.0 first.has.bytes first.has.has)
first_holds m keyring rid root first (WrongRoot oid) h = absurd (h.1.2 (one_embedded m root _ h.1.0 rid.0 h.1.1 first.has.has.named))
first_holds m keyring rid root first (NotJson oid) h =
    let bytes = one_document_text m root rid.0 rid.0 first.has.bytes h.1.0 first.has.has h.1.1 in
    absurd (text_is_json keyring h.1.0 first.doc (subst (λ (l : List ℕ). IsDocumentText keyring l first.doc) bytes first.has.text) h.1.2)
first_holds m keyring rid root first (BadDocument oid why) h =
    let bytes = one_document_text m root rid.0 rid.0 first.has.bytes h.1.0 first.has.has h.1.1 in
    absurd (text_is_good keyring h.1.0 first.doc why (subst (λ (l : List ℕ). IsDocumentText keyring l first.doc) bytes first.has.text) h.1.2)
first_holds m keyring rid root first (Get why) h = (why, refl)
first_holds m keyring rid root first (Missing oid) h = absurd h
first_holds m keyring rid root first (BadObject oid) h = absurd h
first_holds m keyring rid root first (TwoParents oid) h = absurd h
first_holds m keyring rid root first (NoRoot oid) h = absurd h
first_holds m keyring rid root first (BadSignatures oid n) h = absurd h
first_holds m keyring rid root first (TooFew oid have need) h = absurd h

-- a change breaks no rule
pub change_holds : (m : ObjectMap) (keyring : Contents) (parent commit : Oid) (before : Doc) → IsIdentityChange m keyring parent commit
    → HasDocument m keyring parent before → (fault : IdFault) → FailsChange m keyring parent before commit fault → IsGet fault
change_holds m keyring parent commit before c had (NoDocument oid) h = absurd (h.1 c.has.0 c.has.1.bytes c.has.1.has)
change_holds m keyring parent commit before c had (NotJson oid) h =
    let bytes = one_document_text m commit c.has.0 h.1.0 c.has.1.bytes h.1.1.0 c.has.1.has h.1.1.1 in
    absurd (text_is_json keyring h.1.1.0 c.after (subst (λ (l : List ℕ). IsDocumentText keyring l c.after) bytes c.has.1.text) h.1.1.2)
change_holds m keyring parent commit before c had (BadDocument oid why) h =
    let bytes = one_document_text m commit c.has.0 h.1.0 c.has.1.bytes h.1.1.0 c.has.1.has h.1.1.1 in
    absurd (text_is_good keyring h.1.1.0 c.after why (subst (λ (l : List ℕ). IsDocumentText keyring l c.after) bytes c.has.1.text) h.1.1.2)
change_holds m keyring parent commit before c had (BadSignatures oid n) h =
    let has = c.approved.signed.has in
    ⊎_elim (λ none. absurd (none.1 has.bytes has.has))
    (λ broken. let bytes = one_signatures_text m commit has.bytes broken.0 has.has broken.1 in
    absurd (whole_unbroken broken.0 c.approved.signed.lines n (subst (λ (l : List ℕ). AreSignatures l c.approved.signed.lines) bytes has.are) broken.2))
    h.2
change_holds m keyring parent commit before c had (TooFew oid have need) h =
    let few = h.2 in
    let same : c.before ≡ before = one_document_at m keyring parent c.before before c.had had in
    let signed : HasSigners m keyring parent before commit c.approved.signers = subst (λ (d : Doc). HasSigners m keyring parent d commit c.approved.signers) same c.approved.signed in
    let count = one_count m keyring parent before commit have c.approved.signers few.signed signed in
    let enough : majority (length before.delegates) ≤ c.approved.signers = subst (λ (d : Doc). majority (length d.delegates) ≤ c.approved.signers) same c.approved.enough in
    absurd (omega (arith, count, enough, few.majority, few.few))
change_holds m keyring parent commit before c had (Get why) h = (why, refl)
change_holds m keyring parent commit before c had (Missing oid) h = absurd h
change_holds m keyring parent commit before c had (BadObject oid) h = absurd h
change_holds m keyring parent commit before c had (TwoParents oid) h = absurd h
change_holds m keyring parent commit before c had (NoRoot oid) h = absurd h
change_holds m keyring parent commit before c had (WrongRoot oid) h = absurd h

-- behind the good commits of a line comes a change of the last of them
change_behind : (m : ObjectMap) (keyring : Contents) (root : Oid) (good : List Oid) (parent commit : Oid) (later : List Oid) (tip : Oid)
    → Walk (IsIdentityChange m keyring) root (good ++ commit ∷ later) tip → Walk (IsIdentityChange m keyring) root good parent → IsIdentityChange m keyring parent commit
change_behind m keyring root [] parent commit later tip w v = subst (λ (o : Oid). IsIdentityChange m keyring o commit) v w.0
change_behind m keyring root (x ∷ good) parent commit later tip w v = change_behind m keyring x good parent commit later tip w.1 v.1

pub line_behind : (m : ObjectMap) (keyring : Contents) (rid : Rid) (good : List Oid) (parent commit : Oid) (later : List Oid) (tip : Oid)
    → IsIdentityLine m keyring rid (good ++ commit ∷ later) tip → IsIdentityLine m keyring rid good parent → IsIdentityChange m keyring parent commit
line_behind m keyring rid [] parent commit later tip w v = absurd v
line_behind m keyring rid (root ∷ good) parent commit later tip w v = change_behind m keyring root good parent commit later tip w.1 v.1

-- no commit of an identity chain breaks a rule
line_holds : (m : ObjectMap) (keyring : Contents) (rid : Rid) (tip : Oid) (commits : List Oid) → IsIdentityLine m keyring rid commits tip
    → (fault : IdFault) → FailsLine m keyring rid tip fault → IsGet fault
line_holds m keyring rid tip commits line fault h =
    let chain = line_chain m keyring rid commits tip line in
    ⊎_elim
    (λ first. let same = one_chain m commits (first.root ∷ first.later) tip chain first.chain in
    first_holds m keyring rid first.root (subst (λ (l : List Oid). IsIdentityLine m keyring rid l tip) same line).0 fault first.fails)
    (λ later. let same = one_chain m commits (later.good ++ later.commit ∷ later.later) tip chain later.chain in
    change_holds m keyring later.parent later.commit later.before
    (line_behind m keyring rid later.good later.parent later.commit later.later tip (subst (λ (l : List Oid). IsIdentityLine m keyring rid l tip) same line) later.line)
    later.had fault later.fails)
    h

-- the line from the tip of an identity line
pub down : (m : ObjectMap) (keyring : Contents) (rid : Rid) (commits : List Oid) (tip : Oid) → IsIdentityLine m keyring rid commits tip
    → (line : List Oid) × ((root : Oid) × IsLine m tip line root × HasParents m root [])
down m keyring rid [] tip line = absurd line
down m keyring rid (root ∷ later) tip line =
    let chain = line_chain m keyring rid (root ∷ later) tip line in
    (reverse later, (root, walk_back m root later tip chain.1, chain.0))

-- a tip that has an identity is refused only where an object could not be had, or memory was refused
pub not_refused : (m : ObjectMap) (keyring : Contents) (rid : Rid) (tip : Oid) (doc : Doc) (fault : IdFault) → HasIdentity m keyring rid tip doc
    → IsIdFault m keyring rid tip fault → IsGet fault
not_refused m keyring rid tip doc (Missing oid) h k =
    let held = h.chain.closed k.holds.pair k.holds.reached in absurd (missing_unfit k.holds.holds held.fit)
not_refused m keyring rid tip doc (BadObject oid) h k =
    let held = h.chain.closed k.1.holds.pair k.1.holds.reached in absurd (unfit_apart k.1.holds.holds held.fit)
not_refused m keyring rid tip doc (TwoParents oid) h k =
    let line = down m keyring rid h.commits tip h.chain.line in
    absurd (no_fork m tip line.0 k.1.line line.1.0 oid k.1.parents line.1.1 line.1.2 k.1.walked k.1.has k.1.several)
not_refused m keyring rid tip doc (NoRoot oid) h k =
    let line = down m keyring rid h.commits tip h.chain.line in
    absurd (no_return m tip line.0 k.1.line line.1.0 oid line.1.1 (root_ends m line.1.0 line.1.2) k.1.walked k.1.among)
not_refused m keyring rid tip doc (Get why) h k = (why, refl)
not_refused m keyring rid tip doc (NoDocument oid) h k = line_holds m keyring rid tip h.commits h.chain.line (NoDocument oid) k.first
not_refused m keyring rid tip doc (WrongRoot oid) h k = line_holds m keyring rid tip h.commits h.chain.line (WrongRoot oid) k.first
not_refused m keyring rid tip doc (NotJson oid) h k = line_holds m keyring rid tip h.commits h.chain.line (NotJson oid) k.first
not_refused m keyring rid tip doc (BadDocument oid why) h k = line_holds m keyring rid tip h.commits h.chain.line (BadDocument oid why) k.first
not_refused m keyring rid tip doc (BadSignatures oid n) h k = line_holds m keyring rid tip h.commits h.chain.line (BadSignatures oid n) k.first
not_refused m keyring rid tip doc (TooFew oid have need) h k = line_holds m keyring rid tip h.commits h.chain.line (TooFew oid have need) k.first
