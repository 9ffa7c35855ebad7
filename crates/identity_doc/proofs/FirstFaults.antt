-- A commit breaks one rule first.
use Rattle.std.proofs.Common.{◌≡◌, ◌≢◌, ℕ, List, Some, refl, sym, ap, subst, inl, inr, ⊎_elim, ◌∙◌}
use Rattle.serde_json.specs.Data.{Data}
use Rattle.rad_base.specs.declared.names.Oid.{Oid}
use Rattle.rad_base.specs.declared.names.Rid.{Rid}
use Rattle.git_object.specs.declared.kind.Kind.TheVariants.{Blob}
use Rattle.keyring.specs.Contents.{Contents}
use Rattle.commit_graph.specs.Objects.{ObjectMap}
use Rattle.tree_entry.specs.Embedded as embedded
use Rattle.tree_entry.proofs.OneEntry.{one_embedded}
use Rattle.identity_doc.specs.declared.doc.Doc.{Doc}
use Rattle.identity_doc.specs.declared.fault.DocFault.{DocFault}
use Rattle.identity_doc.specs.declared.id_fault.IdFault.{IdFault}
use Rattle.identity_doc.specs.declared.id_fault.IdFault.TheVariants.{Missing, BadObject, TwoParents, NoRoot, NoDocument, WrongRoot, NotJson, BadDocument, BadSignatures, TooFew, Get}
use Rattle.identity_doc.specs.Documents.{IsRefused}
use Rattle.identity_doc.specs.Majorities.{majority}
use Rattle.identity_doc.specs.Signatures.{AreSignatures, BreaksSignaturesAt}
use Rattle.identity_doc.specs.Texts.{IsBadText, IsDocumentText, IsNoJson}
use Rattle.identity_doc.specs.IdentityChains.{HasDocumentText, HasSignatures, HasSignaturesText}
use Rattle.identity_doc.specs.IdentityFaults.{FailsChange, FailsFirst, HasBadDocument, HasBrokenLine, HasNoJson, HasSomeDocument, IsGet, IsUnapproved, LacksDocument}
use Rattle.identity_doc.proofs.NotRefused.{one_count, one_document_text, one_signatures_text, text_is_good, text_is_json}
use Rattle.identity_doc.proofs.OneDocument.{one_refusal}
use Rattle.identity_doc.proofs.OneSignatures.{one_broken, whole_unbroken}

module _ (m : ObjectMap) (keyring : Contents) (commit : Oid) where
  -- a text is no JSON, or the JSON of a value that is no document
  bad_is_json : (a b : Oid) (why : DocFault) → HasNoJson m commit a → HasBadDocument m keyring commit b why → ⊥
  bad_is_json a b why h k =
      let bytes = one_document_text m commit a b h.0 k.0 h.1 k.1 in
      cc (k.2.json.reads, subst IsNoJson bytes h.2 k.2.json.utf8)

  -- one check of documents fails first
  one_check : (a b : Oid) (why other : DocFault) → HasBadDocument m keyring commit a why → HasBadDocument m keyring commit b other → why ≡ other
  one_check a b why other h k =
      let bytes = one_document_text m commit a b h.0 k.0 h.1 k.1 in
      let bad : IsBadText keyring k.0 why = subst (λ (l : List ℕ). IsBadText keyring l why) bytes h.2 in
      let value : bad.value ≡ k.2.value = cc (bad.json.reads, k.2.json.reads) in
      one_refusal k.2.value keyring why other (subst (λ (d : Data). IsRefused d keyring why) value bad.fails) k.2.fails

  -- a document is JSON
  document_is_json : (a : Oid) → HasSomeDocument m keyring commit → HasNoJson m commit a → ⊥
  document_is_json a some h =
      let has = some.1.1 in
      let bytes = one_document_text m commit some.1.0 a has.bytes h.0 has.has h.1 in
      text_is_json keyring h.0 some.0 (subst (λ (l : List ℕ). IsDocumentText keyring l some.0) bytes has.text) h.2

  -- and passes the checks
  document_is_good : (a : Oid) (why : DocFault) → HasSomeDocument m keyring commit → HasBadDocument m keyring commit a why → ⊥
  document_is_good a why some h =
      let has = some.1.1 in
      let bytes = one_document_text m commit some.1.0 a has.bytes h.0 has.has h.1 in
      text_is_good keyring h.0 some.0 why (subst (λ (l : List ℕ). IsDocumentText keyring l some.0) bytes has.text) h.2

  -- one line of the signatures is the first broken one
  one_line_broken : (n k : ℕ) → HasBrokenLine m commit n → HasBrokenLine m commit k → n ≡ k
  one_line_broken n k h j =
      ⊎_elim
      (λ none. ⊎_elim (λ also. none.0 ∙ sym also.0) (λ broken. absurd (none.1 broken.0 broken.1)) j)
      (λ broken. ⊎_elim (λ none. absurd (none.1 broken.0 broken.1))
      (λ other.
      let bytes = one_signatures_text m commit broken.0 other.0 broken.1 other.1 in
      one_broken other.0 n k (subst (λ (l : List ℕ). BreaksSignaturesAt n l) bytes broken.2) other.2) j)
      h

  -- signatures that were read have no broken line
  read_unbroken : (n have need : ℕ) (parent : Oid) (before : Doc) → HasBrokenLine m commit n → IsUnapproved m keyring parent before commit have need → ⊥
  read_unbroken n have need parent before h few =
      let has = few.signed.has in
      ⊎_elim (λ none. none.1 has.bytes has.has)
      (λ broken.
      let bytes = one_signatures_text m commit has.bytes broken.0 has.has broken.1 in
      whole_unbroken broken.0 few.signed.lines n (subst (λ (l : List ℕ). AreSignatures l few.signed.lines) bytes has.are) broken.2) h

-- the rules that a commit without parents can break
data FirstCase (m : ObjectMap) (keyring : Contents) (rid : Rid) (root : Oid) (fault : IdFault) : Type 0 where
  lacks : fault ≡ NoDocument root → LacksDocument m root → FirstCase m keyring rid root fault
  wrong : (blob : Oid) → fault ≡ WrongRoot root → embedded.HasDocumentBlob m root blob → blob ≢ rid.0 → FirstCase m keyring rid root fault
  unread : fault ≡ NotJson root → HasNoJson m root rid.0 → FirstCase m keyring rid root fault
  bad : (why : DocFault) → fault ≡ BadDocument root why → HasBadDocument m keyring root rid.0 why → FirstCase m keyring rid root fault
  met : IsGet fault → FirstCase m keyring rid root fault

first_case : (m : ObjectMap) (keyring : Contents) (rid : Rid) (root : Oid) (fault : IdFault) → FailsFirst m keyring rid root fault → FirstCase m keyring rid root fault
first_case m keyring rid root (NoDocument oid) h = lacks (ap (λ (o : Oid). NoDocument o) h.0) h.1
first_case m keyring rid root (WrongRoot oid) h = wrong h.1.0 (ap (λ (o : Oid). WrongRoot o) h.0) h.1.1 h.1.2
first_case m keyring rid root (NotJson oid) h = unread (ap (λ (o : Oid). NotJson o) h.0) h.1
first_case m keyring rid root (BadDocument oid why) h = bad why (ap (λ (o : Oid). BadDocument o why) h.0) h.1
first_case m keyring rid root (Get why) h = met (why, refl)
first_case m keyring rid root (Missing oid) h = absurd h
first_case m keyring rid root (BadObject oid) h = absurd h
first_case m keyring rid root (TwoParents oid) h = absurd h
first_case m keyring rid root (NoRoot oid) h = absurd h
first_case m keyring rid root (BadSignatures oid n) h = absurd h
first_case m keyring rid root (TooFew oid have need) h = absurd h

-- what a commit embeds is a blob that is there
abbrev pub EmbedsBlobs : ObjectMap → Oid → Type 0
EmbedsBlobs m commit = (blob : Oid) → embedded.HasDocumentBlob m commit blob → (bytes : List ℕ) × (m blob ≡ Some (Blob, bytes))

module _ (m : ObjectMap) (keyring : Contents) (rid : Rid) (root : Oid) (there : EmbedsBlobs m root) where
  lacks_wrong : (blob : Oid) → LacksDocument m root → embedded.HasDocumentBlob m root blob → ⊥
  lacks_wrong blob none named = let t = there blob named in none blob t.0 (record { named = named; there = t.1 })

  -- where the blob of another name stands there is none of the repository's
  other_blob : (blob : Oid) (bytes : List ℕ) → embedded.HasDocumentBlob m root blob → blob ≢ rid.0 → HasDocumentText m root rid.0 bytes → ⊥
  other_blob blob bytes named other has = other (one_embedded m root _ blob rid.0 named has.named)

  by_cases : (a b : IdFault) → FirstCase m keyring rid root a → FirstCase m keyring rid root b → (IsGet a → ⊥) → (IsGet b → ⊥) → a ≡ b
  by_cases a b (lacks e n) (lacks f k) p q = e ∙ sym f
  by_cases a b (lacks e n) (wrong blob f k other) p q = absurd (lacks_wrong blob n k)
  by_cases a b (lacks e n) (unread f k) p q = absurd (n rid.0 k.0 k.1)
  by_cases a b (lacks e n) (bad why f k) p q = absurd (n rid.0 k.0 k.1)
  by_cases a b (wrong blob e h other) (lacks f k) p q = absurd (lacks_wrong blob k h)
  by_cases a b (wrong blob e h other) (wrong also f k differs) p q = e ∙ sym f
  by_cases a b (wrong blob e h other) (unread f k) p q = absurd (other_blob blob k.0 h other k.1)
  by_cases a b (wrong blob e h other) (bad why f k) p q = absurd (other_blob blob k.0 h other k.1)
  by_cases a b (unread e h) (lacks f k) p q = absurd (k rid.0 h.0 h.1)
  by_cases a b (unread e h) (wrong blob f k other) p q = absurd (other_blob blob h.0 k other h.1)
  by_cases a b (unread e h) (unread f k) p q = e ∙ sym f
  by_cases a b (unread e h) (bad why f k) p q = absurd (bad_is_json m keyring root rid.0 rid.0 why h k)
  by_cases a b (bad why e h) (lacks f k) p q = absurd (k rid.0 h.0 h.1)
  by_cases a b (bad why e h) (wrong blob f k other) p q = absurd (other_blob blob h.0 k other h.1)
  by_cases a b (bad why e h) (unread f k) p q = absurd (bad_is_json m keyring root rid.0 rid.0 why k h)
  by_cases a b (bad why e h) (bad also f k) p q =
      e ∙ ap (λ (w : DocFault). BadDocument root w) (one_check m keyring root rid.0 rid.0 why also h k) ∙ sym f
  by_cases a b (met e) k p q = absurd (p e)
  by_cases a b (lacks e n) (met f) p q = absurd (q f)
  by_cases a b (wrong blob e h other) (met f) p q = absurd (q f)
  by_cases a b (unread e h) (met f) p q = absurd (q f)
  by_cases a b (bad why e h) (met f) p q = absurd (q f)

  -- a commit without parents breaks one rule first
  pub one_first : (a b : IdFault) → FailsFirst m keyring rid root a → FailsFirst m keyring rid root b → (IsGet a → ⊥) → (IsGet b → ⊥) → a ≡ b
  one_first a b h k p q = by_cases a b (first_case m keyring rid root a h) (first_case m keyring rid root b k) p q

-- the rules that a change can break
data ChangeCase (m : ObjectMap) (keyring : Contents) (parent : Oid) (before : Doc) (commit : Oid) (fault : IdFault) : Type 0 where
  lacks : fault ≡ NoDocument commit → LacksDocument m commit → ChangeCase m keyring parent before commit fault
  unread : (blob : Oid) → fault ≡ NotJson commit → HasNoJson m commit blob → ChangeCase m keyring parent before commit fault
  bad : (why : DocFault) (blob : Oid) → fault ≡ BadDocument commit why → HasBadDocument m keyring commit blob why → ChangeCase m keyring parent before commit fault
  broken : (n : ℕ) → fault ≡ BadSignatures commit n → HasSomeDocument m keyring commit → HasBrokenLine m commit n → ChangeCase m keyring parent before commit fault
  few : (have need : ℕ) → fault ≡ TooFew commit have need → HasSomeDocument m keyring commit → IsUnapproved m keyring parent before commit have need
      → ChangeCase m keyring parent before commit fault
  met : IsGet fault → ChangeCase m keyring parent before commit fault

change_case : (m : ObjectMap) (keyring : Contents) (parent : Oid) (before : Doc) (commit : Oid) (fault : IdFault) → FailsChange m keyring parent before commit fault
    → ChangeCase m keyring parent before commit fault
change_case m keyring parent before commit (NoDocument oid) h = lacks (ap (λ (o : Oid). NoDocument o) h.0) h.1
change_case m keyring parent before commit (NotJson oid) h = unread h.1.0 (ap (λ (o : Oid). NotJson o) h.0) h.1.1
change_case m keyring parent before commit (BadDocument oid why) h = bad why h.1.0 (ap (λ (o : Oid). BadDocument o why) h.0) h.1.1
change_case m keyring parent before commit (BadSignatures oid n) h = broken n (ap (λ (o : Oid). BadSignatures o n) h.0) h.1 h.2
change_case m keyring parent before commit (TooFew oid have need) h = few have need (ap (λ (o : Oid). TooFew o have need) h.0) h.1 h.2
change_case m keyring parent before commit (Get why) h = met (why, refl)
change_case m keyring parent before commit (Missing oid) h = absurd h
change_case m keyring parent before commit (BadObject oid) h = absurd h
change_case m keyring parent before commit (TwoParents oid) h = absurd h
change_case m keyring parent before commit (NoRoot oid) h = absurd h
change_case m keyring parent before commit (WrongRoot oid) h = absurd h

module _ (m : ObjectMap) (keyring : Contents) (parent : Oid) (before : Doc) (commit : Oid) where
  -- a commit with a document lacks none
  lacks_some : LacksDocument m commit → HasSomeDocument m keyring commit → ⊥
  lacks_some none some = none some.1.0 some.1.1.bytes some.1.1.has

  of_change : (a b : IdFault) → ChangeCase m keyring parent before commit a → ChangeCase m keyring parent before commit b → (IsGet a → ⊥) → (IsGet b → ⊥) → a ≡ b
  of_change a b (lacks e n) (lacks f k) p q = e ∙ sym f
  of_change a b (lacks e n) (unread blob f k) p q = absurd (n blob k.0 k.1)
  of_change a b (lacks e n) (bad why blob f k) p q = absurd (n blob k.0 k.1)
  of_change a b (lacks e n) (broken i f some k) p q = absurd (lacks_some n some)
  of_change a b (lacks e n) (few have need f some k) p q = absurd (lacks_some n some)
  of_change a b (unread blob e h) (lacks f k) p q = absurd (k blob h.0 h.1)
  of_change a b (unread blob e h) (unread also f k) p q = e ∙ sym f
  of_change a b (unread blob e h) (bad why also f k) p q = absurd (bad_is_json m keyring commit blob also why h k)
  of_change a b (unread blob e h) (broken i f some k) p q = absurd (document_is_json m keyring commit blob some h)
  of_change a b (unread blob e h) (few have need f some k) p q = absurd (document_is_json m keyring commit blob some h)
  of_change a b (bad why blob e h) (lacks f k) p q = absurd (k blob h.0 h.1)
  of_change a b (bad why blob e h) (unread also f k) p q = absurd (bad_is_json m keyring commit also blob why k h)
  of_change a b (bad why blob e h) (bad other also f k) p q =
      e ∙ ap (λ (w : DocFault). BadDocument commit w) (one_check m keyring commit blob also why other h k) ∙ sym f
  of_change a b (bad why blob e h) (broken i f some k) p q = absurd (document_is_good m keyring commit blob why some h)
  of_change a b (bad why blob e h) (few have need f some k) p q = absurd (document_is_good m keyring commit blob why some h)
  of_change a b (broken n e some h) (lacks f k) p q = absurd (lacks_some k some)
  of_change a b (broken n e some h) (unread blob f k) p q = absurd (document_is_json m keyring commit blob some k)
  of_change a b (broken n e some h) (bad why blob f k) p q = absurd (document_is_good m keyring commit blob why some k)
  of_change a b (broken n e some h) (broken i f also k) p q =
      e ∙ ap (λ (j : ℕ). BadSignatures commit j) (one_line_broken m keyring commit n i h k) ∙ sym f
  of_change a b (broken n e some h) (few have need f also k) p q = absurd (read_unbroken m keyring commit n have need parent before h k)
  of_change a b (few have need e some h) (lacks f k) p q = absurd (lacks_some k some)
  of_change a b (few have need e some h) (unread blob f k) p q = absurd (document_is_json m keyring commit blob some k)
  of_change a b (few have need e some h) (bad why blob f k) p q = absurd (document_is_good m keyring commit blob why some k)
  of_change a b (few have need e some h) (broken i f also k) p q = absurd (read_unbroken m keyring commit i have need parent before k h)
  of_change a b (few have need e some h) (few had wanted f also k) p q =
      let count = one_count m keyring parent before commit have had h.signed k.signed in
      let least = h.majority ∙ sym k.majority in
      e ∙ (λ i. TooFew commit (count i) (least i)) ∙ sym f
  of_change a b (met e) k p q = absurd (p e)
  of_change a b (lacks e n) (met f) p q = absurd (q f)
  of_change a b (unread blob e h) (met f) p q = absurd (q f)
  of_change a b (bad why blob e h) (met f) p q = absurd (q f)
  of_change a b (broken n e some h) (met f) p q = absurd (q f)
  of_change a b (few have need e some h) (met f) p q = absurd (q f)

  -- a change breaks one rule first
  pub one_of_change : (a b : IdFault) → FailsChange m keyring parent before commit a → FailsChange m keyring parent before commit b
      → (IsGet a → ⊥) → (IsGet b → ⊥) → a ≡ b
  one_of_change a b h k p q = of_change a b (change_case m keyring parent before commit a h) (change_case m keyring parent before commit b k) p q
