-- What the blobs of a commit show of the commit.
use Rattle.std.proofs.Common.{◌≡◌, ℕ, List, refl, sym, subst, inl, inr}
use Rattle.rad_base.specs.declared.names.Oid.{Oid}
use Rattle.keyring.specs.Contents.{Contents}
use Rattle.commit_graph.specs.Objects.{ObjectMap}
use Rattle.commit_graph.specs.declared.fault.GetFault.{GetFault}
use Rattle.tree_entry.specs.Embedded as embedded
use Rattle.tree_entry.proofs.OneEntry.{one_embedded}
use Rattle.identity_doc.specs.declared.fault.DocFault.{DocFault}
use Rattle.identity_doc.specs.declared.id_fault.IdFault.TheVariants.{NoDocument, NotJson, BadDocument, BadSignatures, Get}
use Rattle.identity_doc.specs.IdentityChains.{IsBlob}
use Rattle.identity_doc.specs.IdentityFaults.{LacksDocument}
use Rattle.identity_doc.specs.IdentityReaders.{FailsDocument, FailsSignatures}
use Rattle.identity_doc.specs.Signatures.{BreaksSignaturesAt}
use Rattle.identity_doc.specs.Texts.{IsBadText, IsNoJson}

module _ (m : ObjectMap) (keyring : Contents) (commit blob : Oid) (named : embedded.HasDocumentBlob m commit blob) where
  -- a commit whose document blob is not there has none
  lacks_text : ((bytes : List ℕ) → IsBlob m blob bytes → ⊥) → LacksDocument m commit
  lacks_text none other bytes has =
      none bytes (subst (λ (o : Oid). IsBlob m o bytes) (one_embedded m commit _ other blob has.named named) has.there)

  -- where the blob is not there
  pub lacks_blob : ((bytes : List ℕ) → IsBlob m blob bytes → ⊥) → FailsDocument m keyring commit blob (NoDocument commit)
  lacks_blob none = record { first = λ rid same. (refl, lacks_text none); change = λ parent before. (refl, lacks_text none) }

  -- where the blob is no JSON
  pub no_json : (bytes : List ℕ) → IsBlob m blob bytes → IsNoJson bytes → FailsDocument m keyring commit blob (NotJson commit)
  no_json bytes there none = record {
    first = λ rid same. (refl, (bytes, record { named = rw (sym same) named; there = rw (sym same) there }, none));
    change = λ parent before. (refl, (blob, (bytes, record { named = named; there = there }, none)));
  }

  -- where the blob is no document
  pub bad_document : (bytes : List ℕ) (why : DocFault) → IsBlob m blob bytes → IsBadText keyring bytes why
      → FailsDocument m keyring commit blob (BadDocument commit why)
  bad_document bytes why there bad = record {
    first = λ rid same. (refl, (bytes, record { named = rw (sym same) named; there = rw (sym same) there }, bad));
    change = λ parent before. (refl, (blob, (bytes, record { named = named; there = there }, bad)));
  }

  -- where it could not be had
  pub not_had : (why : GetFault) → FailsDocument m keyring commit blob (Get why)
  not_had why = record { first = λ rid same. tt; change = λ parent before. tt }

module _ (m : ObjectMap) (commit blob : Oid) (named : embedded.HasSignaturesBlob m commit blob) where
  -- where the blob of signatures is not there
  pub lacks_lines : ((bytes : List ℕ) → IsBlob m blob bytes → ⊥) → FailsSignatures m commit (BadSignatures commit 0)
  lacks_lines none = λ keyring parent before has. (
    refl,
    has,
    inl (refl, λ bytes t. none bytes (subst (λ (o : Oid). IsBlob m o bytes) (one_embedded m commit _ t.blob blob t.named named) t.there)),
  )

  -- where a line of it is broken
  pub broken_line : (bytes : List ℕ) (n : ℕ) → IsBlob m blob bytes → BreaksSignaturesAt n bytes → FailsSignatures m commit (BadSignatures commit n)
  broken_line bytes n there breaks = λ keyring parent before has.
      (refl, has, inr (bytes, record { blob = blob; named = named; there = there }, breaks))
