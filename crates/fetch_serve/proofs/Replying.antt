-- Who sees what is shown.
use Rattle.std.proofs.Common.{◌≡◌, Bool, true, false, None, Some, ap, subst}
use Rattle.std.specs.Prelude.{IsTrue, ◌↔◌}
use Rattle.rad_base.specs.declared.names.Nid.{Nid}
use Rattle.rad_base.specs.declared.names.Rid.{Rid}
use Rattle.rad_base.proofs.Conditions.{differ}
use Rattle.rad_base.proofs.Options.{not_nothing, one_value}
use Rattle.keyring.specs.Contents.{Contents}
use Rattle.identity_doc.specs.Documents.{Sees}
use Rattle.identity_doc.specs.IdentityChains.{HasIdentity}
use Rattle.identity_doc.specs.IdentityFaults.{IsGet, id_fault_in}
use Rattle.identity_doc.specs.declared.doc.Doc.{Doc}
use Rattle.identity_doc.specs.declared.id_fault.IdFault.{IdFault}
use Rattle.identity_doc.proofs.OneIdentity.{one_identity}
use Rattle.fetch_wire.specs.declared.request.Request.{Request}
use Rattle.fetch_serve.specs.Good.{IsGood, Showing}
use Rattle.fetch_serve.specs.Replies.{IsSeen, rid_of}

-- where the document does not let the asker see it
pub unseen : (shown : Showing) (keyring : Contents) (r : Request) (asker : Nid) (rid : Rid) (sees : Bool) → rid_of r ≡ Some rid → (good : IsGood shown keyring rid)
    → IsTrue sees ↔ Sees good.doc asker → sees ≡ false → IsSeen shown keyring r asker → ⊥
unseen shown keyring r asker rid sees asked good told blind h =
    let same : h.rid ≡ rid = one_value h.asked asked in
    let identity : HasIdentity shown.objects keyring rid shown.id h.doc = subst (λ (x : Rid). HasIdentity shown.objects keyring x shown.id h.doc) same h.identity in
    let doc : h.doc ≡ good.doc = one_identity shown.objects keyring rid shown.id h.doc good.doc identity good.identity in
    differ sees (told.1 (subst (λ (d : Doc). Sees d asker) doc h.sees)) blind

-- a refusal that is no fault of objects is none of an identity
pub not_unseen : (fault : IdFault) → IsGet fault → id_fault_in fault ≡ None → ⊥
not_unseen fault get none = not_nothing (ap id_fault_in get.1) none

-- and where it does
pub seen : (shown : Showing) (keyring : Contents) (r : Request) (asker : Nid) (rid : Rid) (sees : Bool) → rid_of r ≡ Some rid → (good : IsGood shown keyring rid)
    → IsTrue sees ↔ Sees good.doc asker → sees ≡ true → IsSeen shown keyring r asker
seen shown keyring r asker rid sees asked good told sighted = record {
  rid = rid;
  asked = asked;
  doc = good.doc;
  identity = good.identity;
  sees = told.0 sighted;
}
