use Rattle.identity_doc.proofs.OneDocument.{not_both, one_document, one_refusal}
use Rattle.identity_doc.proofs.laws.one_document.Goals as goal

pub returns-clause-document : goal.returns-clause-document
returns-clause-document c = one_document

pub returns-clause-refusal : goal.returns-clause-refusal
returns-clause-refusal c = one_refusal

pub returns-clause-never_both : goal.returns-clause-never_both
returns-clause-never_both c = not_both
