use Rattle.std.proofs.Common.{◌≡◌, Ok, length, refl, sym}
use Rattle.serde_json.specs.View.{number_view, view}
use Rattle.identity_doc.specs.Documents.{threshold_within}
use Rattle.identity_doc.proofs.doc.Doc.of.Goals as goal

pub returns-clause-read : goal.returns-clause-read
returns-clause-read c =
    let reached : threshold_within (length c.in_ok-delegates.delegates) (number_view c.in_ok-number.number.now) ≡ Ok c.in_ok-threshold.threshold =
    rw (← c.as_slice.ensures) (sym c.in_ok-threshold.ensures) in
    record {
      payload = view c.in_ok-payload.payload.now;
      passes =
          rw (c.in_ok-elements.ensures.read, c.in_ok-counted_elements.ensures.passed, c.in_ok-delegates.ensures.read)
          (rw (c.in_ok-number.ensures.read, c.in_ok-payload.ensures.read, c.in_ok-visibility.ensures.read)
          (rw reached refl));
      branch = c.in_ok-default_branch.ensures;
    }
