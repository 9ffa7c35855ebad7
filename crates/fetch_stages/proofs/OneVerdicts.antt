-- On objects that are told an offer has one verdict.
use Rattle.std.proofs.Common.{◌≡◌, Option, Some, None, refl}
use Rattle.commit_graph.specs.Objects.{ObjectMap}
use Rattle.repo_slice.proofs.OneVerdict.{one_verdict}
use Rattle.fetch_stages.specs.JobLaws.{OneVerdictOn}

told_objects : (o : Option ObjectMap) → (o ≡ None → ⊥) → (objects : ObjectMap) × (o ≡ Some objects)
told_objects None t = absurd (t refl)
told_objects (Some objects) t = (objects, refl)

pub one_verdict_on : OneVerdictOn
one_verdict_on constants held offer scope these those t h k =
    let o = told_objects held.objects t in
    one_verdict o.0 constants.keyring held.state offer scope these those (h o.0 o.1) (k o.0 o.1)
