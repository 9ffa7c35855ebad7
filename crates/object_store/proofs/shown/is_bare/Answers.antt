use Rattle.std.proofs.Common.{◌≡◌, ap, length, rules}
use Rattle.object_store.proofs.Showing.{none_in}
use Rattle.object_store.proofs.shown.is_bare.Goals as goal

pub returns-else-count-eq0-clause-told : goal.returns-else-count-eq0-clause-told
returns-else-count-eq0-clause-told c =
    let some : length c.args.slice.now.objects.objects ≡ 0 → ⊥ = search rules in
    (search rules, λ bare. absurd (some (ap length (none_in c.args.slice.now.objects.objects bare.0))))
