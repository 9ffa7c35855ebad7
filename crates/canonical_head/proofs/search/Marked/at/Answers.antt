use Rattle.std.proofs.Common.{◌<◌, length, get_or, ap, sym, arith, subst}
use Rattle.std.proofs.lemmas.Option.{slice_get-get_or}
use Rattle.rad_base.proofs.Members.{contains_at}
use Rattle.std.specs.Prelude.{Contains}
use Rattle.canonical_head.specs.Marks.{Marking}
use Rattle.canonical_head.proofs.Marking.{found_below}
use Rattle.canonical_head.proofs.search.Marked.at.Goals as goal

pub returns-clause-below : goal.returns-clause-below
returns-clause-below c =
    let queue = c.self.inside.queue.items in
    let within : c.args.i < length queue = omega (arith, c.requires, ap (λ (k : Marking). length k.found) c.self.view_is) in
    let here : Contains queue c.index.result.now =
    subst (Contains queue) (sym c.index.ensures)
    (contains_at queue c.args.i (get_or queue c.args.i c.index.result.now) (slice_get-get_or queue c.args.i c.index.result.now within)) in
    omega (arith, found_below c.self.inside.marks.items queue c.index.result.now c.self.invariant here, ap (λ (k : Marking). k.limit) c.self.view_is)
