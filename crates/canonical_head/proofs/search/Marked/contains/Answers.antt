use Rattle.std.proofs.Common.{sym, subst, arith}
use Rattle.std.specs.Prelude.{Contains}
use borrow.Author.Tests.{ltb-true}
use Rattle.canonical_head.specs.Marks.{Marking}
use Rattle.canonical_head.proofs.Marking.{found_below}
use Rattle.canonical_head.proofs.search.Marked.contains.Goals as goal

pub returns-else-number-len : goal.returns-else-number-len
returns-else-number-len c = (
  λ yes. absurd (omega (arith, c.if-number-len.false, ltb-true c.args.number c.len.result yes)),
  λ has.
      let here : Contains c.self.inside.queue.items c.args.number =
      subst (λ (k : Marking). Contains k.found c.args.number) (sym c.self.view_is) has in
      absurd (omega (arith, c.if-number-len.false, c.len.ensures, c.self.inside.marks.ok.0, found_below c.self.inside.marks.items c.self.inside.queue.items c.args.number c.self.invariant here)),
)
