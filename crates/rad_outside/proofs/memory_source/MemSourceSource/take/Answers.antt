use Rattle.std.proofs.Common.{ℕ, List, take, ap, sym, ◌∙◌}
use Rattle.rad_outside.proofs.Fronts.{front_and_rest, nothing_behind}
use Rattle.rad_outside.proofs.memory_source.MemSourceSource.take.Goals as goal

pub returns-clause-bytes : goal.returns-clause-bytes
returns-clause-bytes c =
    let place : ℕ = c.args.self.now.place in
    let bytes : List ℕ = c.args.self.now.bytes.items in
    let n : ℕ = c.copy_front-n.result in
    let front = c.copy_front-n.ensures.front ∙ ap (take n) c.rest.ensures in (
      front_and_rest place n bytes c.copy_front-n.new.into front,
      λ none some. nothing_behind place n bytes (sym c.rest.ensures ∙ c.copy_front-n.ensures.end none some),
    )
