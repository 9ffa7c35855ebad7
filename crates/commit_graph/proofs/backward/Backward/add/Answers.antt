use Rattle.std.proofs.Common.{◌≡◌, ◌∙◌, sym, ap, List, [], ◌∷◌, ◌++◌, Option, Vec, Global, option_map}
use Rattle.std.specs.Option.{unwrap_or}
use Rattle.commit_graph.specs.declared.root.Root.{Root}
use Rattle.commit_graph.specs.Backward.{before_in}
use Rattle.commit_graph.proofs.AddBack.{back_added}
use Rattle.commit_graph.proofs.backward.Backward.add.Goals as goal
use Rattle.commit_graph.proofs.backward.Backward.add.Goals.{in-Some, in-None}

pub returns : goal.returns
returns c =
    let held = λ (o : Option (Vec Root Global)). unwrap_or (option_map (λ v. v.items) o) [] in
    let before : c.match-remove.list.items ≡ before_in c.args.self.now c.args.to = elim c.match-remove.branch [
      | in-Some w ↦ ap (λ (v : Vec Root Global). v.items) w.list-is ∙ ap held (sym w.in-Some.is ∙ c.remove.ensures.value)
      | in-None w ↦ ap (λ (v : Vec Root Global). v.items) w.list-is ∙ w.new-list.ensures.items ∙ ap held (sym w.in-None.is ∙ c.remove.ensures.value)
    ] in
    back_added c.args.self.now (record { from = c.remove.new.self }) (record { from = c.insert.new.self }) c.args.from c.args.to _
    (c.in_ok-push.ensures.items ∙ ap (λ (ys : List Root). ys ++ c.args.from ∷ []) before) c.remove.ensures.updates.0 c.in_ok-insert.ensures.updates.0
