use Rattle.std.proofs.Common.{sym, ap, length, ◌∙◌}
use Rattle.commit_graph.specs.InMemory.{Holding}
use Rattle.commit_graph.specs.Memory.{held_objects}
use Rattle.commit_graph.proofs.Holdings.{all_there, none_in}
use Rattle.commit_graph.proofs.memory.MemObjects.admit.Goals as goal

pub invariant_of-self : goal.invariant_of-self
invariant_of-self c = record {
  named = c.self.invariant.named;
  counted = c.len-self-inside.ensures.len
      ∙ sym (ap length (all_there c.clear.new.self c.self.inside.held.entries (none_in c.clear.new.self c.clear.ensures.empty)));
}

pub returns-clause-there : goal.returns-clause-there
returns-clause-there c =
    ap held_objects (all_there c.clear.new.self c.self.inside.held.entries (none_in c.clear.new.self c.clear.ensures.empty))
    ∙ ap (λ (s : Holding). s.pending) c.self.view_is
