use Rattle.std.proofs.Common.{◌≡◌, ◌<◌, length, sym, ap, ◌∙◌, arith}
use Rattle.std.proofs.lemmas.Bool.{false≢true}
use Rattle.std.proofs.lemmas.List.{nil_from_length}
use Rattle.commit_graph.specs.Memory.{held_objects}
use Rattle.commit_graph.proofs.Holdings.{all_there, named_removed, none_in, unstage_there}
use Rattle.commit_graph.proofs.memory.MemObjects.unstage.Goals as goal

pub loop-oid-preserved-in-Some : goal.loop-oid-preserved-in-Some
loop-oid-preserved-in-Some c =
    let held = c.loop-oid.self-inside.held in
    let there = unstage_there held c.remove.new.self c.loop-oid.self-inside.staged c.pop_first.new.self c.in-Some.oid
    c.in-Some.ensures.member c.remove.ensures.entries c.remove.ensures.updates.0 c.in-Some.ensures.updates.0 in
    record {
      holds = record {
        named = named_removed held.entries c.remove.new.self.entries _ c.remove.ensures.entries c.loop-oid.invariant.holds.named;
        counted = c.loop-oid.invariant.holds.counted ∙ sym (ap length there);
      };
      there = ap held_objects there ∙ c.loop-oid.invariant.there;
    }

pub loop-oid-preserved : goal.loop-oid-preserved
loop-oid-preserved c =
    let held = c.loop-oid.self-inside.held in
    let there = unstage_there held c.remove.new.self c.loop-oid.self-inside.staged c.pop_first.new.self c.in-Some.oid
    c.in-Some.ensures.member c.remove.ensures.entries c.remove.ensures.updates.0 c.in-Some.ensures.updates.0 in
    record {
      holds = record {
        named = named_removed held.entries c.remove.new.self.entries _ c.remove.ensures.entries c.loop-oid.invariant.holds.named;
        counted = c.loop-oid.invariant.holds.counted ∙ sym (ap length there);
      };
      there = ap held_objects there ∙ c.loop-oid.invariant.there;
    }

pub returns-clause-pending : goal.returns-clause-pending
returns-clause-pending c =
    let old = c.loop-oid.self-inside.staged in
    let some : 0 < length old.keys → ⊥ = λ h. false≢true (c.in_default.ensures.variant.1 h) in
    let none : length old.keys ≡ 0 = omega (arith, some) in
    sym (ap held_objects (all_there c.pop_first.new.self c.loop-oid.self-inside.held.entries
    (none_in c.pop_first.new.self (c.in_default.ensures.unchanged ∙ nil_from_length old.keys none))))
