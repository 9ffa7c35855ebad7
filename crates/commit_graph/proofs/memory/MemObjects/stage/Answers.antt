use Rattle.std.proofs.Common.{◌≡◌, ℕ, List, [], ◌∷◌, ◌++◌, None, sym, ap, subst, length, ◌∙◌}
use Rattle.git_object.specs.Names.{name}
use Rattle.std.specs.BTreeMap.{get}
use Rattle.rad_base.specs.Order.{oid_cmp}
use Rattle.commit_graph.specs.declared.memory.Held.{Held}
use Rattle.commit_graph.specs.InMemory.{Holding, objects_in}
use Rattle.commit_graph.specs.Memory.{held_objects}
use Rattle.commit_graph.proofs.Holdings.{absent_from, named_insert, put_again, same_there, stage_there, staged_pending}
use Rattle.commit_graph.proofs.memory.MemObjects.stage.Goals as goal

pub returns-then-contains_key-clause-pending : goal.returns-then-contains_key-clause-pending
returns-then-contains_key-clause-pending c =
    subst (λ (s : Holding). objects_in s.pending ≡ objects_in (s.pending ++ (c.args.kind, c.args.bytes.now) ∷ [])) c.self.view_is
    (put_again c.self.inside.held c.args.oid c.args.kind c.args.bytes.now c.requires c.self.invariant.named (sym c.contains_key.ensures ∙ c.if-contains_key.true))

pub invariant_of-self-in-Ok : goal.invariant_of-self-in-Ok
invariant_of-self-in-Ok c =
    let bytes : c.in_ok-bytes.bytes.items ≡ c.args.bytes.now = c.in_ok-bytes.ensures.items_if_clones_equal (λ x y e. e) in
    let held : Held = record { kind = c.args.kind; bytes = c.in_ok-bytes.bytes } in
    let absent : get oid_cmp c.self.inside.held c.args.oid ≡ None = absent_from _ (sym c.contains_key.ensures ∙ c.if-contains_key.false) in
    record {
      named = rw c.in-Ok.ensures.entries
          (named_insert c.self.inside.held.entries c.args.oid held c.self.invariant.named (ap (λ (l : List ℕ). name c.args.kind l) bytes ∙ sym c.requires));
      counted = c.self.invariant.counted
          ∙ sym (ap length (stage_there c.self.inside.held c.insert-2.new.self c.self.inside.staged c.insert.new.self c.args.oid held absent
          c.in-Ok.ensures.entries c.in_ok-insert.ensures.updates.0));
    }

pub returns-in-Ok-clause-there : goal.returns-in-Ok-clause-there
returns-in-Ok-clause-there c =
    let held : Held = record { kind = c.args.kind; bytes = c.in_ok-bytes.bytes } in
    let absent : get oid_cmp c.self.inside.held c.args.oid ≡ None = absent_from _ (sym c.contains_key.ensures ∙ c.if-contains_key.false) in
    ap held_objects
    (stage_there c.self.inside.held c.insert-2.new.self c.self.inside.staged c.insert.new.self c.args.oid held absent
    c.in-Ok.ensures.entries c.in_ok-insert.ensures.updates.0)
    ∙ ap (λ (s : Holding). s.objects) c.self.view_is

pub returns-in-Ok-clause-pending : goal.returns-in-Ok-clause-pending
returns-in-Ok-clause-pending c =
    let bytes : c.in_ok-bytes.bytes.items ≡ c.args.bytes.now = c.in_ok-bytes.ensures.items_if_clones_equal (λ x y e. e) in
    let held : Held = record { kind = c.args.kind; bytes = c.in_ok-bytes.bytes } in
    let is : name c.args.kind c.in_ok-bytes.bytes.items ≡ c.args.oid = ap (λ (l : List ℕ). name c.args.kind l) bytes ∙ sym c.requires in
    staged_pending c.self.inside.held c.insert-2.new.self c.args.oid held is c.self.invariant.named
    (rw c.in-Ok.ensures.entries (named_insert c.self.inside.held.entries c.args.oid held c.self.invariant.named is))
    (absent_from (get oid_cmp c.self.inside.held c.args.oid) (sym c.contains_key.ensures ∙ c.if-contains_key.false))
    c.in-Ok.ensures.updates.0
    ∙ ap (λ (l : List ℕ). objects_in (held_objects c.self.inside.held.entries ++ (c.args.kind, l) ∷ [])) bytes
    ∙ ap (λ (s : Holding). objects_in (s.pending ++ (c.args.kind, c.args.bytes.now) ∷ [])) c.self.view_is

pub invariant_of-self-in-Err : goal.invariant_of-self-in-Err
invariant_of-self-in-Err c =
    let absent : get oid_cmp c.self.inside.held c.args.oid ≡ None = absent_from _ (sym c.contains_key.ensures ∙ c.if-contains_key.false) in
    rw c.in-Err.ensures.err
    (record {
      named = c.self.invariant.named;
      counted = c.self.invariant.counted
          ∙ sym (ap length (same_there c.self.inside.staged c.insert.new.self c.remove.new.self c.args.oid c.self.inside.held absent
          c.in_ok-insert.ensures.updates.0 c.remove.ensures.updates.0));
    })

pub returns-clause-there : goal.returns-clause-there
returns-clause-there c =
    let absent : get oid_cmp c.self.inside.held c.args.oid ≡ None = absent_from _ (sym c.contains_key.ensures ∙ c.if-contains_key.false) in
    rw c.in-Err.ensures.err
    (ap held_objects
    (same_there c.self.inside.staged c.insert.new.self c.remove.new.self c.args.oid c.self.inside.held absent
    c.in_ok-insert.ensures.updates.0 c.remove.ensures.updates.0)
    ∙ ap (λ (s : Holding). s.objects) c.self.view_is)
