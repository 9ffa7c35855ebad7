use Rattle.std.proofs.Common.{Bool, Option, Some, None, cond, option_map, sym, ap, ◌∙◌}
use Rattle.std.specs.Prelude.{not}
use Rattle.std.specs.BTreeMap.{get}
use Rattle.rad_base.specs.Order.{oid_cmp}
use Rattle.commit_graph.specs.declared.memory.Held.{Held}
use Rattle.commit_graph.specs.InMemory.{Holding, named_each, objects_in}
use Rattle.commit_graph.specs.Memory.{object_of}
use Rattle.commit_graph.proofs.Holdings.{found_there}
use Rattle.commit_graph.proofs.memory.MemObjects.object.Goals as goal

pub returns-then-contains-clause-found : goal.returns-then-contains-clause-found
returns-then-contains-clause-found c =
    let held = c.self.inside.held in
    let oid = c.args.oid.now in
    sym (ap (λ (s : Holding). objects_in s.objects oid) (sym c.self.view_is)
    ∙ found_there c.self.inside.staged held.entries c.self.invariant.named oid
    ∙ ap (λ (b : Bool). cond (not b) (option_map object_of (get oid_cmp held oid)) None) (sym c.contains.ensures ∙ c.if-contains.true))

pub returns-in-None-clause-found : goal.returns-in-None-clause-found
returns-in-None-clause-found c =
    let held = c.self.inside.held in
    let oid = c.args.oid.now in
    sym (ap (λ (s : Holding). objects_in s.objects oid) (sym c.self.view_is)
    ∙ found_there c.self.inside.staged held.entries c.self.invariant.named oid
    ∙ ap (λ (b : Bool). cond (not b) (option_map object_of (get oid_cmp held oid)) None) (sym c.contains.ensures ∙ c.if-contains.false)
    ∙ ap (λ (o : Option Held). option_map object_of o) (sym c.in-None.ensures.value))

pub returns-in-Some-clause-found : goal.returns-in-Some-clause-found
returns-in-Some-clause-found c =
    let held = c.self.inside.held in
    let oid = c.args.oid.now in
    sym (ap (λ (s : Holding). objects_in s.objects oid) (sym c.self.view_is)
    ∙ found_there c.self.inside.staged held.entries c.self.invariant.named oid
    ∙ ap (λ (b : Bool). cond (not b) (option_map object_of (get oid_cmp held oid)) None) (sym c.contains.ensures ∙ c.if-contains.false)
    ∙ ap (λ (o : Option Held). option_map object_of o) (sym c.in-Some.ensures.value)
    ∙ ap (λ (l : _). Some (c.in-Some.held.now.kind, l)) (sym c.as_slice.ensures.value))

pub returns-in-Some-clause-named : goal.returns-in-Some-clause-named
returns-in-Some-clause-named c =
    named_each c.args.self.now.objects c.args.oid.now (c.in-Some.held.now.kind, c.as_slice.result.now) (sym (returns-in-Some-clause-found c))
