use Rattle.std.proofs.Common.{◌≡◌, ◌++◌, ◌+◌, ◌∷◌, [], List, map, take, drop, sym, ap, subst, refl, ◌∙◌}
use Rattle.std.proofs.lemmas.List.{map_more}
use Rattle.serde_json.specs.Data.{Data}
use Rattle.serde_json.specs.View.{view}
use Rattle.serde_json.specs.declared.value.Value.{Value}
use Rattle.routing.specs.RulesFiles.{AreKeys}
use Rattle.routing.proofs.ReadKeys.{keys_more, no_keys, split_at}
use Rattle.routing.proofs.repos.keys_in.Goals as goal

pub loop-element-preserved : goal.loop-element-preserved
loop-element-preserved c =
    let d = c.element-item.result in
    let i = c.loop-element.element-index in
    let done = map view (take i c.args.elements.now) in
    let more : map view (take (i + 1) c.args.elements.now) ≡ done ++ view d ∷ [] =
    map_more view c.args.elements.now i d c.loop-element-test.true ∙ ap (λ (v : Value). done ++ view v ∷ []) (sym c.element-item.is) in
    subst (λ (ds : List Data). AreKeys ds c.push.new.self) (sym more)
    (rw c.in_ok-push-in-Some.ensures.ok (keys_more done c.loop-element.nids (view d) c.in-Some.nid c.loop-element.invariant c.in-Some.ensures.found))

pub returns-in-None-clause-refused : goal.returns-in-None-clause-refused
returns-in-None-clause-refused c = λ check. (
  refl,
  λ nids are.
      let d = c.element-item.result in
      let i = c.loop-element.element-index in
      let done = map view (take i c.args.elements.now) in
      let rest = map view (drop (i + 1) c.args.elements.now) in
      let whole : map view c.args.elements.now ≡ done ++ view d ∷ rest =
      split_at view c.args.elements.now i d c.loop-element-test.true ∙ ap (λ (v : Value). done ++ view v ∷ rest) (sym c.element-item.is) in
      no_keys done (view d) rest nids c.in-None.ensures.none (subst (λ (ds : List Data). AreKeys ds nids) whole are),
)
