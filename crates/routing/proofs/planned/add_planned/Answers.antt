use Rattle.std.proofs.Common.{◌≡◌, List, [], ◌∷◌, ◌++◌, inl, inr, refl, sym, ap, slice_set, ⊎_elim, ◌-◌, arith, ◌∙◌}
use Rattle.std.proofs.lemmas.Bool.{cases_lt}
use Rattle.std.proofs.lemmas.List.{set-get_or}
use Rattle.routing.specs.declared.planned.Planned.{Planned}
use Rattle.routing.proofs.Planning.{last_other, lessens, no_last}
use Rattle.routing.proofs.RidOrder.{not_there, other_name, same_name}
use Rattle.routing.proofs.planned.add_planned.Goals as goal
use Rattle.routing.proofs.planned.add_planned.Goals.{in-Some+else-eq, in_default}

pub returns-then-eq : goal.returns-then-eq
returns-then-eq c =
    let last = c.in-Some.last.now in
    let same : last.rid ≡ c.args.rid = same_name last.rid c.args.rid (sym c.if-eq.true ∙ c.eq.ensures) in
    inl (lessens c.args.planned.now.items c.args.planned.now.len last c.args.rid c.args.link c.min-last.result (sym c.args.planned.now.ok.0) (c.in-Some.ensures.variant.0 refl)
    c.in-Some.ensures.value same c.min-last.ensures)

pub returns : goal.returns
returns c =
    let items = c.args.planned.now.items in
    let pushed = c.in_ok-push.ensures.items in
    let adds = λ (xs : List Planned). xs ++ record { rid = c.args.rid; link = c.args.link } ∷ [] in
    elim c.match-last_mut.branch [
      | in-Some+else-eq w ↦
          let last = w.in-Some.last.now in
          let value = w.in-Some.ensures.value in
          let kept : c.match-last_mut.planned.items ≡ items =
          ap (λ v. v.items) w.planned-is ∙ ap (λ (x : Planned). slice_set items (c.args.planned.now.len - 1) x) value ∙ set-get_or items (c.args.planned.now.len - 1) last in
          inr (record {
            other = last_other items c.args.planned.now.len last c.args.rid (sym c.args.planned.now.ok.0) (w.in-Some.ensures.variant.0 refl) value
                (other_name last.rid c.args.rid (sym w.if-eq.false ∙ w.eq.ensures));
            is = pushed ∙ ap adds kept;
          })
      | in_default w ↦
          let kept : c.match-last_mut.planned.items ≡ items = ap (λ v. v.items) w.planned-is in
          let none : c.args.planned.now.len ≡ 0 =
          ⊎_elim (λ some. absurd (not_there c.last_mut.result w.in_default.is (c.last_mut.ensures.variant.1 some))) (λ none. omega (arith, none))
          (cases_lt 0 c.args.planned.now.len) in
          inr (record { other = no_last items c.args.rid (sym c.args.planned.now.ok.0 ∙ none); is = pushed ∙ ap adds kept })
    ]
