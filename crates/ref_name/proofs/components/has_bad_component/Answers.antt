use Rattle.std.proofs.Common.{[], refl, subst, sym, ⊎_elim}
use Rattle.std.specs.List.{Any}
use Rattle.ref_name.specs.Rules.{IsBadComponent, components}
use Rattle.rad_base.proofs.Conditions.{differ}
use Rattle.ref_name.proofs.Parts.{any_cases, any_first, any_nothing, any_rest, one_component, split_at_slash}
use Rattle.ref_name.proofs.components.has_bad_component.Goals as goal

pub returns-then-is_bad : goal.returns-then-is_bad
returns-then-is_bad c =
    let found = rw c.in-Some.is at c.until.ensures.found in
    let parts = split_at_slash c.in-Some.component.now c.in-Some.more.now c.parts.rest.now found.0 found.1 in (
      λ _. c.parts.invariant.1 (subst (λ l. Any IsBadComponent l) (sym parts)
          (any_first IsBadComponent c.in-Some.component.now (components c.in-Some.more.now) (c.is_bad.ensures.0 c.if-is_bad.true))),
      λ _. refl,
    )

pub parts-preserved : goal.parts-preserved
parts-preserved c =
    let found = rw c.in-Some.is at c.until.ensures.found in
    let parts = split_at_slash c.in-Some.component.now c.in-Some.more.now c.parts.rest.now found.0 found.1 in (
      λ h. ⊎_elim (λ bad. absurd (differ c.is_bad.result (c.is_bad.ensures.1 bad) c.if-is_bad.false)) (λ rest. rest)
          (any_cases IsBadComponent c.in-Some.component.now (components c.in-Some.more.now)
          (subst (λ l. Any IsBadComponent l) parts (c.parts.invariant.0 h))),
      λ h. c.parts.invariant.1 (subst (λ l. Any IsBadComponent l) (sym parts)
          (any_rest IsBadComponent c.in-Some.component.now (components c.in-Some.more.now) h)),
    )

pub returns : goal.returns
returns c =
    let one = one_component c.parts.rest.now (rw c.in_default.is at c.until.ensures.none) in (
      λ t. c.parts.invariant.1 (subst (λ l. Any IsBadComponent l) (sym one) (any_first IsBadComponent c.parts.rest.now [] (c.is_bad-2.ensures.0 t))),
      λ h. ⊎_elim (λ bad. c.is_bad-2.ensures.1 bad) (λ none. absurd (any_nothing IsBadComponent none))
          (any_cases IsBadComponent c.parts.rest.now [] (subst (λ l. Any IsBadComponent l) one (c.parts.invariant.0 h))),
    )
