use Rattle.std.proofs.Common.{◌∙◌, Option, List, ℕ, ap, subst, sym}
use Rattle.std.specs.Cmp.Lexicographic.{slice_cmp}
use Rattle.std.specs.Ordering.{nat_cmp}
use Rattle.rad_base.specs.Order.{IsBelow}
use Rattle.signed_refs.proofs.OneName.{is_less, last_name}
use Rattle.signed_refs.proofs.refs.Refs.is_below.Goals as goal

pub returns-in-Some : goal.returns-in-Some
returns-in-Some c =
    let last = last_name c.args.self.now c.deref.result.now c.in-Some.field-0.now (c.deref.ensures.value ∙ c.self.view_is)
    (sym (rw c.in-Some.is at c.last.ensures.value)) in
    let order = c.cmp.ensures ∙ ap (λ (l : List ℕ). slice_cmp nat_cmp l c.args.name.now) c.as_slice.ensures in
    let less = is_less c.cmp.result c.eq.result c.eq.ensures in (
      λ t. subst (λ (k : Option (List ℕ)). IsBelow k c.args.name.now) (sym last) (sym order ∙ less.0 t),
      λ above. less.1 (order ∙ subst (λ (k : Option (List ℕ)). IsBelow k c.args.name.now) last above),
    )
