-- What is said of held objects that are told alike.
use Rattle.std.proofs.Common.{◌≡◌, List, Option, Some, None, refl, sym, ap, ◌∙◌, subst}
use Rattle.std.specs.Prelude.{Result, Ok, Err}
use Rattle.rad_base.specs.declared.offer.Offer.{Offer}
use Rattle.commit_graph.specs.Objects.{Object, ObjectMap}
use Rattle.repo_entries.specs.declared.whole.Whole.{Whole}
use Rattle.repo_slice.specs.Keeps.{Constants, HasSlice, Held, HeldBehind, IsVerdictOn, ToldAlike, put_told}
use Rattle.repo_slice.specs.Verdicts.{IsNextState, IsVerdict}
use Rattle.repo_slice.specs.declared.scope.Scope.{Scope}
use Rattle.repo_slice.specs.declared.state.State.{State}
use Rattle.repo_slice.specs.declared.verdict.Judged.{Judged}

not_some : (x : ObjectMap) → None ≡ Some x → ⊥
not_some x e = cc e

some_not : (x : ObjectMap) → Some x ≡ None → ⊥
some_not x e = cc e

-- what is told is told again
alike : (told new : Option ObjectMap) (x : ObjectMap) → ToldAlike told new → told ≡ Some x → new ≡ Some x
alike None new x t e = absurd (not_some x e)
alike (Some a) None x t e = absurd t
alike (Some a) (Some b) x t e = ap (λ (m : ObjectMap). Some m) (sym (λ i oid. (t oid) i)) ∙ e

told_through : (a b c : Option ObjectMap) → ToldAlike a b → ToldAlike b c → ToldAlike a c
told_through None b c f g = tt
told_through (Some x) None c f g = absurd f
told_through (Some x) (Some y) None f g = absurd g
told_through (Some x) (Some y) (Some z) f g = λ oid. f oid ∙ g oid

-- what is not told behind puts was not told before
pub untold_before : (told new : Option ObjectMap) (objects : List Object) → ToldAlike (put_told told objects) new → new ≡ None
    → told ≡ None
untold_before None new objects t e = refl
untold_before (Some x) None objects t e = absurd t
untold_before (Some x) (Some y) objects t e = absurd (some_not y e)

-- the verdict on what is held is that on what is told of it
pub verdict_on : (constants : Constants) (on held : Held) (offer : Offer) (scope : Scope) (verdict : Result Judged Whole)
    → HasSlice on.state on.objects held → IsVerdictOn constants held offer scope verdict → IsVerdictOn constants on offer scope verdict
verdict_on constants on held offer scope verdict h f x e =
    subst (λ (state : State). IsVerdict x constants.keyring state offer scope verdict) h.same_state
    (f x (alike on.objects held.objects x h.same_objects e))

-- what the verdict leaves of what is held, it leaves of what is told of it
pub behind_on : (on held new : Held) (judged : Judged) → HasSlice on.state on.objects held
    → HeldBehind held (Ok judged) new → HeldBehind on (Ok judged) new
behind_on on held new judged h f = (
  subst (λ (state : State). IsNextState state judged new.state) h.same_state f.0,
  told_through on.objects held.objects new.objects h.same_objects f.1,
)

-- nothing is left otherwise by a whole refusal
pub refused_on : (on held new : Held) (why : Whole) → HasSlice on.state on.objects held → HeldBehind held (Err why) new
    → HasSlice on.state on.objects new
refused_on on held new why h e = subst (λ (k : Held). HasSlice on.state on.objects k) (sym e) h
