-- What is held behind puts.
use Rattle.std.proofs.Common.{◌≡◌, List, [], ◌++◌, Option, Some, None, refl, sym, ap, ◌∙◌, subst}
use Rattle.std.specs.Option.{option_or}
use Rattle.std.proofs.lemmas.List.{append-nil}
use Rattle.commit_graph.specs.InMemory.{objects_in}
use Rattle.commit_graph.specs.Objects.{Object, ObjectMap}
use Rattle.commit_graph.proofs.Named.{objects_behind}
use Rattle.repo_slice.specs.Keeps.{HasSlice, Held, ToldAlike, put_told}

no_more : (o : Option Object) → option_or o None ≡ o
no_more None = refl
no_more (Some object) = refl

or_assoc : (a b c : Option Object) → option_or a (option_or b c) ≡ option_or (option_or a b) c
or_assoc None b c = refl
or_assoc (Some object) b c = refl

told_none : (told : Option ObjectMap) → ToldAlike (put_told told []) told
told_none None = tt
told_none (Some objects) = λ oid. no_more (objects oid)

told_along : (told mid new : Option ObjectMap) (xs ys : List Object)
    → ToldAlike (put_told told xs) mid → ToldAlike (put_told mid ys) new
    → ToldAlike (put_told told (xs ++ ys)) new
told_along None mid new xs ys f g = tt
told_along (Some a) None new xs ys f g = absurd f
told_along (Some a) (Some b) None xs ys f g = absurd g
told_along (Some a) (Some b) (Some c) xs ys f g = λ oid.
    ap (λ (o : Option Object). option_or (a oid) o) (objects_behind xs ys oid)
    ∙ or_assoc (a oid) (objects_in xs oid) (objects_in ys oid)
    ∙ ap (λ (o : Option Object). option_or o (objects_in ys oid)) (f oid) ∙ g oid

-- nothing is put
pub holds_none : (held : Held) → HasSlice held.state (put_told held.objects []) held
holds_none held = record { same_state = refl; same_objects = told_none held.objects }

-- objects are put behind objects
pub holds_along : (a b c : Held) (xs ys : List Object) → HasSlice a.state (put_told a.objects xs) b
    → HasSlice b.state (put_told b.objects ys) c → HasSlice a.state (put_told a.objects (xs ++ ys)) c
holds_along a b c xs ys f g = record {
  same_state = g.same_state ∙ f.same_state;
  same_objects = told_along a.objects b.objects c.objects xs ys f.same_objects g.same_objects;
}

-- one batch is put
pub holds_one : (a b : Held) (batch : List Object) → HasSlice a.state (put_told a.objects batch) b
    → HasSlice a.state (put_told a.objects (batch ++ [])) b
holds_one a b batch f =
    subst (λ (l : List Object). HasSlice a.state (put_told a.objects l) b) (sym (append-nil batch)) f
