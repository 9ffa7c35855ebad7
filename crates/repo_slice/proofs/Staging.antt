-- What is staged of a put.
use Rattle.std.proofs.Common.{◌≡◌, Bool, true, false, cond, List, [], ◌∷◌, ◌++◌, Option, Some, None, sym, ap, subst, ⊎_elim, ◌∙◌}
use Rattle.std.specs.Prelude.{Contains, OnOk, Result, Ok, Err, ℕ}
use Rattle.std.specs.Option.{option_or}
use Rattle.std.specs.BTreeMap.{is_at}
use Rattle.rad_base.specs.declared.names.Oid.{Oid}
use Rattle.rad_base.specs.Order.{oid_cmp}
use Rattle.rad_base.proofs.Members.{contains_cases, contains_nothing}
use Rattle.rad_base.proofs.NameOrder.{equals_itself}
use Rattle.git_object.specs.Names.{name}
use Rattle.commit_graph.specs.InMemory.{objects_in}
use Rattle.commit_graph.specs.Objects.{Object, ObjectMap}
use Rattle.commit_graph.proofs.Named.{objects_behind, puts_along}
use Rattle.rad_base.specs.declared.names.Rid.{Rid}
use Rattle.repo_entries.specs.Items.{names_of}
use Rattle.repo_entries.specs.declared.entry.Entry.{Entry}
use Rattle.repo_entries.specs.declared.entry.Entry.TheVariants.{Put}
use Rattle.repo_slice.specs.declared.slice.Slice.{Slice}
use Rattle.repo_slice.specs.Slices.{HasNothingStaged, IsEntryFor, IsReady, Stages}

some_is_not_none : {X : Type 0} (x : X) → Some x ≡ None → ⊥
some_is_not_none x e = cc e

-- a name of some objects has one
named_there : (batch : List Object) (oid : Oid) → Contains (names_of batch) oid → objects_in batch oid ≡ None → ⊥
named_there [] oid c e = contains_nothing oid c
named_there (x ∷ xs) oid c e =
    ⊎_elim
    (λ first. some_is_not_none x (sym (ap (λ (b : Bool). cond b (Some x) (objects_in xs oid)) (own first)) ∙ e))
    (λ later. by_test (λ (h : objects_in xs oid ≡ None). named_there xs oid later h) (is_at (oid_cmp oid) (name x.0 x.1)) e)
    (contains_cases (name x.0 x.1) (names_of xs) oid c)
  where
    own : name x.0 x.1 ≡ oid → is_at (oid_cmp oid) (name x.0 x.1) ≡ true
    own first = subst (λ (o : Oid). is_at (oid_cmp oid) o ≡ true) (sym first) (equals_itself oid.0)

    by_test : (objects_in xs oid ≡ None → ⊥) → (b : Bool) → cond b (Some x) (objects_in xs oid) ≡ None → ⊥
    by_test later true h = some_is_not_none x h
    by_test later false h = later h

or_none : {X : Type 0} (a b : Option X) → option_or a b ≡ None → b ≡ None
or_none None b e = e
or_none (Some x) b e = cc e

-- so has a name of objects that are put behind others
pub pending_there : (old batch : List Object) (m : ObjectMap) → m ≡ objects_in (old ++ batch) → (oid : Oid) → Contains (names_of batch) oid → m oid ≡ None → ⊥
pending_there old batch m e oid c none =
    let whole : objects_in (old ++ batch) oid ≡ None = sym (ap (λ (f : ObjectMap). f oid) e) ∙ none in
    named_there batch oid c (or_none (objects_in old oid) (objects_in batch oid) (sym (objects_behind old batch oid) ∙ whole))

pub on_ok : {T E : Type 0} (r : Result T E) (P Q : Type 0) → (P → Q) → OnOk r P → OnOk r Q
on_ok (Ok x) P Q f h = f h
on_ok (Err e) P Q f h = tt

-- a put is staged where its objects are put behind what there is
pub stages_put : (old new : Slice) (entry : Entry) (rid : Rid) (names : List Oid) (caller : ℕ) (batch sent : List Object)
    → entry ≡ Put rid names caller → sent ≡ batch → HasNothingStaged old → new.next ≡ old.next
    → objects_in new.objects.pending ≡ objects_in (old.objects.pending ++ sent) → Stages old entry batch new
stages_put old new entry rid names caller batch sent is same none next e =
    subst (λ (x : Entry). Stages old x batch new) (sym is) (
      e ∙ ap (λ (x : List Object). objects_in (old.objects.pending ++ x)) same ∙ puts_along old.objects.pending old.objects.objects batch none.objects,
      next ∙ none.next,
    )

-- and it is ready then
pub ready_put : (old new : Slice) (entry : Entry) (rid : Rid) (names : List Oid) (caller : ℕ) (batch sent : List Object)
    → entry ≡ Put rid names caller → sent ≡ batch → HasNothingStaged old → new.next ≡ old.next
    → IsEntryFor old.state.rid entry batch → old.state.rid ≡ new.state.rid
    → objects_in new.objects.pending ≡ objects_in (old.objects.pending ++ sent) → IsReady new entry
ready_put old new entry rid names caller batch sent is same none next wanted kept e =
    let put : IsEntryFor old.state.rid (Put rid names caller) batch = subst (λ (x : Entry). IsEntryFor old.state.rid x batch) is wanted in
    let whole : objects_in new.objects.pending ≡ objects_in (old.objects.pending ++ batch) = e ∙ ap (λ (x : List Object). objects_in (old.objects.pending ++ x)) same in
    subst (λ (x : Entry). IsReady new x) (sym is) (
      put.0 ∙ kept,
      (λ oid c. pending_there old.objects.pending batch (objects_in new.objects.pending) whole oid (subst (λ (xs : List Oid). Contains xs oid) put.1 c)),
      next ∙ none.next,
    )
