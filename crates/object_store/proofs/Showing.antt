-- Which repositories a store shows.
use Rattle.std.proofs.Common.{◌≡◌, ◌⊎◌, ◌≤◌, Bool, true, false, if◌then◌else◌, cond, List, [], ◌∷◌, ◌++◌, length, Option, None, Some, inl, inr, refl, sym, ap, subst, ◌∙◌, arith}
use Rattle.std.specs.List.{AllByRecursion}
use Rattle.std.specs.Option.{option_or}
use Rattle.rad_base.specs.declared.names.Oid.{Oid}
use Rattle.rad_base.specs.declared.names.Rid.{Rid}
use Rattle.rad_base.proofs.NameOrder.{equals_itself}
use Rattle.git_object.specs.Names.{name}
use Rattle.commit_graph.specs.InMemory.{objects_in}
use Rattle.commit_graph.specs.Objects.{Object, ObjectMap}
use Rattle.keyring.specs.Contents.{Contents}
use Rattle.repo_entries.specs.Items.{Item, claim, heard, install, missed, put, refused}
use Rattle.repo_slice.specs.Slices.{objects_of, state_of}
use Rattle.repo_slice.specs.Standing.{replaced}
use Rattle.repo_slice.specs.declared.state.State.{State}
use Rattle.legal_history.specs.Histories.{Legal, LegalFrom}
use Rattle.legal_history.specs.Replays.{Standing, after_item, after_items, after_put, is_same, nothing_stands, replay, replayed_state}
use Rattle.legal_history.proofs.GoodStandings.{put_grows, same_is}
use Rattle.object_store.specs.Repositories.{StandsAs, StandsKnown}
use Rattle.object_store.specs.Shown.{Concerns, IsBare, ShowsRepository}
use Rattle.object_store.specs.declared.repository.Repository.{Repository}
use Rattle.object_store.proofs.Keys.{is_itself, same_or_other}

-- something stands
abbrev pub Lives : Standing → Type 0
Lives s = (s.id ≡ None → ⊥) ⊎ ((oid : Oid) × (object : Object) × (s.objects oid ≡ Some object))

not_none : {X : Type 0} (x : X) → Some x ≡ None → ⊥
not_none x e = cc e

-- an entry leaves what stands
lives_item : (rid : Rid) (s : Standing) (item : Item) → Lives s → Lives (after_item rid s item)
lives_item rid s (claim of caller) h = h
lives_item rid s (put of batch caller) h = by_test (is_same rid of) h
  where
    by_test : (b : Bool) → Lives s → Lives (if b then after_put batch s else s)
    by_test true (inl id) = inl id
    by_test true (inr there) = inr (there.0, there.1, put_grows s.objects batch there.0 there.1 there.2)
    by_test false l = l
lives_item rid s (install of id remotes caller) h = by_test (is_same rid of)
  where
    by_test : (b : Bool) → Lives (if b then record { objects = s.objects; id = Some id; remotes = replaced s.remotes remotes } else s)
    by_test true = inl (λ e. not_none id e)
    by_test false = h
lives_item rid s (heard message caller) h = h
lives_item rid s (missed of left caller) h = h
lives_item rid s (refused of why caller) h = h

lives_items : (rid : Rid) (s : Standing) (items : List Item) → Lives s → Lives (after_items rid s items)
lives_items rid s [] h = h
lives_items rid s (item ∷ items) h = lives_items rid (after_item rid s item) items (lives_item rid s item h)

-- a put has an object
abbrev pub IsFilled : Item → Type 0
IsFilled (claim of caller) = Unit {0}
IsFilled (put of batch caller) = 1 ≤ length batch
IsFilled (install of id remotes caller) = Unit {0}
IsFilled (heard message caller) = Unit {0}
IsFilled (missed of left caller) = Unit {0}
IsFilled (refused of why caller) = Unit {0}

filled_from : (keyring : Contents) (before items : List Item) → LegalFrom keyring before items → AllByRecursion IsFilled items
filled_from keyring before [] l = tt
filled_from keyring before (claim of caller ∷ items) l = (tt, filled_from keyring (before ++ claim of caller ∷ []) items l.1)
filled_from keyring before (put of batch caller ∷ items) l = (l.0.0.run.some, filled_from keyring (before ++ put of batch caller ∷ []) items l.1)
filled_from keyring before (install of id remotes caller ∷ items) l = (tt, filled_from keyring (before ++ install of id remotes caller ∷ []) items l.1)
filled_from keyring before (heard message caller ∷ items) l = (tt, filled_from keyring (before ++ heard message caller ∷ []) items l.1)
filled_from keyring before (missed of left caller ∷ items) l = (tt, filled_from keyring (before ++ missed of left caller ∷ []) items l.1)
filled_from keyring before (refused of why caller ∷ items) l = (tt, filled_from keyring (before ++ refused of why caller ∷ []) items l.1)

-- the first object is there
first_there : (object : Object) (objects : List Object) → objects_in (object ∷ objects) (name object.0 object.1) ≡ Some object
first_there object objects =
    ap (λ (b : Bool). cond b (Some object) (objects_in objects (name object.0 object.1))) (equals_itself (name object.0 object.1).0)

put_lives : (s : Standing) (batch : List Object) → 1 ≤ length batch → Lives (after_put batch s)
put_lives s [] some = absurd (omega (arith, some))
put_lives s (object ∷ objects) some = by_found (s.objects (name object.0 object.1)) refl
  where
    by_found : (o : Option Object) → s.objects (name object.0 object.1) ≡ o → Lives (after_put (object ∷ objects) s)
    by_found (Some x) e = inr (name object.0 object.1, x, put_grows s.objects (object ∷ objects) (name object.0 object.1) x e)
    by_found None e =
        inr (name object.0 object.1, object, ap (λ (o : Option Object). option_or o (objects_in (object ∷ objects) (name object.0 object.1))) e ∙ first_there object objects)

-- an entry of a repository makes something of it
made_lives : (rid : Rid) (s : Standing) (item : Item) → IsFilled item → Concerns rid item → Lives (after_item rid s item)
made_lives rid s (claim of caller) f c = absurd c
made_lives rid s (put of batch caller) f c =
    subst (λ (b : Bool). Lives (if b then after_put batch s else s)) (sym (ap (λ (x : Rid). is_same rid x) c ∙ is_itself rid)) (put_lives s batch f)
made_lives rid s (install of id remotes caller) f c =
    subst (λ (b : Bool). Lives (if b then record { objects = s.objects; id = Some id; remotes = replaced s.remotes remotes } else s))
    (sym (ap (λ (x : Rid). is_same rid x) c ∙ is_itself rid)) (inl (λ e. not_none id e))
made_lives rid s (heard message caller) f c = absurd c
made_lives rid s (missed of left caller) f c = absurd c
made_lives rid s (refused of why caller) f c = absurd c

shown_lives : (rid : Rid) (s : Standing) (items : List Item) → AllByRecursion IsFilled items → ShowsRepository rid items → Lives (after_items rid s items)
shown_lives rid s [] f shown = absurd shown
shown_lives rid s (item ∷ items) f (inl now) = lives_items rid (after_item rid s item) items (made_lives rid s item f.0 now)
shown_lives rid s (item ∷ items) f (inr later) = shown_lives rid (after_item rid s item) items f.1 later

-- an entry of another makes nothing of it
pub nothing_made : (rid : Rid) (s : Standing) (item : Item) → (Concerns rid item → ⊥) → after_item rid s item ≡ s
nothing_made rid s (claim of caller) other = refl
nothing_made rid s (put of batch caller) other = by_test (is_same rid of) refl
  where
    by_test : (b : Bool) → is_same rid of ≡ b → (if b then after_put batch s else s) ≡ s
    by_test true e = absurd (other (sym (same_is rid of e)))
    by_test false e = refl
nothing_made rid s (install of id remotes caller) other = by_test (is_same rid of) refl
  where
    by_test : (b : Bool) → is_same rid of ≡ b → (if b then record { objects = s.objects; id = Some id; remotes = replaced s.remotes remotes } else s) ≡ s
    by_test true e = absurd (other (sym (same_is rid of e)))
    by_test false e = refl
nothing_made rid s (heard message caller) other = refl
nothing_made rid s (missed of left caller) other = refl
nothing_made rid s (refused of why caller) other = refl

unshown_nothing : (rid : Rid) (s : Standing) (items : List Item) → (ShowsRepository rid items → ⊥) → after_items rid s items ≡ s
unshown_nothing rid s [] other = refl
unshown_nothing rid s (item ∷ items) other =
    ap (λ (x : Standing). after_items rid x items) (nothing_made rid s item (λ now. other (inl now))) ∙ unshown_nothing rid s items (λ later. other (inr later))

-- an entry is of the repository or not
concerns_or_not : (rid : Rid) (item : Item) → Concerns rid item ⊎ (Concerns rid item → ⊥)
concerns_or_not rid (claim of caller) = inr (λ c. c)
concerns_or_not rid (put of batch caller) = elim (same_or_other of rid) [ inl e ↦ inl e | inr (other, test) ↦ inr other ]
concerns_or_not rid (install of id remotes caller) = elim (same_or_other of rid) [ inl e ↦ inl e | inr (other, test) ↦ inr other ]
concerns_or_not rid (heard message caller) = inr (λ c. c)
concerns_or_not rid (missed of left caller) = inr (λ c. c)
concerns_or_not rid (refused of why caller) = inr (λ c. c)

shown_or_not : (rid : Rid) (items : List Item) → ShowsRepository rid items ⊎ (ShowsRepository rid items → ⊥)
shown_or_not rid [] = inr (λ s. s)
shown_or_not rid (item ∷ items) = elim (concerns_or_not rid item) [
  | inl now ↦ inl (inl now)
  | inr other ↦ later other (shown_or_not rid items)
]
  where
    later : (Concerns rid item → ⊥) → ShowsRepository rid items ⊎ (ShowsRepository rid items → ⊥) → ShowsRepository rid (item ∷ items) ⊎ (ShowsRepository rid (item ∷ items) → ⊥)
    later other (inl shown) = inl (inr shown)
    later other (inr none) = inr (neither other none)
      where
        neither : (Concerns rid item → ⊥) → (ShowsRepository rid items → ⊥) → ShowsRepository rid (item ∷ items) → ⊥
        neither a b (inl now) = a now
        neither a b (inr shown) = b shown

-- nothing lives where nothing stands
bare_dead : (s : Standing) → s.objects ≡ nothing_stands.objects → s.id ≡ None → Lives s → ⊥
bare_dead s objects id (inl some) = some id
bare_dead s objects id (inr there) = not_none there.1 (sym there.2 ∙ ap (λ (m : ObjectMap). m there.0) objects)

-- a repository with nothing in it is in no entry
pub bare_hidden : (keyring : Contents) (o : Option Repository) (r : Repository) (rid : Rid) (items : List Item) → Legal keyring items → o ≡ Some r → StandsKnown o rid items → IsBare r.slice → ShowsRepository rid items → ⊥
bare_hidden keyring o r rid items legal e stands bare shown =
    let h : StandsAs r rid items = subst (λ (x : Option Repository). StandsKnown x rid items) e stands in
    bare_dead (replay rid items) (sym h.objects ∙ bare.0) (sym (ap (λ (x : State). x.id) h.state) ∙ bare.1)
    (shown_lives rid nothing_stands items (filled_from keyring [] items legal) shown)

-- and one that is not known in none
pub unknown_hidden : (keyring : Contents) (o : Option Repository) (rid : Rid) (items : List Item) → Legal keyring items → o ≡ None → StandsKnown o rid items → ShowsRepository rid items → ⊥
unknown_hidden keyring None rid items legal none h shown =
    bare_dead (replay rid items) (ap (λ (s : Standing). s.objects) h.0) (ap (λ (s : Standing). s.id) h.0)
    (shown_lives rid nothing_stands items (filled_from keyring [] items legal) shown)
unknown_hidden keyring (Some r) rid items legal none h shown = cc none

-- one with something in it is in an entry
pub full_shown : (o : Option Repository) (r : Repository) (rid : Rid) (items : List Item) → o ≡ Some r → StandsKnown o rid items → (IsBare r.slice → ⊥)
    → ShowsRepository rid items × (objects_of r.slice ≡ (replay rid items).objects) × (state_of r.slice ≡ replayed_state rid items)
full_shown o r rid items e h full =
    let at : StandsAs r rid items = subst (λ (x : Option Repository). StandsKnown x rid items) e h in
    (by_decision at (shown_or_not rid items), at.objects, at.state)
  where
    by_decision : StandsAs r rid items → ShowsRepository rid items ⊎ (ShowsRepository rid items → ⊥) → ShowsRepository rid items
    by_decision at (inl shown) = shown
    by_decision at (inr none) =
        let nothing = unshown_nothing rid nothing_stands items none in
        absurd (full (at.objects ∙ ap (λ (s : Standing). s.objects) nothing, ap (λ (y : State). y.id) at.state ∙ ap (λ (s : Standing). s.id) nothing))

-- a list of objects without any name is empty
pub none_in : (objects : List Object) → objects_in objects ≡ nothing_stands.objects → objects ≡ []
none_in [] e = refl
none_in (object ∷ objects) e = absurd (not_none object (sym (first_there object objects) ∙ ap (λ (m : ObjectMap). m (name object.0 object.1)) e))

pub in_none : (objects : List Object) → length objects ≡ 0 → objects_in objects ≡ nothing_stands.objects
in_none [] e = refl
in_none (object ∷ objects) e = absurd (omega (arith, e))
