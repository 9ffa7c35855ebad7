-- What events make of a history and of what is in doubt.
use Rattle.std.proofs.Common.{◌≡◌, ℕ, List, [], ◌∷◌, ◌++◌, Option, None, Some, inl, inr, refl, sym, ap, subst, ◌∙◌}
use Rattle.std.proofs.lemmas.List.{append-nil}
use Rattle.rad_base.specs.declared.names.Rid.{Rid}
use Rattle.rad_base.proofs.Options.{some_is}
use Rattle.keyring.specs.Contents.{Contents}
use Rattle.repo_entries.specs.Items.{Item, claim, heard, install, left_of, missed, put, refused}
use Rattle.repo_entries.specs.declared.entry.Left.{Left}
use Rattle.repo_entries.specs.declared.entry.Left.TheVariants as lefts
use Rattle.legal_history.specs.Cores.{Core, Event, MayReopenAs, Runs, Steps, claims, doubts, enters, grown, mends, misses, noted, noted_by, refuses}
use Rattle.legal_history.specs.Durable.{IsDurable, durable_part, reopened}
use Rattle.legal_history.specs.Histories.{Lawful, Legal}
use Rattle.legal_history.proofs.Durables.{durable-append, durable_claimed, durable_is_legal, durable_refused, lawful_durable, legal_more}

-- the history is legal, and what is in doubt is lawful behind its durable part
pub record IsSound (keyring : Contents) (core : Core) : Type 0 where
  pub legal : Legal keyring core.items
  pub doubt : (item : Item) → core.doubt ≡ Some item → Lawful keyring (durable_part core.items) (reopened item)

not_none : {X : Type 0} (x : X) → None ≡ Some x → ⊥
not_none x e = cc e

-- an entry that is not durable
grown_beside : (keyring : Contents) (core : Core) (item : Item) → IsSound keyring core → Lawful keyring core.items item
    → durable_part (core.items ++ item ∷ []) ≡ durable_part core.items → IsSound keyring (grown core item core.doubt)
grown_beside keyring core item s lawful same = record {
  legal = legal_more keyring [] core.items item s.legal lawful;
  doubt = λ other is. subst (λ (l : List Item). Lawful keyring l (reopened other)) (sym same) (s.doubt other is);
}

durable_missed : (before : List Item) (of : Option Rid) (left : Left) (caller : ℕ) → durable_part (before ++ missed of left caller ∷ []) ≡ durable_part before
durable_missed before of left caller = durable-append before (missed of left caller ∷ []) ∙ append-nil (durable_part before)

-- an event keeps a core sound
steps_sound : (keyring : Contents) (old : Core) (event : Event) (new : Core) → IsSound keyring old → Steps keyring old event new → IsSound keyring new
steps_sound keyring old (claims rid caller) new s step =
    subst (IsSound keyring) (sym step.1) (grown_beside keyring old (claim rid caller) s step.0 (durable_claimed old.items rid caller))
steps_sound keyring old (enters item) new s step =
    subst (IsSound keyring) (sym step.3) (record { legal = legal_more keyring [] old.items item s.legal step.2; doubt = λ other is. absurd (not_none other is) })
steps_sound keyring old (misses of caller) new s step =
    subst (IsSound keyring) (sym step) (grown_beside keyring old (missed of lefts.Nothing caller) s tt (durable_missed old.items of lefts.Nothing caller))
steps_sound keyring old (doubts of caller item) new s step =
    let same = durable_missed old.items of (left_of item) caller in
    subst (IsSound keyring) (sym step.3) (record {
      legal = legal_more keyring [] old.items (missed of (left_of item) caller) s.legal tt;
      doubt = λ other is.
          subst (λ (i : Item). Lawful keyring (durable_part (old.items ++ missed of (left_of item) caller ∷ [])) (reopened i)) (some_is item other is)
          (subst (λ (l : List Item). Lawful keyring l (reopened item)) (sym same) (lawful_durable keyring old.items item step.1 step.2));
    })
steps_sound keyring old (refuses rid why caller) new s step =
    subst (IsSound keyring) (sym step.1) (grown_beside keyring old (refused rid why caller) s step.0 (durable_refused old.items rid why caller))
steps_sound keyring old mends new s step =
    subst (IsSound keyring) (sym step) (record { legal = s.legal; doubt = λ other is. absurd (not_none other is) })

-- so do events in order
runs_sound : (keyring : Contents) (old : Core) (events : List Event) (new : Core) → IsSound keyring old → Runs keyring old events new → IsSound keyring new
runs_sound keyring old [] new s run = subst (IsSound keyring) (sym run) s
runs_sound keyring old (event ∷ events) new s run = runs_sound keyring run.0 events new (steps_sound keyring old event run.0 s run.1) run.2

started : (keyring : Contents) (first : List Item) → Legal keyring first → IsSound keyring (record { items = first; doubt = None })
started keyring first legal = record { legal = legal; doubt = λ other is. absurd (not_none other is) }

-- the history that events leave is legal
pub events_legal : (keyring : Contents) (first : List Item) (events : List Event) (core : Core) → Legal keyring first
    → Runs keyring (record { items = first; doubt = None }) events core → Legal keyring core.items
events_legal keyring first events core legal run =
    (runs_sound keyring (record { items = first; doubt = None }) events core (started keyring first legal) run).legal

-- what a stop may leave of a sound core is legal
sound_reopened : (keyring : Contents) (core : Core) (items : List Item) → IsSound keyring core → MayReopenAs core items → Legal keyring items
sound_reopened keyring core items s (inl same) = subst (Legal keyring) (sym same) (durable_is_legal keyring core.items s.legal)
sound_reopened keyring core items s (inr doubted) =
    subst (Legal keyring) (sym doubted.2)
    (legal_more keyring [] (durable_part core.items) (reopened doubted.0) (durable_is_legal keyring core.items s.legal) (s.doubt doubted.0 doubted.1))

pub events_reopened : (keyring : Contents) (first : List Item) (events : List Event) (core : Core) (items : List Item) → Legal keyring first
    → Runs keyring (record { items = first; doubt = None }) events core → MayReopenAs core items → Legal keyring items
events_reopened keyring first events core items legal run may =
    sound_reopened keyring core items (runs_sound keyring (record { items = first; doubt = None }) events core (started keyring first legal) run) may

-- ---- what is in doubt has its name

-- entries behind entries
noted-append : (left : Left) (these those : List Item) → noted_by left (these ++ those) ≡ noted_by (noted_by left these) those
noted-append left [] those = refl
noted-append left (item ∷ items) those = noted-append (noted left item) items those

-- a call that left a durable entry in doubt
noted_durable : (left : Left) (of : Option Rid) (caller : ℕ) (item : Item) → IsDurable item → noted left (missed of (left_of item) caller) ≡ left_of item
noted_durable left of caller (claim rid c) d = absurd d
noted_durable left of caller (put rid batch c) d = refl
noted_durable left of caller (install rid id remotes c) d = refl
noted_durable left of caller (heard message c) d = refl
noted_durable left of caller (missed q l c) d = absurd d
noted_durable left of caller (refused rid why c) d = absurd d

abbrev IsNoted : Core → Type 0
IsNoted core = (item : Item) → core.doubt ≡ Some item → noted_by lefts.Nothing core.items ≡ left_of item

-- an event keeps it so
steps_noted : (keyring : Contents) (old : Core) (event : Event) (new : Core) → IsNoted old → Steps keyring old event new → IsNoted new
steps_noted keyring old (claims rid caller) new n step =
    subst IsNoted (sym step.1) (λ item is. noted-append lefts.Nothing old.items (claim rid caller ∷ []) ∙ n item is)
steps_noted keyring old (enters item) new n step = subst IsNoted (sym step.3) (λ other is. absurd (not_none other is))
steps_noted keyring old (misses of caller) new n step =
    subst IsNoted (sym step) (λ item is. noted-append lefts.Nothing old.items (missed of lefts.Nothing caller ∷ []) ∙ n item is)
steps_noted keyring old (doubts of caller item) new n step = subst IsNoted (sym step.3) (λ other is.
    noted-append lefts.Nothing old.items (missed of (left_of item) caller ∷ []) ∙ noted_durable (noted_by lefts.Nothing old.items) of caller item step.1
    ∙ ap left_of (some_is item other is))
steps_noted keyring old (refuses rid why caller) new n step =
    subst IsNoted (sym step.1) (λ item is. noted-append lefts.Nothing old.items (refused rid why caller ∷ []) ∙ n item is)
steps_noted keyring old mends new n step = subst IsNoted (sym step) (λ other is. absurd (not_none other is))

runs_noted : (keyring : Contents) (old : Core) (events : List Event) (new : Core) → IsNoted old → Runs keyring old events new → IsNoted new
runs_noted keyring old [] new n run = subst IsNoted (sym run) n
runs_noted keyring old (event ∷ events) new n run = runs_noted keyring run.0 events new (steps_noted keyring old event run.0 n run.1) run.2

pub doubt_is_noted : (keyring : Contents) (first : List Item) (events : List Event) (core : Core) (item : Item)
    → Runs keyring (record { items = first; doubt = None }) events core → core.doubt ≡ Some item → noted_by lefts.Nothing core.items ≡ left_of item
doubt_is_noted keyring first events core item run =
    runs_noted keyring (record { items = first; doubt = None }) events core (λ other is. absurd (not_none other is)) run item
