-- What events of one repository and one caller make of a history.
use Rattle.std.proofs.Common.{◌≡◌, ◌||◌, ℕ, Bool, true, false, eqb, List, [], ◌∷◌, ◌++◌, Option, None, Some, inl, inr, refl, sym, ap, subst, ◌∙◌}
use Rattle.std.specs.List.{AllByRecursion}
use Rattle.std.proofs.lemmas.Bool.{eq-eqb}
use Rattle.std.proofs.lemmas.List.{append-nil, append_assoc}
use Rattle.rad_base.specs.declared.names.Rid.{Rid}
use Rattle.rad_base.proofs.Options.{some_is}
use Rattle.keyring.specs.Contents.{Contents}
use Rattle.repo_entries.specs.Items.{Item, claim, heard, install, left_of, missed, put, refused}
use Rattle.repo_entries.specs.declared.entry.Left.{Left}
use Rattle.repo_entries.specs.declared.entry.Left.TheVariants.{Nothing}
use Rattle.legal_history.specs.Cores.{Core, Event, Runs, Steps, claims, doubts, enters, grown, mends, misses, refuses}
use Rattle.legal_history.specs.Durable.{IsDurable, durable_part, reopened}
use Rattle.legal_history.specs.Histories.{Lawful, Legal}
use Rattle.legal_history.specs.Replays.{Standing, after_items, claimant, replay}
use Rattle.legal_history.proofs.Durables.{durable-append, durable_claimed, durable_refused, lawful_durable, legal_more}
use Rattle.legal_history.proofs.GoodStandings.{replay_more}
use Rattle.object_store.specs.Shown.{Concerns}
use Rattle.object_store.proofs.Claiming.{claimant_now, claimant_other, real_claims}
use Rattle.object_store.proofs.Keys.{IsNoClaim, after-append, claimant_stays, replay_claim, same_or_other}
use Rattle.object_store.proofs.Showing.{nothing_made}
use Rattle.store_keep.specs.Kept.{may_call}
use Rattle.store_keep.specs.Made.{IsDoubtKnown, IsLeftBy, IsQuiet, no_claims}
use Rattle.store_keep.proofs.Claimless.{no_claims-append, quiet_more}

-- the event is of the repository, and a claim is this caller's
abbrev pub IsOf : Rid → ℕ → Event → Type 0
IsOf rid caller (claims of by) = (of ≡ rid) × (by ≡ caller)
IsOf rid caller (enters item) = Concerns rid item
IsOf rid caller (misses of by) = Unit {0}
IsOf rid caller (doubts of by item) = (of ≡ Some rid) × Concerns rid item
IsOf rid caller (refuses of why by) = Unit {0}
IsOf rid caller mends = Unit {0}

-- what an event adds beside claims
abbrev pub adds_of : Event → List Item
adds_of (claims of by) = []
adds_of (enters item) = item ∷ []
adds_of (misses of by) = missed of Nothing by ∷ []
adds_of (doubts of by item) = missed of (left_of item) by ∷ []
adds_of (refuses of why by) = refused of why by ∷ []
adds_of mends = []

abbrev pub added_by : List Event → List Item
added_by [] = []
added_by (event ∷ events) = adds_of event ++ added_by events

-- the history grew by these beside claims, and what was known of it is known again
pub record Goes (keyring : Contents) (rid : Rid) (caller : ℕ) (old new : Core) (added : List Item) : Type 0 where
  pub entries : no_claims new.items ≡ no_claims old.items ++ added
  pub legal : Legal keyring new.items
  pub doubt : IsDoubtKnown keyring old → IsDoubtKnown keyring new
  pub replays : (q : Rid) → replay q new.items ≡ after_items q (replay q old.items) added
  pub others : (q : Rid) → (q ≡ rid → ⊥) → replay q new.items ≡ replay q old.items
  pub callable : (q : Rid) → may_call caller (claimant q new.items) ≡ may_call caller (claimant q old.items)

not_none : {X : Type 0} (x : X) → None ≡ Some x → ⊥
not_none x e = cc e

-- nothing is in doubt
no_doubt : (keyring : Contents) (items : List Item) → IsDoubtKnown keyring (record { items = items; doubt = None })
no_doubt keyring items = record { named = λ item is. absurd (not_none item is); lawful = λ item is. absurd (not_none item is) }

-- a quiet entry leaves what is left in doubt
left_more : (items : List Item) (one item : Item) → IsQuiet one → IsLeftBy items item → IsLeftBy (items ++ one ∷ []) item
left_more items one item quiet h = record {
  rid = h.rid;
  caller = h.caller;
  concerns = h.concerns;
  before = h.before;
  behind = h.behind ++ one ∷ [];
  all = ap (λ (l : List Item). l ++ one ∷ []) h.all ∙ append_assoc h.before (missed (Some h.rid) (left_of item) h.caller ∷ h.behind) (one ∷ []);
  quiet = quiet_more h.behind one h.quiet quiet;
}

doubt_more : (keyring : Contents) (core : Core) (one : Item) → IsQuiet one → durable_part (core.items ++ one ∷ []) ≡ durable_part core.items → IsDoubtKnown keyring core
    → IsDoubtKnown keyring (grown core one core.doubt)
doubt_more keyring core one quiet same h = record {
  named = λ item is. left_more core.items one item quiet (h.named item is);
  lawful = λ item is. subst (λ (l : List Item). Lawful keyring l (reopened item)) (sym same) (h.lawful item is);
}

-- one entry more that is no claim
goes_one : (keyring : Contents) (rid : Rid) (caller : ℕ) (old : Core) (item : Item) (doubt : Option Item) → IsNoClaim item → no_claims (item ∷ []) ≡ item ∷ [] → Legal keyring old.items
    → Lawful keyring old.items item → ((q : Rid) → Concerns q item → q ≡ rid) → (IsDoubtKnown keyring old → IsDoubtKnown keyring (grown old item doubt))
    → Goes keyring rid caller old (grown old item doubt) (item ∷ [])
goes_one keyring rid caller old item doubt free is legal lawful concerns known = record {
  entries = no_claims-append old.items (item ∷ []) ∙ ap (λ (l : List Item). no_claims old.items ++ l) is;
  legal = legal_more keyring [] old.items item legal lawful;
  doubt = known;
  replays = λ q. replay_more q old.items item;
  others = λ q other. replay_more q old.items item ∙ nothing_made q (replay q old.items) item (λ c. other (concerns q c));
  callable = λ q. ap (λ (n : ℕ). may_call caller n) (claimant_stays q old.items item free);
}

durable_missed : (before : List Item) (of : Option Rid) (left : Left) (caller : ℕ) → durable_part (before ++ missed of left caller ∷ []) ≡ durable_part before
durable_missed before of left caller = durable-append before (missed of left caller ∷ []) ∙ append-nil (durable_part before)

-- a put or an install of a repository
durable_of : (rid : Rid) (item : Item) → Concerns rid item → IsDurable item
durable_of rid (claim q c) h = absurd h
durable_of rid (put q b c) h = tt
durable_of rid (install q i r c) h = tt
durable_of rid (heard m c) h = absurd h
durable_of rid (missed q l c) h = absurd h
durable_of rid (refused q w c) h = absurd h

no_claim : (rid : Rid) (item : Item) → Concerns rid item → IsNoClaim item × (no_claims (item ∷ []) ≡ item ∷ [])
no_claim rid (claim q c) h = absurd h
no_claim rid (put q b c) h = (tt, refl)
no_claim rid (install q i r c) h = (tt, refl)
no_claim rid (heard m c) h = absurd h
no_claim rid (missed q l c) h = absurd h
no_claim rid (refused q w c) h = absurd h

only_of : (rid : Rid) (item : Item) → Concerns rid item → (q : Rid) → Concerns q item → q ≡ rid
only_of rid (claim p c) h q k = absurd h
only_of rid (put p b c) h q k = sym k ∙ h
only_of rid (install p i r c) h q k = sym k ∙ h
only_of rid (heard m c) h q k = absurd h
only_of rid (missed p l c) h q k = absurd h
only_of rid (refused p w c) h q k = absurd h

or-right : (a b : Bool) → b ≡ true → (a || b) ≡ true
or-right true b e = refl
or-right false b e = e

-- a claim by the caller
open_claimed : (keyring : Contents) (rid : Rid) (caller : ℕ) (items : List Item) → Legal keyring items → Lawful keyring items (claim rid caller) → (q : Rid)
    → may_call caller (claimant q (items ++ claim rid caller ∷ [])) ≡ may_call caller (claimant q items)
open_claimed keyring rid caller items legal lawful q = elim (same_or_other q rid) [
  | inl e ↦ ap (λ (x : Rid). may_call caller (claimant x (items ++ claim rid caller ∷ []))) e ∙ here ∙ ap (λ (x : Rid). may_call caller (claimant x items)) (sym e)
  | inr (other, test) ↦ ap (λ (n : ℕ). may_call caller n) (claimant_other q rid items caller test)
]
  where
    itself : (n : ℕ) → (eqb n 0 || eqb n n) ≡ true
    itself n = or-right (eqb n 0) (eqb n n) (eq-eqb n n refl)

    here : may_call caller (claimant rid (items ++ claim rid caller ∷ [])) ≡ may_call caller (claimant rid items)
    here =
        ap (λ (n : ℕ). may_call caller n) (claimant_now rid items caller (real_claims keyring [] items legal) lawful.1) ∙ itself caller
        ∙ sym (ap (λ (n : ℕ). may_call caller n) lawful.1)

goes_claimed : (keyring : Contents) (rid : Rid) (caller : ℕ) (old : Core) → Legal keyring old.items → Lawful keyring old.items (claim rid caller)
    → Goes keyring rid caller old (grown old (claim rid caller) old.doubt) []
goes_claimed keyring rid caller old legal lawful = record {
  entries = no_claims-append old.items (claim rid caller ∷ []);
  legal = legal_more keyring [] old.items (claim rid caller) legal lawful;
  doubt = doubt_more keyring old (claim rid caller) tt (durable_claimed old.items rid caller);
  replays = λ q. replay_claim q rid old.items caller;
  others = λ q other. replay_claim q rid old.items caller;
  callable = open_claimed keyring rid caller old.items legal lawful;
}

-- one entry that is left in doubt
doubt_left : (keyring : Contents) (rid : Rid) (caller : ℕ) (old : Core) (item : Item) → Concerns rid item → Lawful keyring old.items item
    → IsDoubtKnown keyring (grown old (missed (Some rid) (left_of item) caller) (Some item))
doubt_left keyring rid caller old item concerns lawful = record {
  named = λ other is. subst (λ (x : Item). IsLeftBy (old.items ++ missed (Some rid) (left_of item) caller ∷ []) x) (some_is item other is) (record {
    rid = rid;
    caller = caller;
    concerns = concerns;
    before = old.items;
    behind = [];
    all = refl;
    quiet = tt;
  });
  lawful = λ other is.
      subst (λ (x : Item). Lawful keyring (durable_part (old.items ++ missed (Some rid) (left_of item) caller ∷ [])) (reopened x)) (some_is item other is)
      (subst (λ (l : List Item). Lawful keyring l (reopened item)) (sym (durable_missed old.items (Some rid) (left_of item) caller))
      (lawful_durable keyring old.items item (durable_of rid item concerns) lawful));
}

-- an event
step_goes : (keyring : Contents) (rid : Rid) (caller : ℕ) (old : Core) (event : Event) (new : Core) → IsOf rid caller event → Legal keyring old.items → Steps keyring old event new
    → Goes keyring rid caller old new (adds_of event)
step_goes keyring rid caller old (claims of by) new is legal step =
    let lawful : Lawful keyring old.items (claim rid caller) =
    subst (λ (x : Rid). Lawful keyring old.items (claim x caller)) is.0 (subst (λ (n : ℕ). Lawful keyring old.items (claim of n)) is.1 step.0) in
    let at : new ≡ grown old (claim rid caller) old.doubt =
    step.1 ∙ ap (λ (x : Rid). grown old (claim x by) old.doubt) is.0 ∙ ap (λ (n : ℕ). grown old (claim rid n) old.doubt) is.1 in
    subst (λ (c : Core). Goes keyring rid caller old c []) (sym at) (goes_claimed keyring rid caller old legal lawful)
step_goes keyring rid caller old (enters item) new is legal step =
    let free = no_claim rid item is in
    subst (λ (c : Core). Goes keyring rid caller old c (item ∷ [])) (sym step.3)
    (goes_one keyring rid caller old item None free.0 free.1 legal step.2 (only_of rid item is) (λ known. no_doubt keyring (old.items ++ item ∷ [])))
step_goes keyring rid caller old (misses of by) new is legal step =
    subst (λ (c : Core). Goes keyring rid caller old c (missed of Nothing by ∷ [])) (sym step)
    (goes_one keyring rid caller old (missed of Nothing by) old.doubt tt refl legal tt (λ q c. absurd c)
    (doubt_more keyring old (missed of Nothing by) refl (durable_missed old.items of Nothing by)))
step_goes keyring rid caller old (doubts of by item) new is legal step =
    let named = subst (λ (q : Option Rid). IsDoubtKnown keyring (grown old (missed q (left_of item) by) (Some item))) (sym is.0)
    (doubt_left keyring rid by old item is.1 step.2) in
    subst (λ (c : Core). Goes keyring rid caller old c (missed of (left_of item) by ∷ [])) (sym step.3)
    (goes_one keyring rid caller old (missed of (left_of item) by) (Some item) tt refl legal tt (λ q c. absurd c) (λ known. named))
step_goes keyring rid caller old (refuses of why by) new is legal step =
    subst (λ (c : Core). Goes keyring rid caller old c (refused of why by ∷ [])) (sym step.1)
    (goes_one keyring rid caller old (refused of why by) old.doubt tt refl legal step.0 (λ q c. absurd c)
    (doubt_more keyring old (refused of why by) tt (durable_refused old.items of why by)))
step_goes keyring rid caller old mends new is legal step =
    subst (λ (c : Core). Goes keyring rid caller old c []) (sym step) (record {
      entries = sym (append-nil (no_claims old.items));
      legal = legal;
      doubt = λ known. no_doubt keyring old.items;
      replays = λ q. refl;
      others = λ q other. refl;
      callable = λ q. refl;
    })

-- nothing
pub goes_none : (keyring : Contents) (rid : Rid) (caller : ℕ) (core : Core) → Legal keyring core.items → Goes keyring rid caller core core []
goes_none keyring rid caller core legal = record {
  entries = sym (append-nil (no_claims core.items));
  legal = legal;
  doubt = λ known. known;
  replays = λ q. refl;
  others = λ q other. refl;
  callable = λ q. refl;
}

-- one behind another
goes_along : (keyring : Contents) (rid : Rid) (caller : ℕ) (a b c : Core) (xs ys : List Item) → Goes keyring rid caller a b xs → Goes keyring rid caller b c ys
    → Goes keyring rid caller a c (xs ++ ys)
goes_along keyring rid caller a b c xs ys g h = record {
  entries = h.entries ∙ ap (λ (l : List Item). l ++ ys) g.entries ∙ append_assoc (no_claims a.items) xs ys;
  legal = h.legal;
  doubt = λ known. h.doubt (g.doubt known);
  replays = λ q. h.replays q ∙ ap (λ (s : Standing). after_items q s ys) (g.replays q) ∙ sym (after-append q (replay q a.items) xs ys);
  others = λ q other. h.others q other ∙ g.others q other;
  callable = λ q. h.callable q ∙ g.callable q;
}

-- events in order
pub runs_go : (keyring : Contents) (rid : Rid) (caller : ℕ) (old : Core) (events : List Event) (new : Core) → AllByRecursion (IsOf rid caller) events → Legal keyring old.items
    → Runs keyring old events new → Goes keyring rid caller old new (added_by events)
runs_go keyring rid caller old [] new is legal run = subst (λ (c : Core). Goes keyring rid caller old c []) (sym run) (goes_none keyring rid caller old legal)
runs_go keyring rid caller old (event ∷ events) new is legal run =
    let first = step_goes keyring rid caller old event run.0 is.0 legal run.1 in
    goes_along keyring rid caller old run.0 new (adds_of event) (added_by events) first
    (runs_go keyring rid caller run.0 events new is.1 first.legal run.2)
