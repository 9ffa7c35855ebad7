-- The durable part of a history.
use Rattle.std.proofs.Common.{◌≡◌, ℕ, List, [], ◌∷◌, ◌++◌, refl, sym, ap, subst, ◌∙◌, append_assoc}
use Rattle.std.proofs.lemmas.List.{append-nil}
use Rattle.rad_base.specs.declared.names.Rid.{Rid}
use Rattle.gossip_wire.specs.declared.message.Message.{Message}
use Rattle.keyring.specs.Contents.{Contents}
use Rattle.announcements.specs.Tables.{Surpasses}
use Rattle.repo_entries.specs.Items.{Item, claim, heard, install, missed, put, refused}
use Rattle.repo_entries.specs.declared.whole.Whole.{Whole}
use Rattle.repo_slice.specs.Verdicts.{Allows}
use Rattle.legal_history.specs.Durable.{IsDurable, durable_part, reopened}
use Rattle.legal_history.specs.Histories.{Lawful, Legal, LegalFrom}
use Rattle.legal_history.specs.Replays.{Standing, after_item, after_items, claimant, messages_in, nothing_stands, replay, state_in}

-- the durable parts of two histories, one behind the other
pub durable-append : (these those : List Item) → durable_part (these ++ those) ≡ durable_part these ++ durable_part those
durable-append [] those = refl
durable-append (claim rid caller ∷ items) those = durable-append items those
durable-append (put rid batch caller ∷ items) those = ap (λ (l : List Item). put rid batch 0 ∷ l) (durable-append items those)
durable-append (install rid id remotes caller ∷ items) those = ap (λ (l : List Item). install rid id remotes 0 ∷ l) (durable-append items those)
durable-append (heard message caller ∷ items) those = ap (λ (l : List Item). heard message 0 ∷ l) (durable-append items those)
durable-append (missed of left caller ∷ items) those = durable-append items those
durable-append (refused rid why caller ∷ items) those = durable-append items those

-- it makes the same of each repository
durable_after : (rid : Rid) (s : Standing) (items : List Item) → after_items rid s (durable_part items) ≡ after_items rid s items
durable_after rid s [] = refl
durable_after rid s (claim of caller ∷ items) = durable_after rid s items
durable_after rid s (put of batch caller ∷ items) = durable_after rid (after_item rid s (put of batch 0)) items
durable_after rid s (install of id remotes caller ∷ items) = durable_after rid (after_item rid s (install of id remotes 0)) items
durable_after rid s (heard message caller ∷ items) = durable_after rid s items
durable_after rid s (missed of left caller ∷ items) = durable_after rid s items
durable_after rid s (refused of why caller ∷ items) = durable_after rid s items

pub durable_replays : (rid : Rid) (items : List Item) → replay rid (durable_part items) ≡ replay rid items
durable_replays rid items = durable_after rid nothing_stands items

-- the same was heard in it
pub durable_heard : (items : List Item) → messages_in (durable_part items) ≡ messages_in items
durable_heard [] = refl
durable_heard (claim rid caller ∷ items) = durable_heard items
durable_heard (put rid batch caller ∷ items) = durable_heard items
durable_heard (install rid id remotes caller ∷ items) = durable_heard items
durable_heard (heard message caller ∷ items) = ap (λ (l : List Message). message ∷ l) (durable_heard items)
durable_heard (missed of left caller ∷ items) = durable_heard items
durable_heard (refused rid why caller ∷ items) = durable_heard items

-- what was heard in two histories, one behind the other
pub heard-append : (these those : List Item) → messages_in (these ++ those) ≡ messages_in these ++ messages_in those
heard-append [] those = refl
heard-append (claim rid caller ∷ items) those = heard-append items those
heard-append (put rid batch caller ∷ items) those = heard-append items those
heard-append (install rid id remotes caller ∷ items) those = heard-append items those
heard-append (heard message caller ∷ items) those = ap (λ (l : List Message). message ∷ l) (heard-append items those)
heard-append (missed of left caller ∷ items) those = heard-append items those
heard-append (refused rid why caller ∷ items) those = heard-append items those

-- nobody claimed anything in it
pub durable_unclaimed : (rid : Rid) (items : List Item) → claimant rid (durable_part items) ≡ 0
durable_unclaimed rid [] = refl
durable_unclaimed rid (claim of caller ∷ items) = durable_unclaimed rid items
durable_unclaimed rid (put of batch caller ∷ items) = durable_unclaimed rid items
durable_unclaimed rid (install of id remotes caller ∷ items) = durable_unclaimed rid items
durable_unclaimed rid (heard message caller ∷ items) = durable_unclaimed rid items
durable_unclaimed rid (missed of left caller ∷ items) = durable_unclaimed rid items
durable_unclaimed rid (refused of why caller ∷ items) = durable_unclaimed rid items

-- a durable entry that is lawful is so after the durable part, with the caller 0
pub lawful_durable : (keyring : Contents) (before : List Item) (item : Item) → IsDurable item → Lawful keyring before item
    → Lawful keyring (durable_part before) (reopened item)
lawful_durable keyring before (claim rid caller) d l = absurd d
lawful_durable keyring before (put rid batch caller) d l = (l.0, sym (durable_unclaimed rid before))
lawful_durable keyring before (install rid id remotes caller) d l = (
  record {
    rising = l.0.rising;
    allowed = subst (λ (s : Standing). Allows s.objects keyring (state_in rid s) id remotes) (sym (durable_replays rid before)) l.0.allowed;
  },
  sym (durable_unclaimed rid before),
)
lawful_durable keyring before (heard message caller) d l = record {
  is = l.is;
  accepted = l.accepted;
  greater = subst (λ (messages : List Message). Surpasses messages message) (sym (durable_heard before)) l.greater;
}
lawful_durable keyring before (missed of left caller) d l = absurd d
lawful_durable keyring before (refused rid why caller) d l = absurd d

-- a durable entry at the end stands at the end of the durable part
pub durable_more : (before : List Item) (item : Item) → IsDurable item → durable_part (before ++ item ∷ []) ≡ durable_part before ++ reopened item ∷ []
durable_more before (claim rid caller) d = absurd d
durable_more before (put rid batch caller) d = durable-append before (put rid batch caller ∷ [])
durable_more before (install rid id remotes caller) d = durable-append before (install rid id remotes caller ∷ [])
durable_more before (heard message caller) d = durable-append before (heard message caller ∷ [])
durable_more before (missed of left caller) d = absurd d
durable_more before (refused rid why caller) d = absurd d

-- any other leaves it
pub durable_claimed : (before : List Item) (rid : Rid) (caller : ℕ) → durable_part (before ++ claim rid caller ∷ []) ≡ durable_part before
durable_claimed before rid caller = durable-append before (claim rid caller ∷ []) ∙ append-nil (durable_part before)

pub durable_refused : (before : List Item) (rid : Rid) (why : Whole) (caller : ℕ) → durable_part (before ++ refused rid why caller ∷ []) ≡ durable_part before
durable_refused before rid why caller = durable-append before (refused rid why caller ∷ []) ∙ append-nil (durable_part before)

-- a lawful entry behind legal ones
pub legal_more : (keyring : Contents) (before items : List Item) (item : Item) → LegalFrom keyring before items → Lawful keyring (before ++ items) item
    → LegalFrom keyring before (items ++ item ∷ [])
legal_more keyring before [] item legal lawful = (subst (λ (l : List Item). Lawful keyring l item) (append-nil before) lawful, tt)
legal_more keyring before (first ∷ items) item legal lawful = (
  legal.0,
  legal_more keyring (before ++ first ∷ []) items item legal.1 (subst (λ (l : List Item). Lawful keyring l item) (sym (append_assoc before (first ∷ []) items)) lawful),
)

-- the durable part of what is legal is legal
durable_from : (keyring : Contents) (before items : List Item) → LegalFrom keyring before items → LegalFrom keyring (durable_part before) (durable_part items)
durable_from keyring before [] legal = tt
durable_from keyring before (claim rid caller ∷ items) legal =
    subst (λ (l : List Item). LegalFrom keyring l (durable_part items)) (durable_claimed before rid caller) (durable_from keyring (before ++ claim rid caller ∷ []) items legal.1)
durable_from keyring before (put rid batch caller ∷ items) legal = (
  lawful_durable keyring before (put rid batch caller) tt legal.0,
  subst (λ (l : List Item). LegalFrom keyring l (durable_part items)) (durable_more before (put rid batch caller) tt)
      (durable_from keyring (before ++ put rid batch caller ∷ []) items legal.1),
)
durable_from keyring before (install rid id remotes caller ∷ items) legal = (
  lawful_durable keyring before (install rid id remotes caller) tt legal.0,
  subst (λ (l : List Item). LegalFrom keyring l (durable_part items)) (durable_more before (install rid id remotes caller) tt)
      (durable_from keyring (before ++ install rid id remotes caller ∷ []) items legal.1),
)
durable_from keyring before (heard message caller ∷ items) legal = (
  lawful_durable keyring before (heard message caller) tt legal.0,
  subst (λ (l : List Item). LegalFrom keyring l (durable_part items)) (durable_more before (heard message caller) tt)
      (durable_from keyring (before ++ heard message caller ∷ []) items legal.1),
)
durable_from keyring before (missed of left caller ∷ items) legal =
    subst (λ (l : List Item). LegalFrom keyring l (durable_part items)) (durable-append before (missed of left caller ∷ []) ∙ append-nil (durable_part before))
    (durable_from keyring (before ++ missed of left caller ∷ []) items legal.1)
durable_from keyring before (refused rid why caller ∷ items) legal =
    subst (λ (l : List Item). LegalFrom keyring l (durable_part items)) (durable_refused before rid why caller)
    (durable_from keyring (before ++ refused rid why caller ∷ []) items legal.1)

pub durable_is_legal : (keyring : Contents) (items : List Item) → Legal keyring items → Legal keyring (durable_part items)
durable_is_legal keyring items legal = durable_from keyring [] items legal
