-- What opening a store finds.
use Rattle.std.proofs.Common.{◌≡◌, ℕ, List, [], ◌∷◌, Option, None, Some, Ok, Err, inr, refl, subst, ◌∙◌}
use Rattle.std.specs.Prelude.{IfSome}
use Rattle.std.specs.BTreeMap.{get}
use Rattle.std.specs.List.{AllByRecursion}
use Rattle.rad_base.specs.Order.{rid_cmp}
use Rattle.rad_base.specs.declared.names.Rid.{Rid}
use Rattle.keyring.specs.Contents.{Contents}
use Rattle.ref_journal.specs.Holds.{Holds}
use Rattle.ref_journal.specs.Images.{IsJournal}
use Rattle.ref_journal.specs.declared.journal.Journal.{Journal}
use Rattle.repo_entries.specs.Items.{Item, claim, heard, install, missed, put, refused}
use Rattle.entry_bodies.specs.Bodies.{HasBody}
use Rattle.legal_history.specs.Replays.{claimant}
use Rattle.object_store.specs.Held.{IsUnclaimed}
use Rattle.object_store.specs.Opened.{Explains, IsOpenedStore, OpensAs}
use Rattle.object_store.specs.Opens.{IsReading}
use Rattle.object_store.specs.declared.faults.Why.TheVariants.{Damaged, NotLegal}
use Rattle.object_store.specs.declared.replayed.ReadFault.TheVariants as read
use Rattle.object_store.specs.declared.replayed.Replayed.{Replayed}
use Rattle.object_store.specs.declared.store.Store.{Store}
use Rattle.object_store.proofs.Standing.{claimant_told}

-- what the journal told when it opened
abbrev pub Told : {D : Type 0} → (D → Option (List ℕ)) → (D → List ℕ → Type 0) → Journal D → Option (List ℕ) → Type 0
Told reads images journal known = IfSome known (λ bytes. (bodies : List (List ℕ)) × IsJournal bodies journal.end bytes × Holds reads images journal bodies None)

-- the store of what was read
abbrev pub store_of : {D : Type 0} → Journal D → Contents → Replayed → Store D
store_of journal keyring r = record { journal = journal; keyring = keyring; repositories = r.repositories; table = r.table; history = r.history }

-- all stands
pub opens_ok : {D : Type 0} (reads : D → Option (List ℕ)) (images : D → List ℕ → Type 0) (old new : Journal D) (keyring : Contents) (r : Replayed)
    → IsReading reads images old keyring (Ok r) → OpensAs keyring (store_of new keyring r)
opens_ok reads images old new keyring r (items, bodies, replayed, only) =
    (refl, (items, record { entries = replayed.entries; each = replayed.each; table = replayed.table; legal = replayed.legal }))

-- nobody claimed anything in entries that were read
unclaimed : (rid : Rid) (items : List Item) → AllByRecursion HasBody items → claimant rid items ≡ 0
unclaimed rid [] h = refl
unclaimed rid (claim q c ∷ items) h = absurd h.0
unclaimed rid (put q b c ∷ items) h = unclaimed rid items h.1
unclaimed rid (install q i r c ∷ items) h = unclaimed rid items h.1
unclaimed rid (heard m c ∷ items) h = unclaimed rid items h.1
unclaimed rid (missed q l c ∷ items) h = absurd h.0
unclaimed rid (refused q w c ∷ items) h = absurd h.0

pub opens_unclaimed : {D : Type 0} (reads : D → Option (List ℕ)) (images : D → List ℕ → Type 0) (old new : Journal D) (keyring : Contents) (r : Replayed)
    → IsReading reads images old keyring (Ok r) → IsUnclaimed (store_of new keyring r)
opens_unclaimed reads images old new keyring r (items, bodies, replayed, only) rid =
    claimant_told (get rid_cmp r.repositories rid) rid items (replayed.each rid) ∙ unclaimed rid items bodies

pub opened_ok : {D : Type 0} (reads : D → Option (List ℕ)) (images : D → List ℕ → Type 0) (old new : Journal D) (keyring : Contents) (known : Option (List ℕ)) (r : Replayed)
    → Told reads images old known → ((bodies : List (List ℕ)) → Holds reads images old bodies None → Holds reads images new bodies None)
    → IsReading reads images old keyring (Ok r) → IfSome known (λ bytes. IsOpenedStore reads images keyring bytes (Ok (store_of new keyring r)))
opened_ok reads images old new keyring None r told keeps is = tt
opened_ok reads images old new keyring (Some bytes) r (bodies, text, h) keeps (items, had, replayed, only) =
    let same = only bodies h in (
      items,
      record { had_bodies = had; end = old.end; journal = subst (λ (l : List (List ℕ)). IsJournal l old.end bytes) same text },
      record { entries = replayed.entries; each = replayed.each; table = replayed.table; legal = replayed.legal },
      subst (λ (l : List (List ℕ)). Holds reads images new l None) same (keeps bodies h),
    )

-- an entry is not legal
pub opened_illegal : {D : Type 0} (reads : D → Option (List ℕ)) (images : D → List ℕ → Type 0) (old : Journal D) (keyring : Contents) (known : Option (List ℕ)) (n : ℕ)
    → Told reads images old known → IsReading reads images old keyring (Err (read.NotLegal n)) → IfSome known (λ bytes. Explains keyring bytes (NotLegal n))
opened_illegal reads images old keyring None n told is = tt
opened_illegal reads images old keyring (Some bytes) n (bodies, text, h) (items, had, illegal, only) =
    (items, record { had_bodies = had; end = old.end; journal = subst (λ (l : List (List ℕ)). IsJournal l old.end bytes) (only bodies h) text }, illegal)

-- a body is no entry's
pub opened_damaged : {D : Type 0} (reads : D → Option (List ℕ)) (images : D → List ℕ → Type 0) (old : Journal D) (keyring : Contents) (known : Option (List ℕ)) (place : ℕ)
    → Told reads images old known → IsReading reads images old keyring (Err (read.Damaged place)) → IfSome known (λ bytes. Explains keyring bytes (Damaged place))
opened_damaged reads images old keyring None place told is = tt
opened_damaged reads images old keyring (Some bytes) place (bodies, text, h) is = inr (bodies, old.end, text, is bodies h)
