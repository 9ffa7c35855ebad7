-- What a call for a repository makes of a store.
use Rattle.std.specs.Prelude.{◌≡◌, ◌⊎◌, ℕ, ◌<◌, ◌^◌, List, [], ◌∷◌, Option, Some, Result, Ok, Err}
use Rattle.std.specs.Option.{ForSome}
use Rattle.rad_base.specs.declared.names.Rid.{Rid}
use Rattle.rad_base.specs.declared.offer.Offer.{Offer}
use Rattle.canonical_head.specs.declared.answer.Head.{Head}
use Rattle.commit_graph.specs.Objects.{Object}
use Rattle.repo_entries.specs.Items.{Item, put}
use Rattle.repo_entries.specs.declared.whole.Whole.{Whole}
use Rattle.repo_slice.specs.Heads.{IsHeadOf}
use Rattle.repo_slice.specs.Keeps.{HadRoom, HeldBehind, IsStopped, IsVerdictOn, Makes, item_of}
use Rattle.repo_slice.specs.declared.keep_fault.KeepFault.{KeepFault}
use Rattle.repo_slice.specs.declared.scope.Scope.{Scope}
use Rattle.repo_slice.specs.declared.verdict.Judged.{Judged}
use Rattle.legal_history.specs.Replays.{after_items, replay}
use Rattle.object_store.specs.Held.{claimant_of, held_at}
use Rattle.object_store.specs.Stores.{StandsFor, install_of}
use Rattle.object_store.specs.declared.store.Store.{Store}
use Rattle.store_keep.specs.Kept.{constants_at, may_call}
use Rattle.store_keep.specs.Made.{IsMade}

-- what the entries make of the repository they make of what stood before
abbrev pub ReplaysBehind : {D : Type 0} → Rid → Store D → Store D → List Item → Type 0
ReplaysBehind rid old new added = (items : List Item) → StandsFor old items
    → (next : List Item) × StandsFor new next
    × (replay rid next ≡ after_items rid (replay rid items) added)

-- these entries were added, and nothing was done to other repositories
pub record Adds {D : Type 0} (reads : D → Option (List ℕ)) (images : D → List ℕ → Type 0)
    (moment : D → ℕ) (since : D → ℕ → List ℕ → Type 0) (rid : Rid) (caller : ℕ) (old new : Store D)
    (added : List Item) : Type 0 where
  pub keyring : new.keyring ≡ old.keyring
  pub made : Makes (IsMade reads images moment since) old new added
  pub callable : (other : Rid)
      → may_call caller (claimant_of new other) ≡ may_call caller (claimant_of old other)
  pub others : (other : Rid) → (other ≡ rid → ⊥) → held_at new other ≡ held_at old other
  pub replays : ReplaysBehind rid old new added

-- a call that had these entries to make was refused
pub record Stops {D : Type 0} (reads : D → Option (List ℕ)) (images : D → List ℕ → Type 0)
    (moment : D → ℕ) (since : D → ℕ → List ℕ → Type 0) (rid : Rid) (caller : ℕ) (old new : Store D)
    (entries : List Item) (why : KeepFault) : Type 0 where
  pub history : List Item
  pub stopped : IsStopped rid caller new.journal.end entries why history
  pub adds : Adds reads images moment since rid caller old new history
  pub same : held_at new rid ≡ held_at old rid

-- what a put made of a store
abbrev pub Puts : {D : Type 0} → (D → Option (List ℕ)) → (D → List ℕ → Type 0) → (D → ℕ)
    → (D → ℕ → List ℕ → Type 0) → Rid → ℕ → List Object → Store D → Store D → Result (Unit {0}) KeepFault → Type 0
Puts reads images moment since rid caller batch old new (Ok done) =
    Adds reads images moment since rid caller old new (put rid batch caller ∷ [])
    × (new.journal.end < 2 ^ 40)
Puts reads images moment since rid caller batch old new (Err why) =
    Stops reads images moment since rid caller old new (put rid batch caller ∷ []) why

-- the verdict on an offer, on what a store has of a repository
abbrev pub IsVerdictFor : {D : Type 0} → Store D → Rid → ℕ → Offer → Scope → Result Judged Whole
    → Type 0
IsVerdictFor store rid caller offer scope verdict =
    IsVerdictOn (constants_at store caller) (held_at store rid) offer scope verdict

-- what an install made of a store that had a verdict
pub record Judges {D : Type 0} (reads : D → Option (List ℕ)) (images : D → List ℕ → Type 0)
    (moment : D → ℕ) (since : D → ℕ → List ℕ → Type 0) (rid : Rid) (caller : ℕ) (old new : Store D)
    (verdict : Result Judged Whole) : Type 0 where
  pub adds : Adds reads images moment since rid caller old new (item_of rid caller verdict ∷ [])
  pub behind : HeldBehind (held_at old rid) verdict (held_at new rid)
  pub room : HadRoom new.journal.end verdict

-- what an install made of a store
abbrev pub Installs : {D : Type 0} → (D → Option (List ℕ)) → (D → List ℕ → Type 0) → (D → ℕ)
    → (D → ℕ → List ℕ → Type 0) → Rid → ℕ → Offer → Scope → Store D → Store D → Result (Result Judged Whole) KeepFault → Type 0
Installs reads images moment since rid caller offer scope old new (Ok verdict) =
    IsVerdictFor old rid caller offer scope verdict
    × Judges reads images moment since rid caller old new verdict
Installs reads images moment since rid caller offer scope old new (Err why) =
    Stops reads images moment since rid caller old new [] why
    ⊎ ((judged : Judged) × IsVerdictFor old rid caller offer scope (Ok judged)
    × Stops reads images moment since rid caller old new (install_of rid caller judged ∷ []) why)

-- the canonical head of what a store has of a repository
abbrev pub IsHeadFor : {D : Type 0} → Store D → Rid → Head → Type 0
IsHeadFor store rid head = ForSome (held_at store rid).objects
    (λ objects. IsHeadOf objects store.keyring (held_at store rid).state (Some head))
