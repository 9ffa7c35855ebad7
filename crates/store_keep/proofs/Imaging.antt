-- The images of a store, by the entries that were made.
use Rattle.std.proofs.Common.{◌≡◌, ℕ, List, [], ◌∷◌, ◌++◌, Option, None, Some, inl, inr, refl, sym, ap, subst, ◌∙◌}
use Rattle.std.specs.List.{AllByRecursion}
use Rattle.std.proofs.lemmas.List.{append-nil, map-append}
use Rattle.keyring.specs.Contents.{Contents}
use Rattle.ref_journal.specs.Holds.{Holds}
use Rattle.ref_journal.specs.Moments.{HasBodies, MayHave}
use Rattle.ref_journal.specs.Images.{IsLeft}
use Rattle.ref_journal.proofs.Entering.{left_has}
use Rattle.ref_journal.proofs.Lasting.{leaves_none}
use Rattle.repo_entries.specs.Items.{Item, claim, heard, install, missed, put, refused}
use Rattle.entry_bodies.specs.Bodies.{HasBody, body_of}
use Rattle.legal_history.specs.Cores.{Core}
use Rattle.legal_history.specs.Durable.{durable_part, reopened}
use Rattle.legal_history.specs.Histories.{Legal}
use Rattle.legal_history.proofs.Durables.{durable_is_legal, legal_more}
use Rattle.object_store.specs.Bodies.{bodies_of, body_in_doubt}
use Rattle.object_store.specs.Stores.{StandsFor}
use Rattle.object_store.specs.declared.store.Store.{Store}
use Rattle.object_store.proofs.Moving.{same_body}
use Rattle.store_keep.specs.Made.{IsDoubtKnown, IsImageOf, IsMade, IsPastImage, ReopensLegal, Start, no_claims}
use Rattle.store_keep.proofs.Claimless.{left_claimless, no_claims_durable}

not_none : {X : Type 0} (x : X) → None ≡ Some x → ⊥
not_none x e = cc e

-- what a crash leaves of a core whose doubt is known
module _ (keyring : Contents) (core : Core) (known : IsDoubtKnown keyring core) (legal : Legal keyring core.items) (image : List ℕ) where
  -- the durable part is that of the core
  same_part : durable_part (no_claims core.items) ≡ durable_part core.items
  same_part = no_claims_durable core.items

  without : HasBodies (bodies_of (durable_part core.items)) image → IsImageOf (no_claims core.items) image
  without has = inl (subst (λ (l : List Item). HasBodies (bodies_of l) image) (sym same_part) has)

  -- an image, by what is in doubt
  by_doubt : (doubt : Option Item) → core.doubt ≡ doubt → MayHave (bodies_of (durable_part core.items)) (body_in_doubt doubt) image → IsImageOf (no_claims core.items) image
  by_doubt None e has = without has
  by_doubt (Some item) e (inl has) = without has
  by_doubt (Some item) e (inr has) = inr (
    item,
    left_claimless core.items item (known.named item e),
    subst (λ (l : List Item). HasBodies (bodies_of l ++ body_of item ∷ []) image) (sym same_part) has,
  )

  -- what an image is reopened as
  legal_by : (doubt : Option Item) → core.doubt ≡ doubt → MayHave (bodies_of (durable_part core.items)) (body_in_doubt doubt) image → ReopensLegal keyring image
  legal_by None e has = (durable_part core.items, durable_is_legal keyring core.items legal, has)
  legal_by (Some item) e (inl has) = (durable_part core.items, durable_is_legal keyring core.items legal, has)
  legal_by (Some item) e (inr has) =
      let bodies : bodies_of (durable_part core.items ++ reopened item ∷ []) ≡ bodies_of (durable_part core.items) ++ body_of item ∷ [] =
      map-append body_of (durable_part core.items) (reopened item ∷ []) ∙ ap (λ (b : List ℕ). bodies_of (durable_part core.items) ++ b ∷ []) (same_body item) in (
        durable_part core.items ++ reopened item ∷ [],
        legal_more keyring [] (durable_part core.items) (reopened item) (durable_is_legal keyring core.items legal) (known.lawful item e),
        subst (λ (l : List (List ℕ)). HasBodies l image) (sym bodies) has,
      )

  pub core_image : MayHave (bodies_of (durable_part core.items)) (body_in_doubt core.doubt) image → IsImageOf (no_claims core.items) image
  core_image has = by_doubt core.doubt refl has

  pub core_legal : MayHave (bodies_of (durable_part core.items)) (body_in_doubt core.doubt) image → ReopensLegal keyring image
  core_legal has = legal_by core.doubt refl has

module _ {D : Type 0} (reads : D → Option (List ℕ)) (images : D → List ℕ → Type 0) (moment : D → ℕ) (since : D → ℕ → List ℕ → Type 0) (store : Store D) (start : Start D)
    (items : List Item) (h : IsMade reads images moment since store start items) where
  may_have : (image : List ℕ) → images store.journal.disk image → MayHave (bodies_of (durable_part h.core.items)) (body_in_doubt h.core.doubt) image
  may_have image is = left_has (bodies_of (durable_part h.core.items)) (body_in_doubt h.core.doubt) store.journal.end image (h.disk.tells.each image is)

  pub image_of : (image : List ℕ) → images store.journal.disk image → IsImageOf items image
  image_of image is =
      subst (λ (l : List Item). IsImageOf l image) (sym h.entries) (core_image store.keyring h.core h.doubt h.stands.legal image (may_have image is))

  pub part_legal : Legal store.keyring (durable_part items)
  part_legal =
      subst (Legal store.keyring) (sym (ap durable_part h.entries ∙ no_claims_durable h.core.items)) (durable_is_legal store.keyring h.core.items h.stands.legal)

  pub image_legal : (image : List ℕ) → images store.journal.disk image → ReopensLegal store.keyring image
  image_legal image is = core_legal store.keyring h.core h.doubt h.stands.legal image (may_have image is)

  pub past_image : (image : List ℕ) → since store.journal.disk (moment start.disk) image → IsPastImage store.keyring start.items items image
  past_image image is = h.time.each image is

-- entries that were read have no claims, and all are durable
read_claimless : (items : List Item) → AllByRecursion HasBody items → no_claims items ≡ items
read_claimless [] h = refl
read_claimless (claim r c ∷ items) h = absurd h.0
read_claimless (put r b c ∷ items) h = ap (λ (l : List Item). put r b c ∷ l) (read_claimless items h.1)
read_claimless (install r i m c ∷ items) h = ap (λ (l : List Item). install r i m c ∷ l) (read_claimless items h.1)
read_claimless (heard m c ∷ items) h = ap (λ (l : List Item). heard m c ∷ l) (read_claimless items h.1)
read_claimless (missed q l c ∷ items) h = absurd h.0
read_claimless (refused r w c ∷ items) h = absurd h.0

read_durable : (items : List Item) → AllByRecursion HasBody items → durable_part items ≡ items
read_durable [] h = refl
read_durable (claim r c ∷ items) h = absurd h.0
read_durable (put r b c ∷ items) h = (λ i. put r b (sym h.0.1 i) ∷ read_durable items h.1 i)
read_durable (install r i m c ∷ items) h = (λ t. install r i m (sym h.0.1 t) ∷ read_durable items h.1 t)
read_durable (heard m c ∷ items) h = (λ t. heard m (sym h.0.1 t) ∷ read_durable items h.1 t)
read_durable (missed q l c ∷ items) h = absurd h.0
read_durable (refused r w c ∷ items) h = absurd h.0

-- the entries of a store that was opened are made, from there on
pub opened_made : {D : Type 0} (reads : D → Option (List ℕ)) (images : D → List ℕ → Type 0) (moment : D → ℕ) (since : D → ℕ → List ℕ → Type 0)
    → ((disk : D) (image : List ℕ) → since disk (moment disk) image → images disk image) → (store : Store D) (items : List Item) → AllByRecursion HasBody items → StandsFor store items
    → Holds reads images store.journal (bodies_of items) None → IsMade reads images moment since store (record { disk = store.journal.disk; items = items }) items
opened_made reads images moment since now store items bodies stands holds =
    let disk = store.journal.disk in
    let core : Core = record { items = items; doubt = None } in
    let known : IsDoubtKnown store.keyring core = record { named = λ item is. absurd (not_none item is); lawful = λ item is. absurd (not_none item is) } in
    let same : items ≡ no_claims items = sym (read_claimless items bodies) in
    let durable : durable_part items ≡ items = read_durable items bodies in
    let none : items ++ [] ≡ items = append-nil items in
    record {
      core = core;
      entries = same;
      stands = stands;
      disk = subst (λ (l : List Item). Holds reads images store.journal (bodies_of l) None) (sym durable) holds;
      doubt = known;
      added = [];
      all = sym none;
      room = inl refl;
      time = leaves_none (IsLeft (bodies_of items) None store.journal.end) (IsPastImage store.keyring items items) (moment disk) (reads disk) (since disk) (images disk)
          (λ image left.
          let has : MayHave (bodies_of (durable_part items)) None image = subst (λ (l : List Item). HasBodies (bodies_of l) image) (sym durable) (left_has (bodies_of items) None store.journal.end image left) in
          record {
            done = [];
            rest = [];
            all = sym (append-nil (items ++ []) ∙ none);
            has = subst (λ (l : List Item). IsImageOf l image) (sym (none ∙ same)) (core_image store.keyring core known stands.legal image has);
            legal = core_legal store.keyring core known stands.legal image has;
          }) holds.tells (now disk);
    }
