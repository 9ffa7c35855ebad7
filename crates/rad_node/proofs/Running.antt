-- The run of a bundle's job over a store that was opened.
use Rattle.std.proofs.lemmas.List.{append-nil}
use Rattle.std.proofs.Common.{◌≡◌, ℕ, List, [], ◌∷◌, ◌++◌, Option, None, Some, inl, inr, refl, sym, ap, ◌∙◌, subst}
use Rattle.std.specs.Prelude.{IfSome}
use Rattle.std.specs.Io.KnownBytes.{Consumes, IsAtEnd}
use Rattle.std.specs.BTreeMap.{get}
use Rattle.rad_base.specs.Order.{rid_cmp}
use Rattle.rad_base.specs.declared.names.Rid.{Rid}
use Rattle.keyring.specs.Contents.{Contents}
use Rattle.ref_journal.specs.Holds.{Holds}
use Rattle.repo_entries.specs.Items.{Item}
use Rattle.repo_entries.specs.declared.entry.Left.TheVariants.{Nothing}
use Rattle.repo_slice.specs.Keeps.{Constants, Held, IsStopped, Makes, MayLeave}
use Rattle.repo_slice.specs.declared.keep_fault.KeepFault.{KeepFault}
use Rattle.repo_slice.specs.declared.keep_fault.KeepFault.TheVariants as fault
use Rattle.legal_history.specs.Histories.{Legal}
use Rattle.object_store.specs.Bodies.{bodies_of}
use Rattle.object_store.specs.Held.{IsUnclaimed, held_at, held_of}
use Rattle.object_store.specs.Opened.{IsStoreImage}
use Rattle.object_store.specs.Stores.{StandsFor}
use Rattle.object_store.specs.declared.repository.Repository.{Repository}
use Rattle.object_store.specs.declared.store.Store.{Store}
use Rattle.object_store.proofs.Holding.{held_is}
use Rattle.store_keep.specs.Kept.{Kept, constants_at, constants_of, may_call}
use Rattle.store_keep.specs.Made.{IsMade, Start}
use Rattle.store_keep.proofs.Imaging.{opened_made}
use Rattle.fetch_stages.specs.Imports.{Came, EndsBy, Imports, IsBundleJob, IsEndOf, IsImportCause}
use Rattle.fetch_stages.specs.declared.job_end.ImportEnd.{ImportEnd}
use Rattle.fetch_stages.specs.declared.job_end.ImportEnd.TheVariants as import
use Rattle.fetch_stages.specs.declared.job_end.JobEnd.TheVariants as job
use Rattle.rad_node.specs.Imports.{MayName, held_behind, importing}
use Rattle.rad_node.specs.Jobs.{HasMade, HasRun, IsEndCaused}
use Rattle.rad_node.specs.Opening.{HasOpened}
use Rattle.rad_node.specs.Statuses.{Files, SaysKeyring}

-- what is told of something is mapped
pub if_told : {X : Type 0} (P Q : X → Type 0) (o : Option X) → ((x : X) → P x → Q x) → IfSome o P → IfSome o Q
if_told P Q None f h = tt
if_told P Q (Some x) f h = f x h

-- what a store has of each repository is what its entries make of it
held_everywhere : {D : Type 0} (store : Store D) (items : List Item) → StandsFor store items → (λ (rid : Rid). held_at store rid) ≡ held_behind items
held_everywhere store items s = (λ i rid. held_is store rid items s i)

-- the objects of each repository are told
told_of : (rid : Rid) (r : Option Repository) → (held_of rid r).objects ≡ None → ⊥
told_of rid None e = cc e
told_of rid (Some r) e = cc e

pub always_told : {D : Type 0} (store : Store D) (rid : Rid) → (held_at store rid).objects ≡ None → ⊥
always_told store rid e = told_of rid (get rid_cmp store.repositories rid) e

-- a keep stands for each repository of a store that nobody claims
pub for_every : {D : Type 0} (store : Store D) → IsUnclaimed store → constants_at store 1 ≡ importing store.keyring
for_every store free = (λ i. record { keyring = store.keyring; caller = 1; stands = λ rid. may_call 1 (free rid i) })

-- a fault has its cause
pub end_caused : {D : Type 0} (input disk : Type 0) (store : Store D) (result : ImportEnd)
    → IsImportCause input disk (λ (rid : Rid). held_at store rid) result → IsEndCaused input disk result
end_caused input disk store (import.Ended rid (job.Done judged head)) h = tt
end_caused input disk store (import.Ended rid (job.Refused why)) h = tt
end_caused input disk store (import.Ended rid job.TooLong) h = tt
end_caused input disk store (import.Ended rid job.DiskFault) h = h
end_caused input disk store (import.Ended rid job.Full) h = tt
end_caused input disk store (import.Ended rid (job.Changed change)) h = absurd (always_told store rid h.0)
end_caused input disk store (import.Ended rid job.NoMemory) h = tt
end_caused input disk store import.ReadFault h = h
end_caused input disk store (import.InputBad place) h = tt
end_caused input disk store import.NoMemory h = tt

-- a repository that the bytes may name
some_rid : (constants : Constants) (held : Rid → Held) (bytes : List ℕ) (entries : List Item) (came : Came)
    → IsBundleJob constants held bytes entries came → (rid : Rid) × MayName bytes rid
some_rid constants held bytes entries came (inl h) = (record { 0 = record { 0 = [] } }, inl h.0)
some_rid constants held bytes entries came (inr j) = (j.rid, inr (j.name, (j.rest, j.text)))

no_memory_is_not_full : fault.NoMemory ≡ fault.Full → ⊥
no_memory_is_not_full e = cc e

-- nothing may be left in doubt
may_nothing : (entries : List Item) → MayLeave entries Nothing
may_nothing [] = refl
may_nothing (item ∷ entries) = inl refl

-- memory was refused before an entry was made
none_made : (rid : Rid) (end : ℕ) (entries : List Item) → IsStopped rid 1 end entries fault.NoMemory []
none_made rid end entries = record {
  done = [];
  rest = entries;
  all = refl;
  left = Nothing;
  doubt = may_nothing entries;
  full = λ e. absurd (no_memory_is_not_full e);
  history_is = refl;
}

-- it was refused behind the last
pub all_made : (rid : Rid) (end : ℕ) (entries history : List Item) → history ≡ entries → IsStopped rid 1 end entries fault.NoMemory history
all_made rid end entries history e = record {
  done = entries;
  rest = [];
  all = sym (append-nil entries);
  left = Nothing;
  doubt = refl;
  full = λ f. absurd (no_memory_is_not_full f);
  history_is = e ∙ sym (append-nil entries);
}

-- what was made, by the end
record MadeSo {K O : Type 0} (made : K → O → List Item → Type 0) (constants : Constants) (end : ℕ) (old new : K) (at_end : Type 0)
    (bytes : List ℕ) (entries : List Item) (came : Came) (result : ImportEnd) : Type 0 where
  rid : Rid
  named : MayName bytes rid
  history : List Item
  has : HasMade constants at_end came rid end entries history result
  makes : Makes made old new history

module _ {K O : Type 0} (made : K → O → List Item → Type 0) (constants : Constants) (end : ℕ) (old new : K) (held finally : Rid → Held) (at_end : Type 0)
    (bytes : List ℕ) (entries : List Item) (came : Came) (one : constants.caller ≡ 1) (job_is : IsBundleJob constants held bytes entries came) where
  stopped_at : (rid : Rid) (why : KeepFault) (history : List Item) → IsStopped rid constants.caller end entries why history → IsStopped rid 1 end entries why history
  stopped_at rid why history s = subst (λ (n : ℕ). IsStopped rid n end entries why history) one s

  made_so : (result : ImportEnd) → EndsBy made constants end old new finally at_end entries came result → IsEndOf bytes result
      → MadeSo made constants end old new at_end bytes entries came result
  made_so (import.Ended rid (job.Done judged head)) e named = record {
    rid = rid;
    named = inr named;
    history = entries;
    has = (refl, (e.0, e.1, (finally rid, e.4, e.5)), e.2, refl);
    makes = e.3;
  }
  made_so (import.Ended rid (job.Refused why)) e named = record {
    rid = rid;
    named = inr named;
    history = entries;
    has = (refl, (e.0, e.1), e.2, refl);
    makes = e.3;
  }
  made_so (import.Ended rid job.TooLong) e named = record {
    rid = rid;
    named = inr named;
    history = entries;
    has = (refl, e.0, refl);
    makes = e.1;
  }
  made_so (import.Ended rid job.DiskFault) e named = record {
    rid = rid;
    named = inr named;
    history = e.0;
    has = stopped_at rid fault.DiskFault e.0 e.1;
    makes = e.2;
  }
  made_so (import.Ended rid job.Full) e named = record {
    rid = rid;
    named = inr named;
    history = e.0;
    has = stopped_at rid fault.Full e.0 e.1;
    makes = e.2;
  }
  made_so (import.Ended rid (job.Changed change)) e named = record {
    rid = rid;
    named = inr named;
    history = e.0;
    has = stopped_at rid (fault.Changed change) e.0 e.1;
    makes = e.2;
  }
  made_so (import.Ended rid job.NoMemory) e named = record {
    rid = rid;
    named = inr named;
    history = e.0;
    has = stopped_at rid fault.NoMemory e.0 e.1;
    makes = e.2;
  }
  made_so import.ReadFault e named =
      let r = some_rid constants held bytes entries came job_is in
      record { rid = r.0; named = r.1; history = entries; has = refl; makes = e }
  made_so (import.InputBad place) e named =
      let r = some_rid constants held bytes entries came job_is in
      record { rid = r.0; named = r.1; history = entries; has = (e.0, refl); makes = e.1 }
  made_so import.NoMemory e named =
      let r = some_rid constants held bytes entries came job_is in
      record { rid = r.0; named = r.1; history = []; has = none_made r.0 end entries; makes = e }

-- the job of a bundle over a store that was opened
pub has_run : {D : Type 0} (reads : D → Option (List ℕ)) (images : D → List ℕ → Type 0) (moment : D → ℕ) (since : D → ℕ → List ℕ → Type 0) (now : (disk : D) (image : List ℕ) → since disk (moment disk) image → images disk image) (files : Files) (old new : Kept D) (l l' : Option (List ℕ)) (result : ImportEnd)
    → old.caller ≡ 1 → IsUnclaimed old.store → HasOpened reads images files old.store → constants_of new ≡ constants_of old
    → Imports (λ (k : Kept D) (start : Start D) (items : List Item). IsMade reads images moment since k.store start items) (constants_of old) new.store.journal.end (λ (rid : Rid). held_at old.store rid)
    (λ (rid : Rid). held_at new.store rid) old new l l' result
    → HasRun reads images moment since old.store.journal.disk files (Consumes l l') (IsAtEnd l') new.store result
has_run {D} reads images moment since now files old new l l' result one free opened same i =
    let keyring : old.store.keyring ≡ new.store.keyring = sym (ap (λ (k : Constants). k.keyring) same) in
    let constants : constants_of old ≡ importing new.store.keyring =
    ap (λ (n : ℕ). constants_at old.store n) one ∙ for_every old.store free ∙ ap importing keyring in
    let held = held_everywhere old.store opened.stored opened.stands in
    let start : Start D = record { disk = old.store.journal.disk; items = opened.stored } in
    let m = made_so (λ (k : Kept D) (start : Start D) (items : List Item). IsMade reads images moment since k.store start items) (constants_of old) new.store.journal.end old new
    (λ (rid : Rid). held_at old.store rid) (λ (rid : Rid). held_at new.store rid) (IsAtEnd l') i.bytes i.entries i.came one i.job result i.ends i.named in
    record {
      stored = opened.stored;
      good = record {
        keys = subst (λ (k : Contents). IfSome files.keyring (λ file. SaysKeyring file k)) keyring opened.keys;
        store = if_told (λ bytes. IsStoreImage bytes opened.stored × Holds reads images old.store.journal (bodies_of opened.stored) None)
            (λ bytes. IsStoreImage bytes opened.stored) files.store (λ bytes x. x.0) opened.image;
        legal = subst (λ (k : Contents). Legal k opened.stored) keyring opened.stands.legal;
      };
      bytes = i.bytes;
      unread = i.unread;
      took = subst (λ (b : List ℕ). Consumes l l' b) i.text i.consumed;
      whole = i.whole;
      entries = i.entries;
      came = i.came;
      job = subst (λ (k : Constants). IsBundleJob k (held_behind opened.stored) i.bytes i.entries i.came) constants
          (subst (λ (h : Rid → Held). IsBundleJob (constants_of old) h i.bytes i.entries i.came) held i.job);
      rid = m.rid;
      named = m.named;
      history = m.history;
      made = subst (λ (k : Constants). HasMade k (IsAtEnd l') i.came m.rid new.store.journal.end i.entries m.history result) constants m.has;
      store_has = if_told (λ bytes. IsStoreImage bytes opened.stored × Holds reads images old.store.journal (bodies_of opened.stored) None)
          (λ bytes. IsMade reads images moment since new.store start (opened.stored ++ m.history)) files.store
          (λ bytes x. m.makes start opened.stored (opened_made reads images moment since now old.store opened.stored x.0.had_bodies opened.stands x.1)) opened.image;
    }
