-- What opening a store answers, by the keyring file and the store.
use Rattle.std.proofs.Common.{◌≡◌, ℕ, List, Option, None, Some, inl, inr, refl, sym, subst, arith}
use Rattle.std.specs.Prelude.{IfSome, Ok}
use Rattle.rad_base.specs.Faults.{Rose}
use Rattle.rad_outside.specs.Disks.{Within}
use Rattle.keyring.specs.Contents.{Contents}
use Rattle.ref_journal.specs.Holds.{Holds, LeavesOnlyBetween, OnlyReads}
use Rattle.repo_entries.specs.Items.{Item}
use Rattle.object_store.specs.Bodies.{bodies_of}
use Rattle.object_store.specs.Opened.{Explains, IsOpenedStore, IsStoreImage, OpensAs}
use Rattle.object_store.specs.Opens.{IsIllegalAt}
use Rattle.object_store.specs.declared.faults.Why.{Why}
use Rattle.object_store.specs.declared.faults.Why.TheVariants as why
use Rattle.object_store.specs.declared.store.Store.{Store}
use Rattle.rad_node.specs.Opening.{HasOpened, IsOpeningFault, status_of}
use Rattle.rad_node.specs.Imports.{IsImportEnd}
use Rattle.rad_node.specs.Runs.{IsKept, LeavesAlso}
use Rattle.rad_node.specs.Printing.{IsPrintingEnd, command_for}
use Rattle.rad_node.specs.declared.command.Command.TheVariants as command
use Rattle.rad_node.specs.declared.printing.Report.{Report}
use Rattle.rad_node.specs.declared.printing.Report.TheVariants as reports
use Rattle.rad_node.specs.declared.status.Status.{Status}
use Rattle.rad_node.specs.declared.status.Status.TheVariants as status
use Rattle.rad_node.specs.declared.status.WhichSource.TheVariants as source
use Rattle.rad_node.specs.Statuses.{AreGood, Files, HasKeyring, IsCaused, IsSaid, IsIllegalStore, SaysKeyring}
use Rattle.rad_node.proofs.Running.{if_told}

-- the store stands for some entries, and for those of its bytes where these are told
pub has_opened : {D : Type 0} (reads : D → Option (List ℕ)) (images : D → List ℕ → Type 0) (file told : Option (List ℕ)) (keyring : Contents) (store : Store D)
    → IfSome file (λ bytes. SaysKeyring bytes keyring) → OpensAs keyring store → IfSome told (λ bytes. IsOpenedStore reads images keyring bytes (Ok store))
    → HasOpened reads images (record { keyring = file; store = told }) store
has_opened reads images file None keyring store says opens h = record {
  stored = opens.1.0;
  keys = subst (λ (k : Contents). IfSome file (λ bytes. SaysKeyring bytes k)) (sym opens.0) says;
  stands = opens.1.1;
  image = tt;
}
has_opened reads images file (Some bytes) keyring store says opens h = record {
  stored = h.0;
  keys = subst (λ (k : Contents). IfSome file (λ bytes. SaysKeyring bytes k)) (sym opens.0) says;
  stands = h.2;
  image = (h.1, h.3);
}

-- a call that only reads leaves at any moment of it what could be left before
module _ {D : Type 0} (loan faults : D → ℕ) (reads : D → Option (List ℕ)) (images : D → List ℕ → Type 0) (moment : D → ℕ) (since : D → ℕ → List ℕ → Type 0)
    (now : (disk : D) (image : List ℕ) → since disk (moment disk) image → images disk image) (old new : D) (r : OnlyReads loan faults reads images moment since old new) where
  within_since : Within (since new (moment old)) (images old)
  within_since image is = elim (r.time.before (moment old) image (omega arith) is) [ inl past ↦ now old image past | inr before ↦ before ]

  pub kept_by : IsKept (reads old) (reads new) (images old) (images new) (since new (moment old))
  kept_by = (r.same, r.within, within_since)

  -- and so does a run that begins with it, or what it leaves then
  pub leaves_since : (last : D) (P : List ℕ → Type 0) → LeavesOnlyBetween moment since new last P → LeavesAlso (images old) (since last (moment old)) P
  leaves_since last P l = λ image is. elim (l.before (moment old) image r.time.later is) [ inl past ↦ inl (within_since image past) | inr has ↦ inr has ]

-- a keyring that was read is one
pub has_keyring : (file : Option (List ℕ)) (keyring : Contents) → IfSome file (λ bytes. SaysKeyring bytes keyring)
    → IfSome file (λ bytes. (k : Contents) × SaysKeyring bytes k)
has_keyring file keyring says =
    if_told (λ bytes. SaysKeyring bytes keyring) (λ bytes. (k : Contents) × SaysKeyring bytes k) file (λ bytes s. (keyring, s)) says

-- a refusal is explained
pub opening_fault : (file told : Option (List ℕ)) (keyring : Contents) (keys rose : Type 0) (w : Why) → IfSome file (λ bytes. SaysKeyring bytes keyring)
    → (w ≡ why.DiskFault → rose) → IfSome told (λ bytes. Explains keyring bytes w)
    → IsOpeningFault (record { keyring = file; store = told }) keys rose (status_of w)
opening_fault file told keyring keys rose why.DiskFault says cause h = (cause refl, has_keyring file keyring says)
opening_fault file told keyring keys rose why.Unmade says cause h = (has_keyring file keyring says, h)
opening_fault file told keyring keys rose (why.Damaged place) says cause h = (has_keyring file keyring says, h)
opening_fault file told keyring keys rose (why.NotLegal n) says cause h =
    if_told (λ bytes. (items : List Item) × IsStoreImage bytes items × IsIllegalAt keyring n items)
    (IsIllegalStore (record { keyring = file; store = told }) n) told
    (λ bytes x. record { keyring = keyring; says = says; items = x.0; image = x.1; illegal = x.2 }) h
opening_fault file told keyring keys rose why.NoMemory says cause h = tt

-- what an opened store has is good
pub opened_good : {D : Type 0} (reads : D → Option (List ℕ)) (images : D → List ℕ → Type 0) (files : Files) (store : Store D)
    → (o : HasOpened reads images files store) → AreGood files store.keyring o.stored
opened_good reads images files store o = record {
  keys = o.keys;
  store = if_told (λ bytes. IsStoreImage bytes o.stored × Holds reads images store.journal (bodies_of o.stored) None) (λ bytes. IsStoreImage bytes o.stored)
      files.store (λ bytes x. x.0) o.image;
  legal = o.stands.legal;
}

-- a run that opened its store and took the bundle says nothing more of its files
pub import_said : (files : Files) (s : Status) → HasKeyring files → IsImportEnd s → IsSaid command.Import files s
import_said files status.Ok h i = tt
import_said files status.Usage h i = i
import_said files (status.ReadFault source.Keys) h i = tt
import_said files (status.ReadFault source.Rules) h i = i
import_said files (status.ReadFault source.Input) h i = tt
import_said files status.WriteFault h i = tt
import_said files status.DiskFault h i = λ opens. h
import_said files status.Unmade h i = absurd i
import_said files (status.Damaged place) h i = absurd i
import_said files (status.KeyringBad line) h i = absurd i
import_said files (status.InputBad place) h i = tt
import_said files status.SomeRefused h i = tt
import_said files status.Full h i = tt
import_said files (status.NotLegal n) h i = absurd i
import_said files status.AlreadyMade h i = absurd i
import_said files (status.Changed change) h i = i
import_said files status.NoMemory h i = tt

-- nor does one that prints
pub printing_said : (which : Report) (files : Files) (out : Type 0) (s : Status) → IsPrintingEnd out s → IsSaid (command_for which) files s
printing_said reports.Show files out s (inl x) = rw x tt
printing_said reports.Show files out s (inr (inl x)) = rw x.0 tt
printing_said reports.Show files out s (inr (inr x)) = rw x tt
printing_said reports.Heads files out s (inl x) = rw x tt
printing_said reports.Heads files out s (inr (inl x)) = rw x.0 tt
printing_said reports.Heads files out s (inr (inr x)) = rw x tt
printing_said reports.Audit files out s (inl x) = rw x tt
printing_said reports.Audit files out s (inr (inl x)) = rw x.0 tt
printing_said reports.Audit files out s (inr (inr x)) = rw x tt

not_init : command.Import ≡ command.Init → ⊥
not_init e = cc e

no_rise : Rose 0 0 → ⊥
no_rise r = omega (arith, r)

-- what is said of an import under a made keyring is said of its making; no call of its sources fails
said_by_rule : (commits : ℕ) (files : Files) (keys input disk out : Type 0) (s : Status) → (keys → ⊥) → (input → ⊥) → IsCaused s keys input disk out
    → IsSaid command.Import files s → IsSaid (command.Gen commits) files s
said_by_rule commits files keys input disk out status.Ok no_keys no_input c h = h
said_by_rule commits files keys input disk out status.Usage no_keys no_input c h = h
said_by_rule commits files keys input disk out (status.ReadFault source.Keys) no_keys no_input c h = no_keys c
said_by_rule commits files keys input disk out (status.ReadFault source.Rules) no_keys no_input c h = h
said_by_rule commits files keys input disk out (status.ReadFault source.Input) no_keys no_input c h = no_input c
said_by_rule commits files keys input disk out status.WriteFault no_keys no_input c h = h
said_by_rule commits files keys input disk out status.DiskFault no_keys no_input c h = h
said_by_rule commits files keys input disk out status.Unmade no_keys no_input c h = h
said_by_rule commits files keys input disk out (status.Damaged place) no_keys no_input c h = h
said_by_rule commits files keys input disk out (status.KeyringBad line) no_keys no_input c h = h
said_by_rule commits files keys input disk out (status.InputBad place) no_keys no_input c h = h
said_by_rule commits files keys input disk out status.SomeRefused no_keys no_input c h = h
said_by_rule commits files keys input disk out status.Full no_keys no_input c h = h
said_by_rule commits files keys input disk out (status.NotLegal n) no_keys no_input c h = h
said_by_rule commits files keys input disk out status.AlreadyMade no_keys no_input c h = absurd (not_init h.0)
said_by_rule commits files keys input disk out (status.Changed change) no_keys no_input c h = h
said_by_rule commits files keys input disk out status.NoMemory no_keys no_input c h = h

pub generated_said : (commits : ℕ) (keyring made : List ℕ) (store : Option (List ℕ)) (disk out : Type 0) (s : Status) → keyring ≡ made
    → IsCaused s (Rose 0 0) (Rose 0 0) disk out → IsSaid command.Import (record { keyring = Some keyring; store = store }) s
    → IsSaid (command.Gen commits) (record { keyring = Some made; store = store }) s
generated_said commits keyring made store disk out s same c h =
    said_by_rule commits (record { keyring = Some made; store = store }) (Rose 0 0) (Rose 0 0) disk out s no_rise no_rise c
    (subst (λ (k : List ℕ). IsSaid command.Import (record { keyring = Some k; store = store }) s) same h)
