-- What an entry that was prepared and written makes of a store.
use Rattle.std.proofs.Common.{◌≡◌, ℕ, List, [], ◌∷◌, ◌++◌, Option, None, Some, Ok, Err, sym, ap, subst, ◌∙◌, arith}
use Rattle.std.specs.BTreeMap.{get}
use Rattle.rad_base.specs.Order.{rid_cmp}
use Rattle.rad_base.specs.declared.names.Rid.{Rid}
use Rattle.announcements.specs.Held.{kept_in}
use Rattle.ref_journal.specs.Holds.{CrashLeaves, Holds, LeavesDoubt, MendedMayHave}
use Rattle.ref_journal.specs.declared.faults.AppendFault.TheVariants as faults
use Rattle.ref_journal.specs.declared.journal.Journal.{Journal}
use Rattle.repo_entries.specs.Items.{Item, entry_of}
use Rattle.repo_entries.specs.declared.entry.Entry.{Entry}
use Rattle.repo_slice.specs.declared.keep_fault.KeepFault.{KeepFault}
use Rattle.repo_slice.specs.declared.keep_fault.KeepFault.TheVariants.{DiskFault, Full, Changed, NoMemory}
use Rattle.entry_bodies.specs.Bodies.{body_of}
use Rattle.legal_history.specs.Cores.{Core, enters, mends}
use Rattle.legal_history.specs.Durable.{IsDurable}
use Rattle.legal_history.specs.Histories.{Lawful}
use Rattle.object_store.specs.Entries.{missed_entry}
use Rattle.object_store.specs.Repositories.{IsIdle, IsSame, StandsKnown, claimant_at}
use Rattle.object_store.specs.Stores.{HasClaimed, IsRefusedCall, Moves, StandsFor}
use Rattle.object_store.specs.Writes.{HasLetGo, HasWritten, IsWriteFault}
use Rattle.object_store.specs.declared.store.Store.{Store}
use Rattle.object_store.proofs.Moving.{entered, fault_left, nothing_done}
use Rattle.object_store.proofs.Standing.{each_same, same_along, stands_idle}
use Rattle.object_store.proofs.Tables.{IsSilent, table_more}

-- a repository that is claimed is there
pub there : {D : Type 0} (store : Store D) (rid : Rid) (caller : ℕ) → HasClaimed store rid caller → get rid_cmp store.repositories rid ≡ None → ⊥
there store rid caller c none =
    let nobody : claimant_at (get rid_cmp store.repositories rid) ≡ 0 = ap claimant_at none in
    omega (arith, nobody, c.claimant, c.some)

-- what was prepared for an entry
pub record Prepares {D : Type 0} (old mid : Store D) (rid : Rid) : Type 0 where
  pub journal : mid.journal ≡ old.journal
  pub keyring : mid.keyring ≡ old.keyring
  pub table : mid.table ≡ old.table
  pub entries : mid.history.entries.items ≡ old.history.entries.items
  pub others : (q : Rid) → (q ≡ rid → ⊥) → get rid_cmp mid.repositories q ≡ get rid_cmp old.repositories q
  pub same : IsSame (get rid_cmp old.repositories rid) (get rid_cmp mid.repositories rid)

-- what was prepared and refused left nothing
pub prepared_nothing : {D : Type 0} (reads : D → Option (List ℕ)) (images : D → List ℕ → Type 0) (moment : D → ℕ) (since : D → ℕ → List ℕ → Type 0) (now : (disk : D) (image : List ℕ) → since disk (moment disk) image → images disk image) (old mid : Store D) (core : Core) (rid : Rid) → StandsFor old core.items → Prepares old mid rid
    → (IsIdle (get rid_cmp old.repositories rid) → IsIdle (get rid_cmp mid.repositories rid)) → Moves reads images moment since old mid core []
prepared_nothing reads images moment since now old mid core rid s p idle =
    nothing_done reads images moment since now old mid core s p.keyring (ap kept_in p.table) p.entries p.journal
    (each_same old.repositories mid.repositories rid core.items s.each p.others p.same (idle (stands_idle (get rid_cmp old.repositories rid) rid core.items (s.each rid))))

module _ {D : Type 0} (reads : D → Option (List ℕ)) (images : D → List ℕ → Type 0) (moment : D → ℕ) (since : D → ℕ → List ℕ → Type 0) (now : (disk : D) (image : List ℕ) → since disk (moment disk) image → images disk image) (old mid new : Store D) (core : Core) (rid : Rid) (s : StandsFor old core.items) (p : Prepares old mid rid)
    (others : (q : Rid) → (q ≡ rid → ⊥) → get rid_cmp new.repositories q ≡ get rid_cmp mid.repositories q) (k : new.keyring ≡ mid.keyring) (t : new.table ≡ mid.table) where
  -- what was let go of is as before
  kept : HasLetGo mid new rid → (q : Rid) → StandsKnown (get rid_cmp new.repositories q) q core.items
  kept gone =
      each_same old.repositories new.repositories rid core.items s.each (λ q other. others q other ∙ p.others q other)
      (same_along (get rid_cmp old.repositories rid) (get rid_cmp mid.repositories rid) (get rid_cmp new.repositories rid) p.same gone.same) gone.idle

  -- the journal held the same before
  held_first : (Q : List (List ℕ) → Option (List ℕ) → Type 0) → ((bodies : List (List ℕ)) (doubt : Option (List ℕ)) → Holds reads images mid.journal bodies doubt → Q bodies doubt)
      → (bodies : List (List ℕ)) (doubt : Option (List ℕ)) → Holds reads images old.journal bodies doubt → Q bodies doubt
  held_first Q f bodies doubt h = f bodies doubt (subst (λ (x : Journal D). Holds reads images x bodies doubt) (sym p.journal) h)

  module _ (caller : ℕ) (item : Item) (durable : IsDurable item) (silent : IsSilent item) (lawful : Lawful old.keyring core.items item) (body : List ℕ) (entry : Entry) (b : body ≡ body_of item) (en : entry ≡ entry_of item) where
    -- the moments were the same before
    timed_first : (P : List ℕ → List (List ℕ) → Option (List ℕ) → List ℕ → Type 0) → CrashLeaves reads images moment since mid.journal new.journal (P body)
        → CrashLeaves reads images moment since old.journal new.journal (P (body_of item))
    timed_first P time =
        subst (λ (l : List ℕ). CrashLeaves reads images moment since old.journal new.journal (P l)) b
        (subst (λ (x : Journal D). CrashLeaves reads images moment since x new.journal (P body)) p.journal time)

    -- an entry that was written and admitted
    pub wrote : HasWritten reads images moment since mid new rid entry body → ((q : Rid) → StandsKnown (get rid_cmp new.repositories q) q (core.items ++ item ∷ []))
        → Moves reads images moment since old new core (mends ∷ enters item ∷ [])
    wrote w each =
        entered reads images moment since now old new core s (k ∙ p.keyring) item durable lawful
        (table_more (kept_in old.table) (kept_in new.table) core.items item silent (ap kept_in (t ∙ p.table)) s.table)
        (w.entries ∙ ap (λ (l : List Entry). l ++ entry ∷ []) p.entries ∙ ap (λ (x : Entry). old.history.entries.items ++ x ∷ []) en) each
        (held_first (λ (bodies : List (List ℕ)) (doubt : Option (List ℕ)). Holds reads images new.journal (bodies ++ body_of item ∷ []) None)
        (λ bodies doubt h. subst (λ (l : List ℕ). Holds reads images new.journal (bodies ++ l ∷ []) None) b (w.holds bodies doubt h)))
        (timed_first (λ (l : List ℕ). MendedMayHave {T = Unit {0}} (Ok tt) l) w.time)

    -- an entry that was not
    pub not_wrote : (fault : KeepFault) → IsWriteFault reads images moment since mid new rid caller entry body fault → IsRefusedCall reads images moment since old new core (Some rid) caller item fault
    not_wrote DiskFault w =
        fault_left reads images moment since now old new core s (k ∙ p.keyring) (Some rid) caller item w.in_doubt durable lawful (ap kept_in (t ∙ p.table))
        (w.entries ∙ ap (λ (l : List Entry). l ++ missed_entry entry (Some rid) caller w.in_doubt ∷ []) p.entries
        ∙ ap (λ (x : Entry). old.history.entries.items ++ missed_entry x (Some rid) caller w.in_doubt ∷ []) en)
        (kept w.let_go)
        (held_first (λ (bodies : List (List ℕ)) (doubt : Option (List ℕ)). LeavesDoubt reads images bodies doubt (body_of item) new.journal (faults.DiskFault w.in_doubt))
        (λ bodies doubt h. subst (λ (l : List ℕ). LeavesDoubt reads images bodies doubt l new.journal (faults.DiskFault w.in_doubt)) b (w.left bodies doubt h)))
        (timed_first (λ (l : List ℕ). MendedMayHave {T = Unit {0}} (Err (faults.DiskFault w.in_doubt)) l) w.time)
    not_wrote Full w = nothing_done reads images moment since now old new core s (k ∙ p.keyring) (ap kept_in (t ∙ p.table)) (w.entries ∙ p.entries) (w.journal ∙ p.journal) (kept w.let_go)
    not_wrote (Changed change) w = absurd w
    not_wrote NoMemory w = absurd w
