-- What hearing an announcement makes of a store.
use Rattle.std.proofs.Common.{◌≡◌, ℕ, ◌+◌, ◌≤◌, ◌<◌, ◌^◌, Bool, true, false, if◌then◌else◌, List, [], ◌∷◌, ◌++◌, Option, None, Ok, Err, refl, sym, ap, subst, ◌∙◌, arith}
use Rattle.std.specs.Prelude.{IsTrue}
use Rattle.std.specs.BTreeMap.{BTreeMap, get}
use Rattle.std.proofs.lemmas.Bool.{le-ltb}
use Rattle.rad_base.specs.Order.{rid_cmp}
use Rattle.rad_base.specs.declared.names.Rid.{Rid}
use Rattle.gossip_wire.specs.Messages.{message_text}
use Rattle.gossip_wire.specs.declared.message.Message.{Message}
use Rattle.gossip_wire.specs.declared.message.Message.TheVariants.{Hello, Node, Inventory, Refs, Subscribe, Ping, Pong}
use Rattle.keyring.specs.Contents.{Contents}
use Rattle.announcements.specs.Announcements.{IsAnnouncement, is_accepted, is_early, kept_of, key_of, time_of}
use Rattle.announcements.specs.Held.{kept_in}
use Rattle.announcements.specs.Tables.{Follows, IsSame as IsSameTable, IsTable, Keeping, Keeps, answer, beside}
use Rattle.announcements.specs.declared.heard.Heard.{Heard}
use Rattle.announcements.specs.declared.heard.Heard.TheVariants.{Raised, Older, Same, Early, NotAccepted}
use Rattle.announcements.proofs.Hearing.{raised_surpasses}
use Rattle.ref_journal.specs.Holds.{CrashLeaves, Holds, LeavesDoubt, MendedMayHave}
use Rattle.ref_journal.specs.declared.faults.AppendFault.TheVariants as faults
use Rattle.ref_journal.specs.declared.journal.Journal.{Journal}
use Rattle.repo_entries.specs.Items.{Item, heard}
use Rattle.repo_entries.specs.declared.entry.Entry.{Entry}
use Rattle.repo_entries.specs.declared.entry.Entry.TheVariants as entries
use Rattle.repo_slice.specs.declared.keep_fault.KeepFault.{KeepFault}
use Rattle.repo_slice.specs.declared.keep_fault.KeepFault.TheVariants.{DiskFault, Full, Changed, NoMemory}
use Rattle.entry_bodies.specs.Bodies.{HasBody, heard_text}
use Rattle.legal_history.specs.Cores.{Core}
use Rattle.legal_history.specs.Histories.{Lawful, MayHear}
use Rattle.legal_history.specs.Replays.{messages_in}
use Rattle.object_store.specs.Entries.{missed_entry}
use Rattle.object_store.specs.Hearing.{HasHeard, IsHeardFault}
use Rattle.object_store.specs.Opens.{HasReplayedSo, HasReplayed}
use Rattle.object_store.specs.Repositories.{StandsKnown}
use Rattle.object_store.specs.Stores.{IsHearing, Moves, StandsFor, answered_by}
use Rattle.object_store.specs.declared.replayed.Replayed.{Replayed}
use Rattle.object_store.specs.declared.repository.Repository.{Repository}
use Rattle.object_store.specs.declared.store.Store.{Store}
use Rattle.object_store.proofs.Keys.{claimant_stays, replay_heard}
use Rattle.object_store.proofs.Moving.{entered, fault_left, nothing_done}
use Rattle.object_store.proofs.Standing.{stands_so}
use Rattle.object_store.proofs.Tables.{table_heard}
use Rattle.object_store.proofs.Taking.{took}

-- ---- what may be heard

-- what is raised was accepted and not early
raised_parts : (accepted early : Bool) (told : Heard) → (if accepted then (if early then Early else told) else NotAccepted) ≡ Raised → IsTrue accepted × (told ≡ Raised)
raised_parts true true told e = cc e
raised_parts true false told e = (refl, e)
raised_parts false early told e = cc e

raised_of : (accepted early : Bool) (told : Heard) → IsTrue accepted → early ≡ false → told ≡ Raised → (if accepted then (if early then Early else told) else NotAccepted) ≡ Raised
raised_of true true told a e t = cc e
raised_of true false told a e t = t
raised_of false early told a e t = cc a

-- what is raised may be heard
pub raised_may : (table : Keeping) (keyring : Contents) (now : ℕ) (items : List Item) (message : Message) → IsAnnouncement message → IsTable (messages_in items) table
    → answer table keyring now message ≡ Raised → MayHear keyring items message
raised_may table keyring now items message is kept raised =
    let parts = raised_parts (is_accepted keyring message) (is_early now message) (beside (table (key_of message)) (kept_of message)) raised in
    record { is = is; accepted = parts.0; greater = (raised_surpasses (messages_in items) table message kept).0 parts.1 }

-- what may be heard and is not early is raised
may_raise : (table : Keeping) (keyring : Contents) (now : ℕ) (items : List Item) (message : Message) → IsTable (messages_in items) table
    → time_of message ≤ now + 3600000 → MayHear keyring items message → answer table keyring now message ≡ Raised
may_raise table keyring now items message kept due may =
    raised_of (is_accepted keyring message) (is_early now message) (beside (table (key_of message)) (kept_of message)) may.accepted
    (le-ltb (now + 3600000) (time_of message) due) ((raised_surpasses (messages_in items) table message kept).1 may.greater)

-- a time has eight bytes
in_eight : (message : Message) → IsAnnouncement message → time_of message < 2 ^ 64
in_eight (Hello node) is = absurd is.announces
in_eight (Node node sig features time alias addresses) is = is.fits.1.when
in_eight (Inventory node sig rids time) is = is.fits.1.when
in_eight (Refs node sig rid remotes time) is = is.fits.1.when
in_eight (Subscribe filter from to) is = absurd is.announces
in_eight (Ping pong zeros) is = absurd is.announces
in_eight (Pong zeros) is = absurd is.announces

-- none is early at the last time
pub may_raise_last : (table : Keeping) (keyring : Contents) (items : List Item) (message : Message) → IsTable (messages_in items) table → MayHear keyring items message
    → answer table keyring 18446744073709551615 message ≡ Raised
may_raise_last table keyring items message kept may =
    let low = in_eight message may.is in
    may_raise table keyring 18446744073709551615 items message kept (omega (arith, low)) may

-- an announcement makes nothing of repositories
each_heard : (all : BTreeMap Rid Repository) (items : List Item) (message : Message) (caller : ℕ) → ((q : Rid) → StandsKnown (get rid_cmp all q) q items)
    → (q : Rid) → StandsKnown (get rid_cmp all q) q (items ++ heard message caller ∷ [])
each_heard all items message caller each q =
    stands_so (get rid_cmp all q) q items (items ++ heard message caller ∷ []) (replay_heard q items message caller) (claimant_stays q items (heard message caller) tt) (each q)

-- ---- one that was read

pub took_heard : (keyring : Contents) (old new : Replayed) (items : List Item) (message : Message) (entry : Entry) (told : Heard) → HasReplayed keyring old items → HasBody (heard message 0)
    → told ≡ Raised → told ≡ answer (kept_in old.table) keyring 18446744073709551615 message → Follows told message (kept_in old.table) (kept_in new.table)
    → entry ≡ entries.Heard (message_text message) 0 → new.history.entries.items ≡ old.history.entries.items ++ entry ∷ [] → new.repositories ≡ old.repositories → new.illegal ≡ None
    → HasReplayedSo keyring new new.illegal (items ++ heard message 0 ∷ [])
took_heard keyring old new items message entry told h body raised said follows en e r none =
    let may = raised_may (kept_in old.table) keyring 18446744073709551615 items message body.0 h.table (sym said ∙ raised) in
    took keyring old new items (heard message 0) entry body may en e
    (subst (λ (m : BTreeMap Rid Repository). (q : Rid) → StandsKnown (get rid_cmp m q) q (items ++ heard message 0 ∷ [])) (sym r) (each_heard old.repositories items message 0 h.each))
    (table_heard (kept_in old.table) (kept_in new.table) items message 0 may.greater
    (subst (λ (x : Heard). Follows x message (kept_in old.table) (kept_in new.table)) raised follows) h.table) none h

-- ---- one that is heard

-- the same is kept
pub same_kept : (old new : Keeping) → IsSameTable old new → new ≡ old
same_kept old new same = (λ i key. same key i)

-- an announcement was staged, or memory for that was refused
pub record Stages {D : Type 0} (old mid : Store D) : Type 0 where
  pub journal : mid.journal ≡ old.journal
  pub keyring : mid.keyring ≡ old.keyring
  pub repositories : mid.repositories ≡ old.repositories
  pub entries : mid.history.entries.items ≡ old.history.entries.items
  pub kept : IsSameTable (kept_in old.table) (kept_in mid.table)

module _ {D : Type 0} (reads : D → Option (List ℕ)) (images : D → List ℕ → Type 0) (moment : D → ℕ) (since : D → ℕ → List ℕ → Type 0) (now : (disk : D) (image : List ℕ) → since disk (moment disk) image → images disk image) (old mid : Store D) (core : Core) (message : Message) (clock caller : ℕ)
    (s : StandsFor old core.items) (g : Stages old mid) where
  -- nothing happened
  pub heard_nothing : Moves reads images moment since old mid core []
  heard_nothing =
      nothing_done reads images moment since now old mid core s g.keyring (same_kept (kept_in old.table) (kept_in mid.table) g.kept) g.entries g.journal
      (subst (λ (m : BTreeMap Rid Repository). (q : Rid) → StandsKnown (get rid_cmp m q) q core.items) (sym g.repositories) s.each)

  -- one that is not raised
  pub not_raised : (told : Heard) → (told ≡ Raised → ⊥) → told ≡ answered_by old clock message → IsHearing reads images moment since old mid core message clock caller (Ok told)
  not_raised Raised none said = absurd (none refl)
  not_raised Older none said = (sym said, heard_nothing)
  not_raised Same none said = (sym said, heard_nothing)
  not_raised Early none said = (sym said, heard_nothing)
  not_raised NotAccepted none said = (sym said, heard_nothing)

  module _ (new : Store D) (is : IsAnnouncement message) (raised : answered_by old clock message ≡ Raised) (k : new.keyring ≡ mid.keyring) (r : new.repositories ≡ mid.repositories)
      (entry : Entry) (body : List ℕ) (en : entry ≡ entries.Heard (message_text message) caller) (b : body ≡ heard_text message) where
    lawful : Lawful old.keyring core.items (heard message caller)
    lawful = raised_may (kept_in old.table) old.keyring clock core.items message is s.table raised

    each_stays : (q : Rid) → StandsKnown (get rid_cmp new.repositories q) q core.items
    each_stays = subst (λ (m : BTreeMap Rid Repository). (q : Rid) → StandsKnown (get rid_cmp m q) q core.items) (sym (r ∙ g.repositories)) s.each

    -- the journal held the same before
    held_first : (bodies : List (List ℕ)) (doubt : Option (List ℕ)) → Holds reads images old.journal bodies doubt → Holds reads images mid.journal bodies doubt
    held_first bodies doubt h = subst (λ (x : Journal D). Holds reads images x bodies doubt) (sym g.journal) h

    -- the moments were the same before
    timed_first : (P : List ℕ → List (List ℕ) → Option (List ℕ) → List ℕ → Type 0) → CrashLeaves reads images moment since mid.journal new.journal (P body)
        → CrashLeaves reads images moment since old.journal new.journal (P (heard_text message))
    timed_first P time =
        subst (λ (l : List ℕ). CrashLeaves reads images moment since old.journal new.journal (P l)) b
        (subst (λ (x : Journal D). CrashLeaves reads images moment since x new.journal (P body)) g.journal time)

    -- one that was written
    pub heard_entered : Keeps (key_of message) (kept_of message) (kept_in mid.table) (kept_in new.table) → HasHeard reads images moment since mid new entry body
        → IsHearing reads images moment since old new core message clock caller (Ok Raised)
    heard_entered keeps w = (
      raised,
      entered reads images moment since now old new core s (k ∙ g.keyring) (heard message caller) tt lawful
          (table_heard (kept_in old.table) (kept_in new.table) core.items message caller lawful.greater
          (subst (λ (t : Keeping). Keeps (key_of message) (kept_of message) t (kept_in new.table)) (same_kept (kept_in old.table) (kept_in mid.table) g.kept) keeps) s.table)
          (w.entries ∙ ap (λ (l : List Entry). l ++ entry ∷ []) g.entries ∙ ap (λ (x : Entry). old.history.entries.items ++ x ∷ []) en)
          (each_heard new.repositories core.items message caller each_stays)
          (λ bodies doubt h. subst (λ (l : List ℕ). Holds reads images new.journal (bodies ++ l ∷ []) None) b (w.holds bodies doubt (held_first bodies doubt h)))
          (timed_first (λ (l : List ℕ). MendedMayHave {T = Unit {0}} (Ok tt) l) w.time),
    )

    -- one that was not
    pub not_heard : (fault : KeepFault) → IsSameTable (kept_in mid.table) (kept_in new.table) → IsHeardFault reads images moment since mid new caller entry body fault
        → IsHearing reads images moment since old new core message clock caller (Err fault)
    not_heard DiskFault same w = (
      raised,
      fault_left reads images moment since now old new core s (k ∙ g.keyring) None caller (heard message caller) w.in_doubt tt lawful
          (same_kept (kept_in mid.table) (kept_in new.table) same ∙ same_kept (kept_in old.table) (kept_in mid.table) g.kept)
          (w.entries ∙ ap (λ (l : List Entry). l ++ missed_entry entry None caller w.in_doubt ∷ []) g.entries
          ∙ ap (λ (x : Entry). old.history.entries.items ++ missed_entry x None caller w.in_doubt ∷ []) en)
          each_stays
          (λ bodies doubt h.
          subst (λ (l : List ℕ). LeavesDoubt reads images bodies doubt l new.journal (faults.DiskFault w.in_doubt)) b (w.left bodies doubt (held_first bodies doubt h)))
          (timed_first (λ (l : List ℕ). MendedMayHave {T = Unit {0}} (Err (faults.DiskFault w.in_doubt)) l) w.time),
    )
    not_heard Full same w = (
      raised,
      nothing_done reads images moment since now old new core s (k ∙ g.keyring)
          (same_kept (kept_in mid.table) (kept_in new.table) same ∙ same_kept (kept_in old.table) (kept_in mid.table) g.kept) (w.1 ∙ g.entries) (w.0 ∙ g.journal) each_stays,
    )
    not_heard (Changed change) same w = absurd w
    not_heard NoMemory same w = absurd w
