-- What a claim makes of a store.
use Rattle.std.proofs.Common.{◌≡◌, ℕ, ◌≤◌, Bool, true, false, if◌then◌else◌, List, [], ◌∷◌, ◌++◌, Option, None, Some, Err, inl, inr, refl, sym, ap, subst, ◌∙◌, arith}
use Rattle.std.specs.BTreeMap.{BTreeMap, get}
use Rattle.std.specs.List.{AllByRecursion}
use Rattle.rad_base.specs.Order.{rid_cmp}
use Rattle.rad_base.specs.declared.names.Rid.{Rid}
use Rattle.announcements.specs.Held.{kept_in}
use Rattle.keyring.specs.Contents.{Contents}
use Rattle.ref_journal.specs.Holds.{Holds}
use Rattle.ref_journal.specs.declared.journal.Journal.{Journal}
use Rattle.repo_entries.specs.Items.{Item, claim, heard, install, missed, put, refused}
use Rattle.repo_entries.specs.declared.entry.Entry.TheVariants.{Claim}
use Rattle.repo_slice.specs.Slices.{HasNothingStaged, objects_of, state_of}
use Rattle.legal_history.specs.Cores.{Core, claims}
use Rattle.legal_history.specs.Durable.{durable_part}
use Rattle.legal_history.specs.Histories.{Lawful, LegalFrom}
use Rattle.legal_history.specs.Replays.{Standing, claimant, is_same, state_in}
use Rattle.legal_history.proofs.Durables.{durable_claimed}
use Rattle.object_store.specs.Bodies.{bodies_of, body_in_doubt}
use Rattle.object_store.specs.Repositories.{IsCauseOf, IsClaimed, StandsKnown, claimant_at}
use Rattle.object_store.specs.Stores.{IsClaiming, Moves, StandsFor}
use Rattle.object_store.specs.declared.faults.ClaimFault.{ClaimFault}
use Rattle.object_store.specs.declared.faults.ClaimFault.TheVariants as faults
use Rattle.object_store.specs.declared.repository.Repository.{Repository}
use Rattle.object_store.specs.declared.store.Store.{Store}
use Rattle.object_store.proofs.Keys.{is_itself, replay_claim, same_or_other}
use Rattle.object_store.proofs.Moving.{stands_more, still}
use Rattle.object_store.proofs.Standing.{claimant_told, each_grown}
use Rattle.object_store.proofs.Tables.{table_more}

-- a claim has a caller
abbrev pub IsRealClaim : Item → Type 0
IsRealClaim (claim rid caller) = 1 ≤ caller
IsRealClaim (put rid batch caller) = Unit {0}
IsRealClaim (install rid id remotes caller) = Unit {0}
IsRealClaim (heard message caller) = Unit {0}
IsRealClaim (missed of left caller) = Unit {0}
IsRealClaim (refused rid why caller) = Unit {0}

-- so has each of a legal history
pub real_claims : (keyring : Contents) (before items : List Item) → LegalFrom keyring before items → AllByRecursion IsRealClaim items
real_claims keyring before [] l = tt
real_claims keyring before (claim rid caller ∷ items) l = (l.0.0, real_claims keyring (before ++ claim rid caller ∷ []) items l.1)
real_claims keyring before (put rid batch caller ∷ items) l = (tt, real_claims keyring (before ++ put rid batch caller ∷ []) items l.1)
real_claims keyring before (install rid id remotes caller ∷ items) l = (tt, real_claims keyring (before ++ install rid id remotes caller ∷ []) items l.1)
real_claims keyring before (heard message caller ∷ items) l = (tt, real_claims keyring (before ++ heard message caller ∷ []) items l.1)
real_claims keyring before (missed of left caller ∷ items) l = (tt, real_claims keyring (before ++ missed of left caller ∷ []) items l.1)
real_claims keyring before (refused rid why caller ∷ items) l = (tt, real_claims keyring (before ++ refused rid why caller ∷ []) items l.1)

-- by cases on a test: the first claim
first_claim : (b : Bool) (c rest now later : ℕ) → (rest ≡ 0 → later ≡ now) → 1 ≤ c → (if b then c else rest) ≡ 0 → (if b then c else later) ≡ now
first_claim true c rest now later f some e = absurd (omega (arith, some, e))
first_claim false c rest now later f some e = f e

-- who claims what nobody claimed
pub claimant_now : (rid : Rid) (items : List Item) (caller : ℕ) → AllByRecursion IsRealClaim items → claimant rid items ≡ 0 → claimant rid (items ++ claim rid caller ∷ []) ≡ caller
claimant_now rid [] caller real e = ap (λ (b : Bool). if b then caller else 0) (is_itself rid)
claimant_now rid (claim q c ∷ items) caller real e =
    first_claim (is_same rid q) c (claimant rid items) caller (claimant rid (items ++ claim rid caller ∷ [])) (λ f. claimant_now rid items caller real.1 f) real.0 e
claimant_now rid (put q b c ∷ items) caller real e = claimant_now rid items caller real.1 e
claimant_now rid (install q i r c ∷ items) caller real e = claimant_now rid items caller real.1 e
claimant_now rid (heard m c ∷ items) caller real e = claimant_now rid items caller real.1 e
claimant_now rid (missed q l c ∷ items) caller real e = claimant_now rid items caller real.1 e
claimant_now rid (refused q w c ∷ items) caller real e = claimant_now rid items caller real.1 e

-- and of another repository
pub claimant_other : (rid of : Rid) (items : List Item) (caller : ℕ) → is_same rid of ≡ false → claimant rid (items ++ claim of caller ∷ []) ≡ claimant rid items
claimant_other rid of [] caller other = ap (λ (b : Bool). if b then caller else 0) other
claimant_other rid of (claim q c ∷ items) caller other = ap (λ (n : ℕ). if is_same rid q then c else n) (claimant_other rid of items caller other)
claimant_other rid of (put q b c ∷ items) caller other = claimant_other rid of items caller other
claimant_other rid of (install q i r c ∷ items) caller other = claimant_other rid of items caller other
claimant_other rid of (heard m c ∷ items) caller other = claimant_other rid of items caller other
claimant_other rid of (missed q l c ∷ items) caller other = claimant_other rid of items caller other
claimant_other rid of (refused q w c ∷ items) caller other = claimant_other rid of items caller other

-- the repository that was claimed
stands_claimed : (a b : Option Repository) (rid : Rid) (items : List Item) (caller : ℕ) → AllByRecursion IsRealClaim items → claimant rid items ≡ 0
    → IsClaimed rid caller a b → StandsKnown a rid items → StandsKnown b rid (items ++ claim rid caller ∷ [])
stands_claimed None (Some b) rid items caller real none c h = record {
  objects = c.0.objects ∙ sym (ap (λ (s : Standing). s.objects) (replay_claim rid rid items caller ∙ h.0));
  state = c.0.state ∙ sym (ap (state_in rid) (replay_claim rid rid items caller ∙ h.0));
  idle = c.0.idle;
  claimed = c.1 ∙ sym (claimant_now rid items caller real none);
}
stands_claimed (Some a) (Some b) rid items caller real none c h = record {
  objects = ap objects_of c.0 ∙ h.objects ∙ sym (ap (λ (s : Standing). s.objects) (replay_claim rid rid items caller));
  state = ap state_of c.0 ∙ h.state ∙ sym (ap (state_in rid) (replay_claim rid rid items caller));
  idle = subst HasNothingStaged (sym c.0) h.idle;
  claimed = c.1 ∙ sym (claimant_now rid items caller real none);
}
stands_claimed None None rid items caller real none c h = absurd c
stands_claimed (Some a) None rid items caller real none c h = absurd c

-- a claim that is Ok
pub claim_ok : {D : Type 0} (reads : D → Option (List ℕ)) (images : D → List ℕ → Type 0) (moment : D → ℕ) (since : D → ℕ → List ℕ → Type 0) (now : (disk : D) (image : List ℕ) → since disk (moment disk) image → images disk image) (old new : Store D) (core : Core) (rid : Rid) (caller : ℕ) → 1 ≤ caller → StandsFor old core.items
    → new.keyring ≡ old.keyring → new.table ≡ old.table → new.journal ≡ old.journal → new.history.entries.items ≡ old.history.entries.items ++ Claim rid caller ∷ []
    → ((q : Rid) → (q ≡ rid → ⊥) → get rid_cmp new.repositories q ≡ get rid_cmp old.repositories q) → claimant_at (get rid_cmp old.repositories rid) ≡ 0
    → IsClaimed rid caller (get rid_cmp old.repositories rid) (get rid_cmp new.repositories rid) → Moves reads images moment since old new core (claims rid caller ∷ [])
claim_ok reads images moment since now old new core rid caller some s k t j e others unclaimed claimed =
    let items = core.items ++ claim rid caller ∷ [] in
    let none : claimant rid core.items ≡ 0 = sym (claimant_told (get rid_cmp old.repositories rid) rid core.items (s.each rid)) ∙ unclaimed in
    let lawful : Lawful old.keyring core.items (claim rid caller) = (some, none) in
    let real = real_claims old.keyring [] core.items s.legal in
    let next : Core = record { items = items; doubt = core.doubt } in
    record {
      next = next;
      runs = (next, (lawful, refl), refl);
      stands = stands_more old new core.items (claim rid caller) s lawful k
          (table_more (kept_in old.table) (kept_in new.table) core.items (claim rid caller) refl (ap kept_in t) s.table) e
          (each_grown old.repositories new.repositories rid core.items (claim rid caller) s.each others
          (λ q test. (replay_claim q rid core.items caller, claimant_other q rid core.items caller test))
          (stands_claimed (get rid_cmp old.repositories rid) (get rid_cmp new.repositories rid) rid core.items caller real none claimed (s.each rid)));
      disk = λ h. subst (λ (l : List Item). Holds reads images new.journal (bodies_of l) (body_in_doubt core.doubt)) (sym (durable_claimed core.items rid caller))
          (subst (λ (x : Journal _). Holds reads images x (bodies_of (durable_part core.items)) (body_in_doubt core.doubt)) (sym j) h);
      time = still reads images moment since now old new core s k (claims rid caller ∷ []) j;
    }

-- nothing was claimed
pub each_still : (a b : BTreeMap Rid Repository) (rid : Rid) (items : List Item) → ((q : Rid) → StandsKnown (get rid_cmp a q) q items)
    → ((q : Rid) → (q ≡ rid → ⊥) → get rid_cmp b q ≡ get rid_cmp a q) → get rid_cmp b rid ≡ get rid_cmp a rid
    → (q : Rid) → StandsKnown (get rid_cmp b q) q items
each_still a b rid items h others same q = elim (same_or_other q rid) [
  | inl e ↦
      subst (λ (x : Rid). StandsKnown (get rid_cmp b x) x items) (sym e) (subst (λ (r : Option Repository). StandsKnown r rid items) (sym same) (h rid))
  | inr (other, test) ↦ subst (λ (r : Option Repository). StandsKnown r q items) (sym (others q other)) (h q)
]

-- a claim that is refused
pub claim_refused : {D : Type 0} (reads : D → Option (List ℕ)) (images : D → List ℕ → Type 0) (moment : D → ℕ) (since : D → ℕ → List ℕ → Type 0) (now : (disk : D) (image : List ℕ) → since disk (moment disk) image → images disk image) (old new : Store D) (core : Core) (rid : Rid) (caller : ℕ) (fault : ClaimFault) → StandsFor old core.items
    → Moves reads images moment since old new core [] → IsCauseOf (claimant_at (get rid_cmp old.repositories rid)) fault → IsClaiming reads images moment since old new core rid caller (Err fault)
claim_refused reads images moment since now old new core rid caller (faults.Claimed other) s m cause =
    (m, sym (claimant_told (get rid_cmp old.repositories rid) rid core.items (s.each rid)) ∙ cause.0, cause.1)
claim_refused reads images moment since now old new core rid caller faults.NoMemory s m cause = m
