-- Claims stay.
use Rattle.std.proofs.Common.{◌≡◌, ℕ, ◌≤◌, List, Option, None, Some, Result, Ok, Err, inl, inr, refl, sym, ap, ◌∙◌, arith}
use Rattle.std.specs.Prelude.{IfErr, OnOk}
use Rattle.std.specs.BTreeMap.{get}
use Rattle.rad_base.specs.Order.{rid_cmp}
use Rattle.rad_base.specs.declared.names.Rid.{Rid}
use Rattle.repo_entries.specs.declared.entry.Entry.{Entry}
use Rattle.repo_slice.specs.declared.keep_fault.KeepFault.{KeepFault}
use Rattle.repo_slice.specs.declared.keep_fault.KeepFault.TheVariants.{DiskFault, Full, Changed, NoMemory}
use Rattle.object_store.specs.Repositories.{IsAdmitted, IsClaimed, IsSame, claimant_at}
use Rattle.object_store.specs.Stores.{HasClaimed, KeepsClaims}
use Rattle.object_store.specs.Writes.{HasWritten, IsWriteFault}
use Rattle.object_store.specs.declared.repository.Repository.{Repository}
use Rattle.object_store.specs.declared.store.Store.{Store}
use Rattle.object_store.proofs.Keys.{same_or_other}

-- claims stay where who claimed each repository stays
by_each : {D : Type 0} (old new : Store D) (rid : Rid) → ((q : Rid) → (q ≡ rid → ⊥) → get rid_cmp new.repositories q ≡ get rid_cmp old.repositories q)
    → claimant_at (get rid_cmp new.repositories rid) ≡ claimant_at (get rid_cmp old.repositories rid) → KeepsClaims old new
by_each old new rid others same = λ q caller claimed. elim (same_or_other q rid) [
  | inl e ↦
      record {
        claimant =
            ap (λ (x : Rid). claimant_at (get rid_cmp new.repositories x)) e ∙ same ∙ ap (λ (x : Rid). claimant_at (get rid_cmp old.repositories x)) (sym e)
            ∙ claimed.claimant;
        some = claimed.some;
      }
  | inr (other, test) ↦ record { claimant = ap claimant_at (others q other) ∙ claimed.claimant; some = claimed.some }
]

same_claimant : (a b : Option Repository) → IsSame a b → claimant_at b ≡ claimant_at a
same_claimant None None s = refl
same_claimant (Some a) (Some b) s = s.2
same_claimant None (Some b) s = absurd s
same_claimant (Some a) None s = absurd s

admitted_claimant : (entry : Entry) (a b : Option Repository) → IsAdmitted entry a b → claimant_at b ≡ claimant_at a
admitted_claimant entry None None s = refl
admitted_claimant entry (Some a) (Some b) s = s.3
admitted_claimant entry None (Some b) s = absurd s
admitted_claimant entry (Some a) None s = absurd s

-- where it was prepared
pub claims_same : {D : Type 0} (old new : Store D) (rid : Rid) → ((q : Rid) → (q ≡ rid → ⊥) → get rid_cmp new.repositories q ≡ get rid_cmp old.repositories q)
    → IsSame (get rid_cmp old.repositories rid) (get rid_cmp new.repositories rid) → KeepsClaims old new
claims_same old new rid others same = by_each old new rid others (same_claimant (get rid_cmp old.repositories rid) (get rid_cmp new.repositories rid) same)

-- where it was judged
pub claims_equal : {D : Type 0} (old new : Store D) (rid : Rid) → ((q : Rid) → (q ≡ rid → ⊥) → get rid_cmp new.repositories q ≡ get rid_cmp old.repositories q)
    → get rid_cmp new.repositories rid ≡ get rid_cmp old.repositories rid → KeepsClaims old new
claims_equal old new rid others same = by_each old new rid others (ap claimant_at same)

-- where an entry was written or not
pub claims_written : {D : Type 0} (reads : D → Option (List ℕ)) (images : D → List ℕ → Type 0) (moment : D → ℕ) (since : D → ℕ → List ℕ → Type 0) (old new : Store D) (rid : Rid) (caller : ℕ) (entry : Entry) (body : List ℕ)
    (result : Result (Unit {0}) KeepFault) → ((q : Rid) → (q ≡ rid → ⊥) → get rid_cmp new.repositories q ≡ get rid_cmp old.repositories q)
    → OnOk result (HasWritten reads images moment since old new rid entry body) → IfErr result (IsWriteFault reads images moment since old new rid caller entry body) → KeepsClaims old new
claims_written reads images moment since old new rid caller entry body (Ok done) others w f =
    by_each old new rid others (admitted_claimant entry (get rid_cmp old.repositories rid) (get rid_cmp new.repositories rid) w.admitted)
claims_written reads images moment since old new rid caller entry body (Err DiskFault) others w f = claims_same old new rid others f.let_go.same
claims_written reads images moment since old new rid caller entry body (Err Full) others w f = claims_same old new rid others f.let_go.same
claims_written reads images moment since old new rid caller entry body (Err (Changed change)) others w f = absurd f
claims_written reads images moment since old new rid caller entry body (Err NoMemory) others w f = absurd f

-- one call behind another
pub claims_on : {D : Type 0} (a b c : Store D) → KeepsClaims a b → KeepsClaims b c → KeepsClaims a c
claims_on a b c first second = λ q caller claimed. second q caller (first q caller claimed)

-- a claim
claimed_claimant : (rid : Rid) (caller : ℕ) (a b : Option Repository) → IsClaimed rid caller a b → claimant_at b ≡ caller
claimed_claimant rid caller None (Some b) c = c.1
claimed_claimant rid caller (Some a) (Some b) c = c.1
claimed_claimant rid caller None None c = absurd c
claimed_claimant rid caller (Some a) None c = absurd c

pub is_claimed : {D : Type 0} (old new : Store D) (rid : Rid) (caller : ℕ) → 1 ≤ caller → IsClaimed rid caller (get rid_cmp old.repositories rid) (get rid_cmp new.repositories rid)
    → HasClaimed new rid caller
is_claimed old new rid caller some c =
    record { claimant = claimed_claimant rid caller (get rid_cmp old.repositories rid) (get rid_cmp new.repositories rid) c; some = some }

pub claims_claimed : {D : Type 0} (old new : Store D) (rid : Rid) → ((q : Rid) → (q ≡ rid → ⊥) → get rid_cmp new.repositories q ≡ get rid_cmp old.repositories q)
    → claimant_at (get rid_cmp old.repositories rid) ≡ 0 → KeepsClaims old new
claims_claimed old new rid others none = λ q caller claimed. elim (same_or_other q rid) [
  | inl e ↦
      let zero : caller ≡ 0 = sym claimed.claimant ∙ ap (λ (x : Rid). claimant_at (get rid_cmp old.repositories x)) e ∙ none in
      absurd (omega (arith, zero, claimed.some))
  | inr (other, test) ↦ record { claimant = ap claimant_at (others q other) ∙ claimed.claimant; some = claimed.some }
]
