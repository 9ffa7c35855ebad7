-- The verdict on the offer of a bundle, and what comes behind it.
use Rattle.std.proofs.Common.{◌≡◌, ℕ, List, [], ◌∷◌, inl, inr, refl, sym, subst}
use Rattle.std.specs.Prelude.{Result, Ok}
use Rattle.rad_base.specs.declared.names.Rid.{Rid}
use Rattle.rad_base.specs.declared.offer.Offer.{Offer}
use Rattle.repo_entries.specs.Items.{Item}
use Rattle.repo_entries.specs.declared.whole.Whole.{Whole}
use Rattle.repo_slice.specs.Keeps.{Constants, HasSlice, Held, HeldBehind, IsVerdictOn, Makes, StopsAtVerdict, StopsIn, item_of}
use Rattle.repo_slice.specs.declared.keep_fault.KeepFault.{KeepFault}
use Rattle.repo_slice.specs.declared.keep_fault.KeepFault.TheVariants as fault
use Rattle.repo_slice.specs.declared.scope.Scope.TheVariants.{All}
use Rattle.repo_slice.specs.declared.verdict.Judged.{Judged}
use Rattle.fetch_stages.specs.BundleJobs.{EndsDone, Enters, FinishesBy, StopsJudging}
use Rattle.fetch_stages.specs.Imports.{IsHeadOn, setting_of}
use Rattle.fetch_stages.specs.JobEnds.{end_at}
use Rattle.fetch_stages.specs.Jobs.{Passed, Reaches}
use Rattle.fetch_stages.specs.declared.job_end.ImportEnd.TheVariants as import
use Rattle.fetch_stages.specs.declared.job_end.JobEnd.{JobEnd}
use Rattle.fetch_stages.specs.declared.job_end.JobEnd.TheVariants as job
use Rattle.fetch_stages.proofs.Entering.{makes_along, stops_behind}
use Rattle.fetch_stages.proofs.Told.{verdict_on}

module _ {K O : Type 0} (made : K → O → List Item → Type 0) (constants : Constants) (rid : Rid) (end : ℕ) (a b : K) (on held : Held)
    (offer : Offer) (place : ℕ) (slice : HasSlice on.state on.objects held) where
  -- the verdict is entered
  pub enters : (verdict same : Result Judged Whole) → verdict ≡ same → IsVerdictOn constants held offer All verdict
      → Makes made a b (item_of rid constants.caller verdict ∷ []) → Enters made (setting_of constants rid) a b on offer same
  enters verdict same e is f =
      subst (λ (v : Result Judged Whole). Enters made (setting_of constants rid) a b on offer v) e
      (record { is = verdict_on constants on held offer All verdict slice is; made_is = f })

  -- the install was refused
  pub stops_judging : (why : KeepFault)
      → StopsAtVerdict made rid constants.caller end a b (IsVerdictOn constants held offer All) why
      → StopsJudging made (setting_of constants rid) end a b on offer place why
  stops_judging why (inl s) = ([], Passed place, inr (refl, refl), s)
  stops_judging why (inr x) = (
    item_of rid constants.caller (Ok x.0) ∷ [],
    Reaches on (Ok x.0) place,
    inl (record {
      verdict = Ok x.0;
      is = verdict_on constants on held offer All (Ok x.0) slice x.1;
      made = refl;
      reached = refl;
    }),
    x.2,
  )

-- the refusal is the end
pub finishes_refused : {K O : Type 0} (made : K → O → List Item → Type 0) (constants : Constants) (rid : Rid) (end : ℕ) (a b : K) (on : Held)
    (offer : Offer) (place : ℕ) (finally : Held) (rest : List ℕ) (at_end : Type 0) (why : KeepFault) (answer : JobEnd)
    → answer ≡ end_at why → StopsJudging made (setting_of constants rid) end a b on offer place why
    → FinishesBy made (setting_of constants rid) end a b on offer place finally rest at_end (import.Ended rid answer)
finishes_refused made constants rid end a b on offer place finally rest at_end fault.DiskFault answer e s = rw e (refl, s)
finishes_refused made constants rid end a b on offer place finally rest at_end fault.Full answer e s = rw e (refl, s)
finishes_refused made constants rid end a b on offer place finally rest at_end (fault.Changed change) answer e s = rw e (refl, s)
finishes_refused made constants rid end a b on offer place finally rest at_end fault.NoMemory answer e s = rw e (refl, s)

module _ {K O : Type 0} (made : K → O → List Item → Type 0) (constants : K → Constants) (end : K → ℕ) (held : K → Rid → Held) (rid : Rid)
    (a b c : K) (on : Held) (offer : Offer) (place : ℕ) (rest : List ℕ) (at_end : Type 0) (judged : Judged)
    (enter : Enters made (setting_of (constants a) rid) a b on offer (Ok judged)) (none : rest ≡ []) (ended : at_end)
    (left : HeldBehind on (Ok judged) (held b rid)) (same : constants b ≡ constants a) (slice : held c rid ≡ held b rid) where
  head_refused : (why : KeepFault) → StopsIn made rid (constants b).caller (end c) b c [] why
      → StopsJudging made (setting_of (constants a) rid) (end c) a c on offer place why
  head_refused why s = (
    item_of rid (constants a).caller (Ok judged) ∷ [],
    Reaches on (Ok judged) place,
    inl (record { verdict = Ok judged; is = enter.is; made = refl; reached = refl }),
    stops_behind made rid (constants a).caller (end c) a b c (item_of rid (constants a).caller (Ok judged) ∷ []) [] why enter.made_is
        (subst (λ (k : Constants). StopsIn made rid k.caller (end c) b c [] why) same s),
  )

  -- the head is asked of what was installed
  pub finishes_done : (answer : JobEnd) → EndsDone made constants end held rid judged b c answer
      → FinishesBy made (setting_of (constants a) rid) (end c) a c on offer place (held c rid) rest at_end (import.Ended rid answer)
  finishes_done (job.Done one head) d =
      let whole = subst (λ (h : Held). HeldBehind on (Ok judged) h) (sym slice) left in
      let all = makes_along made a b c (item_of rid (constants a).caller (Ok judged) ∷ []) [] enter.made_is d.1 in (
        refl,
        subst (λ (j : Judged). Enters made (setting_of (constants a) rid) a c on offer (Ok j)) (sym d.0)
            (record { is = enter.is; made_is = all }),
        none,
        ended,
        subst (λ (j : Judged). HeldBehind on (Ok j) (held c rid)) (sym d.0) whole,
        subst (λ (k : Constants). IsHeadOn k (held c rid) head) same d.2,
      )
  finishes_done (job.Refused why) d = absurd d
  finishes_done job.TooLong d = absurd d
  finishes_done job.DiskFault d = (refl, head_refused fault.DiskFault d)
  finishes_done job.Full d = (refl, head_refused fault.Full d)
  finishes_done (job.Changed change) d = (refl, head_refused (fault.Changed change) d)
  finishes_done job.NoMemory d = (refl, head_refused fault.NoMemory d)
