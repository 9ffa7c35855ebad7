-- The import of a bundle, by its name, its sections and its verdict.
use Rattle.std.proofs.Common.{◌≡◌, ◌⊎◌, ◌<◌, ◌+◌, ◌^◌, ℕ, List, [], ◌∷◌, ◌++◌, Bool, if◌then◌else◌, Option, length, inl, inr, refl, sym, ap, ◌∙◌, subst, arith, append_assoc}
use Rattle.std.specs.Prelude.{IsTrue, Result, Ok, Err}
use Rattle.std.specs.Io.KnownBytes.{IsAtEnd}
use Rattle.std.proofs.lemmas.List.{append-nil, length-append}
use Rattle.std.proofs.lemmas.Bool.{eq-eqb, ne_eqb}
use Rattle.rad_base.specs.Faults.{Rose}
use Rattle.rad_base.specs.Sizes.{IsOid}
use Rattle.rad_base.specs.declared.names.Rid.{Rid}
use Rattle.rad_base.specs.declared.offer.Offer.{Offer}
use Rattle.commit_graph.specs.Objects.{ObjectMap}
use Rattle.repo_entries.specs.Items.{Item}
use Rattle.repo_entries.specs.declared.whole.Whole.{Whole}
use Rattle.repo_slice.specs.Keeps.{Constants, Held, LeavesOthers, Makes, StopsIn, item_of}
use Rattle.repo_slice.specs.declared.keep_fault.KeepFault.{KeepFault}
use Rattle.repo_slice.specs.declared.keep_fault.KeepFault.TheVariants as fault
use Rattle.repo_slice.specs.declared.verdict.Judged.{Judged}
use Rattle.fetch_wire.specs.Judging.{further}
use Rattle.fetch_stages.specs.BundleJobs.{Enters, FinishesBy, HasStopCause, IsBadAt, PutsJob, StopsJob, StopsJudging, end_of}
use Rattle.fetch_stages.specs.Imports.{Bad, Came, EndsBy, Imports, Inside, IsEndOf, IsImportCause, IsNamedBy, IsWhole, KeepsUnnamed, Verdict, came_of, setting_of}
use Rattle.fetch_stages.specs.Jobs.{IsJob, JobStop, Reaches, Runs}
use Rattle.fetch_stages.specs.Pieces.{Fills, Uses}
use Rattle.fetch_stages.specs.declared.bundle_stop.BundleStop.{BundleStop}
use Rattle.fetch_stages.specs.declared.bundle_stop.BundleStop.TheVariants as stop
use Rattle.fetch_stages.specs.declared.job_end.ImportEnd.{ImportEnd}
use Rattle.fetch_stages.specs.declared.job_end.ImportEnd.TheVariants as import
use Rattle.fetch_stages.specs.declared.job_end.JobEnd.TheVariants as job
use Rattle.fetch_stages.proofs.Entering.{makes_along, makes_none, stops_behind}
use Rattle.fetch_stages.proofs.Windows.{uses_all, uses_along, uses_filled, uses_none}

-- the bytes begin with the name
named : (rid : Rid) (rest : List ℕ) → IsOid rid.0 → IsNamedBy (rid.0.0 ++ rest) rid
named rid rest name = (name, (rest, refl))

-- the other repositories stay
pub unnamed : {K : Type 0} (constants : K → Constants) (loan faults : K → ℕ) (held : K → Rid → Held) (rid : Rid) (a c : K) (bytes : List ℕ)
    → IsNamedBy bytes rid → ((other : Rid) → IsTrue ((constants a).stands other)) → LeavesOthers constants loan faults held rid a c
    → KeepsUnnamed bytes (held a) (held c)
unnamed constants loan faults held rid a c bytes name stands leaves other bars =
    leaves.others other (stands other) (λ e. bars (subst (λ (r : Rid). IsNamedBy bytes r) (sym e) name))

module _ {K O : Type 0} (made : K → O → List Item → Type 0) (constants : Constants) (end : ℕ) (held : K → Rid → Held) (rid : Rid) (a c : K)
    (l l' : Option (List ℕ)) (name : IsOid rid.0) where
  -- what an import is, by the job of its bytes
  imports_by : (result : ImportEnd) (rest unread : List ℕ) (entries : List Item) (found : JobStop)
      → Uses l l' [] (rid.0.0 ++ rest) unread → IsJob (setting_of constants rid) (held a rid) rest entries found
      → (IsWhole result → unread ≡ [])
      → EndsBy made constants end a c (held c) (IsAtEnd l') entries (came_of rid (length (rid.0.0 ++ rest)) found) result
      → IsEndOf (rid.0.0 ++ rest) result → KeepsUnnamed (rid.0.0 ++ rest) (held a) (held c)
      → Imports made constants end (held a) (held c) a c l l' result
  imports_by result rest unread entries found u j whole ends is others = record {
    taken = u.taken;
    consumed = u.consumed;
    bytes = rid.0.0 ++ rest;
    unread = unread;
    text = u.text;
    whole = whole;
    entries = entries;
    came = came_of rid (length (rid.0.0 ++ rest)) found;
    job = inr (record { rid = rid; name = name; rest = rest; text = refl; stop = found; job = j; came_is = refl });
    ends = ends;
    named = is;
    others = others;
  }

came_bad : (rid : Rid) (count place size limit : ℕ) (at_end : Type 0) (found : JobStop) → IsBadAt place size limit at_end found
    → (came_of rid count found ≡ Bad (further 20 place)) ⊎ ((came_of rid count found ≡ Inside (further 20 place)) × at_end)
came_bad rid count place size limit at_end found (inl x) = inr (ap (λ (f : JobStop). came_of rid count f) x.0, x.2)
came_bad rid count place size limit at_end found (inr x) = inl (ap (λ (f : JobStop). came_of rid count f) x.1)

-- a job whose sections are not all put
pub imports_stopped : {K O : Type 0} (made : K → O → List Item → Type 0) (constants : Constants) (end : ℕ) (held : K → Rid → Held) (rid : Rid)
    (a c : K) (l l' l'' : Option (List ℕ)) (between : List ℕ) (why : BundleStop) (result : ImportEnd) → IsOid rid.0
    → Uses l l' [] rid.0.0 between → StopsJob made (setting_of constants rid) (held a rid) end a c l' l'' between why
    → ((bytes : List ℕ) → IsNamedBy bytes rid → KeepsUnnamed bytes (held a) (held c)) → result ≡ end_of rid why
    → Imports made constants end (held a) (held c) a c l l'' result
imports_stopped made constants end held rid a c l l' l'' between stop.ReadFault result name u j others e =
    rw e (imports_by made constants end held rid a c l l'' name import.ReadFault j.bytes j.unread j.entries j.found
    (uses_along l l' l'' [] rid.0.0 between j.bytes j.unread u j.uses) j.job (λ h. absurd h) j.ends tt
    (others (rid.0.0 ++ j.bytes) (named rid j.bytes name)))
imports_stopped made constants end held rid a c l l' l'' between (stop.Bad place) result name u j others e =
    rw e (imports_by made constants end held rid a c l l'' name (import.InputBad (further 20 place)) j.bytes j.unread j.entries j.found
    (uses_along l l' l'' [] rid.0.0 between j.bytes j.unread u j.uses) j.job (λ h. j.ends.2)
    (came_bad rid (length (rid.0.0 ++ j.bytes)) place (length j.bytes) (2 ^ 30) (IsAtEnd l'') j.found j.ends.1, j.ends.0) tt
    (others (rid.0.0 ++ j.bytes) (named rid j.bytes name)))
imports_stopped made constants end held rid a c l l' l'' between stop.TooLong result name u j others e =
    rw e (imports_by made constants end held rid a c l l'' name (import.Ended rid job.TooLong) j.bytes j.unread j.entries j.found
    (uses_along l l' l'' [] rid.0.0 between j.bytes j.unread u j.uses) j.job (λ h. j.ends.2)
    (ap (λ (f : JobStop). came_of rid (length (rid.0.0 ++ j.bytes)) f) j.ends.1, j.ends.0) (named rid j.bytes name)
    (others (rid.0.0 ++ j.bytes) (named rid j.bytes name)))
imports_stopped made constants end held rid a c l l' l'' between (stop.Keep fault.DiskFault) result name u j others e =
    rw e (imports_by made constants end held rid a c l l'' name (import.Ended rid job.DiskFault) j.bytes j.unread j.entries j.found
    (uses_along l l' l'' [] rid.0.0 between j.bytes j.unread u j.uses) j.job (λ h. absurd h) j.ends (named rid j.bytes name)
    (others (rid.0.0 ++ j.bytes) (named rid j.bytes name)))
imports_stopped made constants end held rid a c l l' l'' between (stop.Keep fault.Full) result name u j others e =
    rw e (imports_by made constants end held rid a c l l'' name (import.Ended rid job.Full) j.bytes j.unread j.entries j.found
    (uses_along l l' l'' [] rid.0.0 between j.bytes j.unread u j.uses) j.job (λ h. absurd h) j.ends (named rid j.bytes name)
    (others (rid.0.0 ++ j.bytes) (named rid j.bytes name)))
imports_stopped made constants end held rid a c l l' l'' between (stop.Keep (fault.Changed change)) result name u j others e =
    rw e (imports_by made constants end held rid a c l l'' name (import.Ended rid (job.Changed change)) j.bytes j.unread j.entries j.found
    (uses_along l l' l'' [] rid.0.0 between j.bytes j.unread u j.uses) j.job (λ h. absurd h) j.ends (named rid j.bytes name)
    (others (rid.0.0 ++ j.bytes) (named rid j.bytes name)))
imports_stopped made constants end held rid a c l l' l'' between (stop.Keep fault.NoMemory) result name u j others e =
    rw e (imports_by made constants end held rid a c l l'' name (import.Ended rid job.NoMemory) j.bytes j.unread j.entries j.found
    (uses_along l l' l'' [] rid.0.0 between j.bytes j.unread u j.uses) j.job (λ h. absurd h) j.ends (named rid j.bytes name)
    (others (rid.0.0 ++ j.bytes) (named rid j.bytes name)))

-- the bundle has no more bytes than its sections, or it has
pub came_whole : (rid : Rid) (count place : ℕ) (on : Held) (verdict : Result Judged Whole) → count ≡ 20 + place
    → came_of rid count (Reaches on verdict place) ≡ Verdict rid on verdict
came_whole rid count place on verdict e =
    ap (λ (t : Bool). if t then Verdict rid on verdict else Bad (20 + place)) (eq-eqb count (20 + place) e)

pub came_behind : (rid : Rid) (count place : ℕ) (on : Held) (verdict : Result Judged Whole) → 20 + place < count
    → came_of rid count (Reaches on verdict place) ≡ Bad (20 + place)
came_behind rid count place on verdict more =
    ap (λ (t : Bool). if t then Verdict rid on verdict else Bad (20 + place)) (ne_eqb count (20 + place) (λ e. omega (arith, more, e)))

module _ {K O : Type 0} (made : K → O → List Item → Type 0) (constants : Constants) (end : ℕ) (held : K → Rid → Held) (rid : Rid)
    (a b c : K) (offer : Offer) (place : ℕ) (l l' l'' l''' : Option (List ℕ)) (between after rest : List ℕ) (name : IsOid rid.0)
    (u : Uses l l' [] rid.0.0 between)
    (p : PutsJob made held (setting_of constants rid) (held a rid) a b offer place l' l'' between after)
    (f : Fills l'' l''' after rest)
    (others : (bytes : List ℕ) → IsNamedBy bytes rid → KeepsUnnamed bytes (held a) (held c)) where
  all_used : Uses l l''' [] (rid.0.0 ++ p.bytes) rest
  all_used =
      uses_filled l l'' l''' [] (rid.0.0 ++ p.bytes) after rest
      (uses_along l l' l'' [] rid.0.0 between p.bytes after u p.uses) f

  -- the job of the sections, with what comes last
  job_behind : (last : List Item) (found : JobStop) → Runs (setting_of constants rid) offer [] p.on place [] last found
      → IsJob (setting_of constants rid) (held a rid) p.bytes (p.entries ++ last) found
  job_behind last found r =
      subst (λ (k : List ℕ). IsJob (setting_of constants rid) (held a rid) k (p.entries ++ last) found) (append-nil p.bytes)
      (p.runs [] last found r)

  judges : (verdict : Result Judged Whole) → Enters made (setting_of constants rid) b c p.on offer verdict
      → Runs (setting_of constants rid) offer [] p.on place [] (item_of rid constants.caller verdict ∷ []) (Reaches p.on verdict place)
  judges verdict e = inl (record { verdict = verdict; is = e.is; made = refl; reached = refl })

  all_made : (verdict : Result Judged Whole) → Enters made (setting_of constants rid) b c p.on offer verdict
      → Makes made a c (p.entries ++ item_of rid constants.caller verdict ∷ [])
  all_made verdict e = makes_along made a b c p.entries (item_of rid constants.caller verdict ∷ []) p.entered e.made_is

  counted : length (rid.0.0 ++ p.bytes) ≡ 20 + place
  counted =
      let size = length-append rid.0.0 p.bytes in
      let twenty = name.size in
      let count = p.count in
      omega (arith, size, twenty, count)

  refused_judging : (why : KeepFault) (result : ImportEnd) → StopsJudging made (setting_of constants rid) end b c p.on offer place why
      → ((entries : List Item) (came : Came) → StopsIn made rid constants.caller end a c entries why
      → EndsBy made constants end a c (held c) (IsAtEnd l''') entries came result)
      → (IsWhole result → ⊥) → IsEndOf (rid.0.0 ++ p.bytes) result
      → Imports made constants end (held a) (held c) a c l l''' result
  refused_judging why result s ends whole is =
      imports_by made constants end held rid a c l l''' name result p.bytes rest (p.entries ++ s.0) s.1 all_used
      (job_behind s.0 s.1 s.2) (λ h. absurd (whole h))
      (ends (p.entries ++ s.0) (came_of rid (length (rid.0.0 ++ p.bytes)) s.1)
      (stops_behind made rid constants.caller end a b c p.entries s.0 why p.entered s.3))
      is (others (rid.0.0 ++ p.bytes) (named rid p.bytes name))

  ended_named : (of : Rid) → of ≡ rid → IsNamedBy (rid.0.0 ++ p.bytes) of
  ended_named of e = subst (λ (r : Rid). IsNamedBy (rid.0.0 ++ p.bytes) r) (sym e) (named rid p.bytes name)

  -- the import of a bundle whose sections are put
  pub imports_finished : (result : ImportEnd)
      → FinishesBy made (setting_of constants rid) end b c p.on offer place (held c rid) rest (IsAtEnd l''') result
      → Imports made constants end (held a) (held c) a c l l''' result
  imports_finished (import.Ended of (job.Done judged head)) x =
      let verdict : Result Judged Whole = Ok judged in
      subst (λ (r : Rid). Imports made constants end (held a) (held c) a c l l''' (import.Ended r (job.Done judged head))) (sym x.0)
      (imports_by made constants end held rid a c l l''' name (import.Ended rid (job.Done judged head)) p.bytes rest
      (p.entries ++ item_of rid constants.caller verdict ∷ []) (Reaches p.on verdict place) all_used
      (job_behind (item_of rid constants.caller verdict ∷ []) (Reaches p.on verdict place) (judges verdict x.1)) (λ h. x.2)
      (p.on, came_whole rid (length (rid.0.0 ++ p.bytes)) place p.on verdict counted, x.3, all_made verdict x.1, x.4, x.5)
      (named rid p.bytes name) (others (rid.0.0 ++ p.bytes) (named rid p.bytes name)))
  imports_finished (import.Ended of (job.Refused why)) x =
      let verdict : Result Judged Whole = Err why in
      subst (λ (r : Rid). Imports made constants end (held a) (held c) a c l l''' (import.Ended r (job.Refused why))) (sym x.0)
      (imports_by made constants end held rid a c l l''' name (import.Ended rid (job.Refused why)) p.bytes rest
      (p.entries ++ item_of rid constants.caller verdict ∷ []) (Reaches p.on verdict place) all_used
      (job_behind (item_of rid constants.caller verdict ∷ []) (Reaches p.on verdict place) (judges verdict x.1)) (λ h. x.2)
      (p.on, came_whole rid (length (rid.0.0 ++ p.bytes)) place p.on verdict counted, x.3, all_made verdict x.1, x.4)
      (named rid p.bytes name) (others (rid.0.0 ++ p.bytes) (named rid p.bytes name)))
  imports_finished (import.Ended of job.TooLong) x = absurd x
  imports_finished (import.Ended of job.DiskFault) x =
      subst (λ (r : Rid). Imports made constants end (held a) (held c) a c l l''' (import.Ended r job.DiskFault)) (sym x.0)
      (refused_judging fault.DiskFault (import.Ended rid job.DiskFault) x.1 (λ entries came s. s) (λ h. h) (named rid p.bytes name))
  imports_finished (import.Ended of job.Full) x =
      subst (λ (r : Rid). Imports made constants end (held a) (held c) a c l l''' (import.Ended r job.Full)) (sym x.0)
      (refused_judging fault.Full (import.Ended rid job.Full) x.1 (λ entries came s. s) (λ h. h) (named rid p.bytes name))
  imports_finished (import.Ended of (job.Changed change)) x =
      subst (λ (r : Rid). Imports made constants end (held a) (held c) a c l l''' (import.Ended r (job.Changed change))) (sym x.0)
      (refused_judging (fault.Changed change) (import.Ended rid (job.Changed change)) x.1 (λ entries came s. s) (λ h. h) (named rid p.bytes name))
  imports_finished (import.Ended of job.NoMemory) x =
      subst (λ (r : Rid). Imports made constants end (held a) (held c) a c l l''' (import.Ended r job.NoMemory)) (sym x.0)
      (refused_judging fault.NoMemory (import.Ended rid job.NoMemory) x.1 (λ entries came s. s) (λ h. h) (named rid p.bytes name))
  imports_finished import.ReadFault x =
      imports_by made constants end held rid a c l l''' name import.ReadFault p.bytes rest
      (p.entries ++ item_of rid constants.caller x.0 ∷ []) (Reaches p.on x.0 place) all_used
      (job_behind (item_of rid constants.caller x.0 ∷ []) (Reaches p.on x.0 place) (judges x.0 x.1)) (λ h. absurd h)
      (all_made x.0 x.1) tt (others (rid.0.0 ++ p.bytes) (named rid p.bytes name))
  imports_finished (import.InputBad begins) x =
      let size = length-append (rid.0.0 ++ p.bytes) rest in
      let some = x.3 in
      let all = append_assoc rid.0.0 p.bytes rest in
      let more : 20 + place < length (rid.0.0 ++ (p.bytes ++ rest)) =
      subst (λ (k : List ℕ). 20 + place < length k) all (let count = counted in omega (arith, size, count, some)) in
      imports_by made constants end held rid a c l l''' name (import.InputBad begins) (p.bytes ++ rest) []
      (p.entries ++ item_of rid constants.caller x.0 ∷ []) (Reaches p.on x.0 place)
      (subst (λ (k : List ℕ). Uses l l''' [] k []) all (uses_all l l''' [] (rid.0.0 ++ p.bytes) rest all_used))
      (p.runs rest (item_of rid constants.caller x.0 ∷ []) (Reaches p.on x.0 place) (judges x.0 x.1)) (λ h. refl)
      (inl (came_behind rid (length (rid.0.0 ++ (p.bytes ++ rest))) place p.on x.0 more ∙ ap (λ (n : ℕ). Bad n) (sym x.2)), all_made x.0 x.1)
      tt (others (rid.0.0 ++ (p.bytes ++ rest)) (named rid (p.bytes ++ rest) name))
  imports_finished import.NoMemory x = absurd x

-- bytes that are no name
pub imports_unnamed : {K O : Type 0} (made : K → O → List Item → Type 0) (constants : Constants) (end : ℕ) (held : K → Rid → Held) (k : K)
    (l l' : Option (List ℕ)) (used unread : List ℕ) (result : ImportEnd) → Uses l l' [] used unread → length used < 20
    → (IsWhole result → unread ≡ []) → EndsBy made constants end k k (held k) (IsAtEnd l') [] (Inside 0) result
    → IsEndOf used result → Imports made constants end (held k) (held k) k k l l' result
imports_unnamed made constants end held k l l' used unread result u few whole ends is = record {
  taken = u.taken;
  consumed = u.consumed;
  bytes = used;
  unread = unread;
  text = u.text;
  whole = whole;
  entries = [];
  came = Inside 0;
  job = inl (few, refl, refl);
  ends = ends;
  named = is;
  others = λ other bars. refl;
}

-- no byte is taken
pub imports_nothing : {K O : Type 0} (made : K → O → List Item → Type 0) (constants : Constants) (end : ℕ) (held : K → Rid → Held) (k : K)
    (l : Option (List ℕ)) → Imports made constants end (held k) (held k) k k l l import.NoMemory
imports_nothing made constants end held k l =
    imports_unnamed made constants end held k l l [] [] import.NoMemory (uses_none l []) (omega arith) (λ h. absurd h)
    (makes_none made k) tt

-- a fault that stops a job has its cause
pub cause_stopped : (rid : Rid) (input early : Type 0) (before now : ℕ) (objects : Option ObjectMap) (held : Rid → Held) (why : BundleStop)
    (result : ImportEnd) → (early → input) → HasStopCause early before now objects why → result ≡ end_of rid why
    → IsImportCause input (Rose before now) held result
cause_stopped rid input early before now objects held stop.ReadFault result f h e = rw e (f h)
cause_stopped rid input early before now objects held (stop.Bad place) result f h e = rw e tt
cause_stopped rid input early before now objects held stop.TooLong result f h e = rw e tt
cause_stopped rid input early before now objects held (stop.Keep fault.DiskFault) result f h e = rw e h.0
cause_stopped rid input early before now objects held (stop.Keep fault.Full) result f h e = rw e tt
cause_stopped rid input early before now objects held (stop.Keep (fault.Changed change)) result f h e = absurd h.1
cause_stopped rid input early before now objects held (stop.Keep fault.NoMemory) result f h e = rw e tt
