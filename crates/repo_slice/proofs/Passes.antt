-- One turn of the passes over offered remotes.
use Rattle.std.proofs.Common.{◌≡◌, ℕ, suc, zero, ◌+◌, ◌-◌, ◌<◌, ◌≤◌, List, [], ◌∷◌, ◌++◌, length, take, drop, get_or, Ok, sym, ap, subst, inr, ◌∙◌, arith, length-append}
use Rattle.std.specs.Prelude.{slice_range}
use Rattle.std.proofs.Math.Seq.{drop-append_seam}
use Rattle.std.proofs.lemmas.List.{take_all, drop-append-le, take-append-le, length-drop}
use mathlib.Core.List.{IsPrefix}
use Rattle.rad_base.specs.declared.names.Nid.{Nid}
use Rattle.rad_base.specs.declared.names.Oid.{Oid}
use Rattle.commit_graph.specs.declared.answer.Closure.TheVariants.{Closed, Missing, BadObject}
use Rattle.commit_graph.specs.declared.root.Root.{Root}
use Rattle.commit_graph.specs.Closures.{IsClosed, IsClosure}
use Rattle.commit_graph.specs.Objects.{ObjectMap}
use Rattle.repo_slice.specs.declared.outcomes.Outcome.{Outcome}
use Rattle.repo_slice.specs.declared.outcomes.Outcome.TheVariants as outcomes
use Rattle.repo_slice.specs.declared.progress.Progress.{Progress}
use Rattle.repo_slice.specs.declared.progress.Progress.TheVariants.{Over, Waits}
use Rattle.repo_slice.specs.declared.wanting.Stage.{Stage}
use Rattle.repo_slice.specs.declared.wanting.Stage.TheVariants.{Sigs, Tips}
use Rattle.repo_slice.specs.Outcomes.{Case, IsOutcome, IsWhole}
use Rattle.repo_slice.specs.Parts.{IsLastOutcome}
use Rattle.repo_slice.specs.Rounds.{AreEarly, AreProgress, GetsThrough, IsEarlyProgress, IsOver, IsProgress, IsReach}
use Rattle.repo_slice.specs.Wanted.{IsWanted}

-- ---- ranges

-- a range is the same of a longer list
range_append : (xs ys : List Root) (from to : ℕ) → from ≤ to → to ≤ length xs
    → slice_range (xs ++ ys) from to ≡ slice_range xs from to
range_append xs ys from to le fits =
    let dropped : drop from (xs ++ ys) ≡ drop from xs ++ ys = drop-append-le from xs ys (omega arith) in
    let within : to - from ≤ length (drop from xs) = omega (arith, length-drop from xs) in
    ap (λ (l : List Root). take (to - from) l) dropped ∙ take-append-le (to - from) (drop from xs) ys within

-- what is added is the range behind what was there
pub range_new : (xs ys zs : List Root) → zs ≡ xs ++ ys → slice_range zs (length xs) (length zs) ≡ ys
range_new xs ys zs e =
    let dropped : drop (length xs) zs ≡ ys = ap (λ (l : List Root). drop (length xs) l) e ∙ drop-append_seam xs ys in
    let long : length zs ≡ length xs + length ys = ap length e ∙ length-append xs ys in
    ap (λ (l : List Root). take (length zs - length xs) l) dropped ∙ take_all (length zs - length xs) ys (omega arith)

-- ---- how far remotes have come

module _ (m : ObjectMap) (c : Case) (stage : Stage) where
  -- further roots change nothing
  pub progress_grows : (roots more : List Root) (p : Nid × Oid) (x : Progress) → IsPrefix roots more
      → IsProgress m c stage roots p x → IsProgress m c stage more p x
  progress_grows roots more p (Over outcome) begins h = h
  progress_grows roots more p (Waits from to) begins h =
      let same : slice_range more from to ≡ slice_range roots from to =
      ap (λ (l : List Root). slice_range l from to) (sym begins.1) ∙ range_append roots begins.0 from to h.0 h.1 in (
        h.0,
        omega (arith, h.1, ap length begins.1, length-append roots begins.0),
        subst (λ (l : List Root). GetsThrough m c stage p l) (sym same) h.2,
      )

  pub are_grow : (roots more : List Root) (pairs : List (Nid × Oid)) (found : List Progress) → IsPrefix roots more
      → AreProgress m c stage roots pairs found → AreProgress m c stage more pairs found
  are_grow roots more [] [] begins h = tt
  are_grow roots more [] (x ∷ found) begins h = absurd h
  are_grow roots more (p ∷ pairs) [] begins h = absurd h
  are_grow roots more (p ∷ pairs) (x ∷ found) begins h =
      (progress_grows roots more p x begins h.0, are_grow roots more pairs found begins h.1)

  -- one remote more
  pub are_push : (roots : List Root) (pairs : List (Nid × Oid)) (found : List Progress) (p : Nid × Oid) (x : Progress)
      → AreProgress m c stage roots pairs found → IsProgress m c stage roots p x
      → AreProgress m c stage roots (pairs ++ p ∷ []) (found ++ x ∷ [])
  are_push roots [] [] p x h is = (is, tt)
  are_push roots [] (y ∷ found) p x h is = absurd h
  are_push roots (q ∷ pairs) [] p x h is = absurd h
  are_push roots (q ∷ pairs) (y ∷ found) p x h is = (h.0, are_push roots pairs found p x h.1 is)

  -- one remote more, and its roots behind the others
  pub are_turn : (roots more : List Root) (pairs : List (Nid × Oid)) (found : List Progress) (p : Nid × Oid) (x : Progress) → IsPrefix roots more
      → AreProgress m c stage roots pairs found → IsProgress m c stage more p x
      → AreProgress m c stage more (pairs ++ p ∷ []) (found ++ x ∷ [])
  are_turn roots more pairs found p x begins h is = are_push more pairs found p x (are_grow roots more pairs found begins h) is

  -- that of one of them
  pub progress_at : (roots : List Root) (pairs : List (Nid × Oid)) (found : List Progress) (i : ℕ) (p : Nid × Oid) (x : Progress) → i < length pairs
      → AreProgress m c stage roots pairs found → IsProgress m c stage roots (get_or pairs i p) (get_or found i x)
  progress_at roots [] found i p x lt h = absurd (omega arith)
  progress_at roots (q ∷ pairs) [] i p x lt h = absurd h
  progress_at roots (q ∷ pairs) (y ∷ found) zero p x lt h = h.0
  progress_at roots (q ∷ pairs) (y ∷ found) (suc i) p x lt h = progress_at roots pairs found i p x (omega arith) h.1

-- what gets through a stage is asked for
pub through_is_wanted : (m : ObjectMap) (c : Case) (stage : Stage) (p : Nid × Oid) (roots : List Root) → GetsThrough m c stage p roots → IsWanted m c stage p.0 p.1
through_is_wanted m c Sigs p roots h = h.0
through_is_wanted m c Tips p roots h = (h.0, h.1)

-- what is over at the first stage is over at the second
pub over_later : (m : ObjectMap) (c : Case) (p : Nid × Oid) (outcome : Outcome) → IsOver m c Sigs p outcome → IsOver m c Tips p outcome
over_later m c p outcome h = (h.0, λ wanted. h.1 wanted.1.news)

-- ---- outcomes that depend on no count

pub early_push : (found : List Progress) (x : Progress) → AreEarly found → IsEarlyProgress x → AreEarly (found ++ x ∷ [])
early_push [] x h is = (is, tt)
early_push (y ∷ found) x h is = (h.0, early_push found x h.1 is)

pub early_at : (found : List Progress) (i : ℕ) (x : Progress) → i < length found → AreEarly found → IsEarlyProgress (get_or found i x)
early_at [] i x lt h = absurd (omega arith)
early_at (y ∷ found) zero x lt h = h.0
early_at (y ∷ found) (suc i) x lt h = early_at found i x (omega arith) h.1

-- ---- outcomes of what refs name

module _ (m : ObjectMap) (c : Case) (count : ℕ) (node : Nid) (commit : Oid) where
  whole : IsReach m c Tips (node, commit) (Ok Closed) → IsWhole m c node commit
  whole h = record {
    refs = h.1.0;
    later = h.1.1;
    closed = subst (λ (roots : List Root). IsClosed m roots) h.1.2 h.2;
  }

  pub missing_outcome : (oid : Oid) → IsReach m c Tips (node, commit) (Ok (Missing oid)) → IsOutcome m c count node commit (outcomes.Incomplete oid)
  missing_outcome oid h = (h.1.0, h.1.1, subst (λ (roots : List Root). IsClosure m roots (Missing oid)) h.1.2 h.2)

  pub bad_outcome : (oid : Oid) → IsReach m c Tips (node, commit) (Ok (BadObject oid)) → IsOutcome m c count node commit (outcomes.BadObject oid)
  bad_outcome oid h = inr (h.1.0, h.1.1, subst (λ (roots : List Root). IsClosure m roots (BadObject oid)) h.1.2 h.2)

  -- the outcome of a remote whose refs are closed
  pub last_outcome_is : (outcome : Outcome) → IsReach m c Tips (node, commit) (Ok Closed) → IsLastOutcome c count node outcome → IsOutcome m c count node commit outcome
  last_outcome_is outcomes.Crowded h is = (whole h, is)
  last_outcome_is outcomes.Advanced h is = (whole h, is)
  last_outcome_is other h is = absurd is

-- a remote that gets through a stage waits for roots that were put behind others
pub waits_behind : (m : ObjectMap) (c : Case) (stage : Stage) (p : Nid × Oid) (old more new : List Root) (x : Progress) → new ≡ old ++ more
    → x ≡ Waits (length old) (length new) → GetsThrough m c stage p more → IsProgress m c stage new p x
waits_behind m c stage p old more new x grown is through =
    let longer : length old ≤ length new = omega (arith, ap length grown, length-append old more) in
    let here : GetsThrough m c stage p (slice_range new (length old) (length new)) =
    subst (λ (l : List Root). GetsThrough m c stage p l) (sym (range_new old more new grown)) through in
    subst (λ (y : Progress). IsProgress m c stage new p y) (sym is) (longer, omega arith, here)
