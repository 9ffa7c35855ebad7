use Rattle.std.proofs.Common.{◌≡◌, ℕ, ◌+◌, ◌++◌, ◌∷◌, [], List, length, get_or, take, sym, ap, subst, ◌∙◌, arith, length-append}
use Rattle.std.proofs.lemmas.List.{take_more}
use Rattle.std.proofs.lemmas.Option.{slice_get-get_or}
use Rattle.rad_base.specs.declared.names.Nid.{Nid}
use Rattle.rad_base.specs.declared.names.Oid.{Oid}
use Rattle.rad_base.specs.Order.{IsRising}
use Rattle.repo_slice.specs.declared.wanting.Stage.TheVariants.{Tips}
use Rattle.repo_slice.specs.Outcomes.{IsOutcome, count_after, if_advanced}
use Rattle.repo_slice.specs.Parts.{case_in}
use Rattle.repo_slice.proofs.Passes.{progress_at}
use Rattle.repo_slice.proofs.Turns.{advanced_above, advanced_push, count_push, outcomes_push}
use Rattle.repo_slice.proofs.judging.conclude.Goals as goal

no_remote : Nid × Oid
no_remote = (record { 0 = [] }, record { 0 = [] })

pub note-requires-clause-above : goal.note-requires-clause-above
unfolding no_remote
note-requires-clause-above c =
    let pairs = c.as_slice-pairs.result.now in
    let i = c.loop-i.i in
    let rising : IsRising pairs = rw c.as_slice-pairs.ensures.items c.as_slice-pairs.ensures.rising in
    advanced_above pairs c.loop-i.outcomes c.loop-i.advanced i (get_or pairs i no_remote).0 (get_or pairs i no_remote).1 rising
    (slice_get-get_or pairs i no_remote (omega arith)) c.loop-i.invariant.advanced

pub loop-i-preserved : goal.loop-i-preserved
unfolding no_remote
loop-i-preserved c =
    let pairs = c.as_slice-pairs.result.now in
    let i = c.loop-i.i in
    let case = case_in c.args.terms.now in
    let stored = c.args.terms.now.state.now.remotes in
    let p = get_or pairs i no_remote in
    let outcome = c.outcome_of-outcome.result in
    let more : take (i + 1) pairs ≡ take i pairs ++ p ∷ [] = take_more pairs i no_remote (omega arith) in
    let added : c.push.new.self ≡ c.loop-i.outcomes ++ (p.0, outcome) ∷ [] = c.in_ok-push.ensures.ok in
    let inv = c.loop-i.invariant in
    record {
      told = λ m roots answered all.
          let reach = c.reach_of.ensures.told m case Tips roots p answered (progress_at m case Tips roots pairs c.args.found.now i no_remote _ c.loop-i-test.true all) in
          rw (more, added)
          (outcomes_push m case (take i pairs) c.loop-i.outcomes (length stored) p outcome (inv.told m roots answered all)
          (subst (λ (n : ℕ). IsOutcome m case n p.0 p.1 outcome) inv.counted (c.outcome_of-outcome.ensures.told m p.1 reach)));
      long = rw (more, added) (omega (arith, inv.long, length-append (take i pairs) (p ∷ []), length-append c.loop-i.outcomes ((p.0, outcome) ∷ [])));
      counted = rw (more, added)
          (c.in_ok-note.ensures.counted ∙ ap (λ (n : ℕ). count_after stored n p.0 outcome) inv.counted
          ∙ sym (count_push stored (take i pairs) c.loop-i.outcomes (length stored) p (p.0, outcome) inv.long));
      few = c.in_ok-note.ensures.few;
      advanced = rw (more, added)
          (c.in_ok-note.ensures.advanced ∙ ap (λ (l : List (Nid × Oid)). l ++ if_advanced outcome p []) inv.advanced
          ∙ sym (advanced_push (take i pairs) c.loop-i.outcomes p (p.0, outcome) inv.long));
    }
