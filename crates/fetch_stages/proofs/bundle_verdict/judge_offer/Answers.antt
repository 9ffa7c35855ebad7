use Rattle.std.proofs.Common.{◌≡◌, ◌∙◌, ◌<◌, ℕ, List, [], length, refl, subst, sym}
use Rattle.std.specs.Prelude.{Result, Ok, Err}
use Rattle.std.specs.Io.KnownBytes.{IsAtEnd}
use Rattle.repo_entries.specs.declared.whole.Whole.{Whole}
use Rattle.repo_slice.specs.Keeps.{HeldBehind}
use Rattle.repo_slice.specs.declared.verdict.Judged.{Judged}
use Rattle.fetch_stages.proofs.Finishing.{enters, finishes_done, finishes_refused, stops_judging}
use Rattle.fetch_stages.proofs.Told.{behind_on, refused_on}
use Rattle.fetch_stages.proofs.Windows.{none_left, some_left}
use Rattle.fetch_stages.proofs.bundle_verdict.judge_offer.Goals as goal

pub returns-in-Err-clause-job : goal.returns-in-Err-clause-job
returns-in-Err-clause-job g c = λ on slice.
    let keep = g.K.Keep in
    let constants = keep.constants c.args.keep.now in
    let offer = c.args.offered.now.offer in
    finishes_refused keep.made constants c.args.rid.now (keep.end c.install.new.self) c.args.keep.now c.install.new.self on offer
    c.args.offered.now.used (keep.held c.install.new.self c.args.rid.now) c.args.input.now.1
    (IsAtEnd (g.S.Source.left c.args.input.now.0)) c.in-Err.why c.from.result c.from.ensures
    (stops_judging keep.made constants c.args.rid.now (keep.end c.install.new.self) c.args.keep.now c.install.new.self on
    (keep.held c.args.keep.now c.args.rid.now) offer c.args.offered.now.used slice c.in-Err.why c.in-Err.ensures.stops)

pub returns-in-Err-fill-clause-job : goal.returns-in-Err-fill-clause-job
returns-in-Err-fill-clause-job g c = λ on slice.
    let keep = g.K.Keep in (
      c.in-Ok.verdict,
      enters keep.made (keep.constants c.args.keep.now) c.args.rid.now (keep.end c.install.new.self) c.args.keep.now
          c.install.new.self on (keep.held c.args.keep.now c.args.rid.now) c.args.offered.now.offer c.args.offered.now.used slice
          c.in-Ok.verdict c.in-Ok.verdict refl c.in-Ok.ensures.verdict c.in-Ok.ensures.entered,
    )

pub returns-else-is_empty-clause-job : goal.returns-else-is_empty-clause-job
returns-else-is_empty-clause-job g c = λ on slice.
    let keep = g.K.Keep in (
      c.in-Ok.verdict,
      enters keep.made (keep.constants c.args.keep.now) c.args.rid.now (keep.end c.install.new.self) c.args.keep.now
          c.install.new.self on (keep.held c.args.keep.now c.args.rid.now) c.args.offered.now.offer c.args.offered.now.used slice
          c.in-Ok.verdict c.in-Ok.verdict refl c.in-Ok.ensures.verdict c.in-Ok.ensures.entered,
      refl,
      subst (λ (l : List ℕ). 0 < length l) c.rest-rest.ensures
          (some_left c.rest-rest.result.now c.is_empty.result c.is_empty.ensures c.if-is_empty.false),
    )

pub returns-in-Err-verdict-clause-job : goal.returns-in-Err-verdict-clause-job
returns-in-Err-verdict-clause-job g c = λ on slice.
    let keep = g.K.Keep in
    let none : c.fill.new.self.1 ≡ [] = sym c.rest-rest.ensures
    ∙ none_left c.rest-rest.result.now c.is_empty.result c.is_empty.ensures c.if-is_empty.true in (
      refl,
      enters keep.made (keep.constants c.args.keep.now) c.args.rid.now (keep.end c.install.new.self) c.args.keep.now
          c.install.new.self on (keep.held c.args.keep.now c.args.rid.now) c.args.offered.now.offer c.args.offered.now.used slice
          c.in-Ok.verdict (Err c.in-Err-verdict.why) c.in-Err-verdict.is c.in-Ok.ensures.verdict c.in-Ok.ensures.entered,
      none,
      c.in_default.ensures.end none,
      refused_on on (keep.held c.args.keep.now c.args.rid.now) (keep.held c.install.new.self c.args.rid.now) c.in-Err-verdict.why slice
          (subst (λ (v : Result Judged Whole). HeldBehind (keep.held c.args.keep.now c.args.rid.now) v (keep.held c.install.new.self c.args.rid.now))
          c.in-Err-verdict.is c.in-Ok.ensures.slice),
    )

pub returns-in-Ok-verdict-clause-job : goal.returns-in-Ok-verdict-clause-job
returns-in-Ok-verdict-clause-job g c = λ on slice.
    let keep = g.K.Keep in
    let none : c.fill.new.self.1 ≡ [] = sym c.rest-rest.ensures
    ∙ none_left c.rest-rest.result.now c.is_empty.result c.is_empty.ensures c.if-is_empty.true in
    finishes_done keep.made keep.constants keep.end keep.held c.args.rid.now c.args.keep.now c.install.new.self c.done.new.keep on
    c.args.offered.now.offer c.args.offered.now.used c.fill.new.self.1 (IsAtEnd (g.S.Source.left c.fill.new.self.0))
    c.in-Ok-verdict.judged
    (enters keep.made (keep.constants c.args.keep.now) c.args.rid.now (keep.end c.install.new.self) c.args.keep.now
    c.install.new.self on (keep.held c.args.keep.now c.args.rid.now) c.args.offered.now.offer c.args.offered.now.used slice
    c.in-Ok.verdict (Ok c.in-Ok-verdict.judged) c.in-Ok-verdict.is c.in-Ok.ensures.verdict c.in-Ok.ensures.entered)
    none (c.in_default.ensures.end none)
    (behind_on on (keep.held c.args.keep.now c.args.rid.now) (keep.held c.install.new.self c.args.rid.now) c.in-Ok-verdict.judged slice
    (subst (λ (v : Result Judged Whole). HeldBehind (keep.held c.args.keep.now c.args.rid.now) v (keep.held c.install.new.self c.args.rid.now))
    c.in-Ok-verdict.is c.in-Ok.ensures.slice))
    c.in-Ok.ensures.leaves.constants_stay c.done.ensures.slice c.done.result c.done.ensures.ends
