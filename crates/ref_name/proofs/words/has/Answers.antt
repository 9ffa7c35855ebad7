use Rattle.std.proofs.Common.{refl, subst, sym}
use Rattle.rad_base.specs.Lists.{BeginsWith}
use Rattle.ref_name.specs.Rules.{Has}
use Rattle.ref_name.proofs.Inside.{has_behind, has_in_front, has_in_rest}
use Rattle.rad_base.proofs.Conditions.{differ}
use Rattle.ref_name.proofs.words.has.Goals as goal

pub returns-then-begins : goal.returns-then-begins
returns-then-begins c =
    ((λ _. c.seeking.invariant.1 (has_in_front c.args.word.now c.seeking.rest.now (c.begins.ensures.0 c.if-begins.true))), λ _. refl)

pub seeking-preserved : goal.seeking-preserved
seeking-preserved c =
    let rest = (rw c.in-Some.is at c.split_first.ensures.cases).0 in
    let word = c.args.word.now in (
      λ h. has_behind word c.in-Some.field-0-0.now c.in-Some.more.now
          (λ front. differ c.begins.result (c.begins.ensures.1 (subst (λ l. BeginsWith word l) (sym rest) front)) c.if-begins.false)
          (subst (λ l. Has word l) rest (c.seeking.invariant.0 h)),
      λ h. c.seeking.invariant.1 (subst (λ l. Has word l) (sym rest) (has_in_rest word c.in-Some.field-0-0.now c.in-Some.more.now h)),
    )
