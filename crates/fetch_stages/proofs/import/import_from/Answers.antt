use Rattle.std.proofs.Common.{ℕ, List, [], inr, refl, arith, subst}
use Rattle.std.specs.Io.KnownBytes.{IsAtEnd}
use Rattle.rad_base.specs.Faults.{Rose}
use Rattle.repo_slice.specs.Keeps.{Constants}
use Rattle.fetch_stages.specs.BundleJobs.{FinishesBy}
use Rattle.fetch_stages.specs.Imports.{setting_of}
use Rattle.fetch_stages.specs.Pieces.{Uses}
use Rattle.fetch_stages.specs.declared.job_end.ImportEnd.TheVariants as import
use Rattle.fetch_stages.proofs.Entering.{leaves_along, makes_none}
use Rattle.fetch_stages.proofs.Importing.{cause_stopped, imports_finished, imports_stopped, imports_unnamed, unnamed}
use Rattle.fetch_stages.proofs.import.import_from.Goals as goal

pub returns-in-Err-clause-job : goal.returns-in-Err-clause-job
returns-in-Err-clause-job g c =
    let keep = g.K.Keep in
    let left = g.S.Source.left in
    let r = c.in-Err.ensures.reads in
    imports_unnamed keep.made (keep.constants c.args.keep.now) (keep.end c.args.keep.now) keep.held c.args.keep.now
    (left c.args.input.now.0) (left c.read_name.new.input.0) r.0 c.read_name.new.input.1 import.ReadFault
    (subst (λ (b : List ℕ). Uses (left c.args.input.now.0) (left c.read_name.new.input.0) b r.0 c.read_name.new.input.1) c.requires.unread r.1)
    r.2 (λ h. absurd h) (makes_none keep.made c.args.keep.now) tt

pub returns-in-Ok-clause-job : goal.returns-in-Ok-clause-job
returns-in-Ok-clause-job g c =
    let keep = g.K.Keep in
    let left = g.S.Source.left in
    let rid = c.in-Ok-Some.rid in
    let reads = rw c.in-Ok-Some.field-0-is at c.in-Ok-Some.ensures.reads in
    let a = c.args.keep.now in
    let b = c.put_sections.new.keep in
    let d = c.judge_offer.new.keep in
    let p = c.in-Ok.ensures.puts in
    let offer = c.in-Ok.offered.offer in
    let used = c.in-Ok.offered.used in
    let at_end = IsAtEnd (left c.judge_offer.new.input.0) in
    imports_finished keep.made (keep.constants a) (keep.end d) keep.held rid a b d offer used (left c.args.input.now.0)
    (left c.read_name.new.input.0) (left c.put_sections.new.input.0) (left c.judge_offer.new.input.0) c.read_name.new.input.1
    c.put_sections.new.input.1 c.judge_offer.new.input.1 reads.0
    (subst (λ (l : List ℕ). Uses (left c.args.input.now.0) (left c.read_name.new.input.0) l rid.0.0 c.read_name.new.input.1) c.requires.unread reads.1)
    p c.judge_offer.ensures.fills
    (λ bytes name. unnamed keep.constants keep.loan keep.faults keep.held rid a d bytes name c.requires.stands
    (leaves_along keep.constants keep.loan keep.faults keep.held rid a b d c.in-Ok.ensures.leaves c.judge_offer.ensures.leaves))
    c.judge_offer.result
    (subst (λ (k : Constants). FinishesBy keep.made (setting_of k rid) (keep.end d) b d p.on offer used (keep.held d rid)
    c.judge_offer.new.input.1 at_end c.judge_offer.result) c.in-Ok.ensures.leaves.constants_stay
    (c.judge_offer.ensures.job p.on p.slice))

pub returns-in-Err-put_sections-clause-cause : goal.returns-in-Err-put_sections-clause-cause
returns-in-Err-put_sections-clause-cause g c =
    let keep = g.K.Keep in
    let faults = g.S.Source.faults in
    let later = c.in-Ok-Some.ensures.cause.later in
    cause_stopped c.in-Ok-Some.rid (Rose (faults c.args.input.now.0) (faults c.put_sections.new.input.0))
    (Rose (faults c.read_name.new.input.0) (faults c.put_sections.new.input.0)) (keep.faults c.args.keep.now)
    (keep.faults c.put_sections.new.keep) (keep.held c.args.keep.now c.in-Ok-Some.rid).objects (keep.held c.args.keep.now)
    c.in-Err-put_sections.stop c.end_by.result (λ rose. omega (arith, rose, later)) c.in-Err-put_sections.ensures.cause c.end_by.ensures

pub returns-in-Err-put_sections-clause-job : goal.returns-in-Err-put_sections-clause-job
returns-in-Err-put_sections-clause-job g c =
    let keep = g.K.Keep in
    let left = g.S.Source.left in
    let rid = c.in-Ok-Some.rid in
    let reads = rw c.in-Ok-Some.field-0-is at c.in-Ok-Some.ensures.reads in
    let a = c.args.keep.now in
    let b = c.put_sections.new.keep in
    imports_stopped keep.made (keep.constants a) (keep.end b) keep.held rid a b (left c.args.input.now.0)
    (left c.read_name.new.input.0) (left c.put_sections.new.input.0) c.read_name.new.input.1 c.in-Err-put_sections.stop
    c.end_by.result reads.0
    (subst (λ (l : List ℕ). Uses (left c.args.input.now.0) (left c.read_name.new.input.0) l rid.0.0 c.read_name.new.input.1) c.requires.unread reads.1)
    c.in-Err-put_sections.ensures.stops
    (λ bytes name. unnamed keep.constants keep.loan keep.faults keep.held rid a b bytes name c.requires.stands
    c.in-Err-put_sections.ensures.leaves)
    c.end_by.ensures

pub returns-in-Ok-None-clause-job : goal.returns-in-Ok-None-clause-job
returns-in-Ok-None-clause-job g c =
    let keep = g.K.Keep in
    let left = g.S.Source.left in
    let r = rw c.in-Ok-None.field-0-is at c.in-Ok-None.ensures.reads in
    imports_unnamed keep.made (keep.constants c.args.keep.now) (keep.end c.args.keep.now) keep.held c.args.keep.now
    (left c.args.input.now.0) (left c.read_name.new.input.0) r.0 [] (import.InputBad 0)
    (subst (λ (b : List ℕ). Uses (left c.args.input.now.0) (left c.read_name.new.input.0) b r.0 []) c.requires.unread r.1)
    r.2 (λ h. refl) (inr (refl, r.4), makes_none keep.made c.args.keep.now) tt
