use Rattle.std.proofs.Common.{◌≡◌, MutBor, rules, subst, ap, ◌∙◌}
use Rattle.rad_node.specs.Completeness.{IsBundle}
use Rattle.rad_node.specs.Runs.{OnlyReadsDisk}
use Rattle.rad_node.specs.declared.command.Command.{Command}
use Rattle.rad_node.proofs.Commanding.{in_range, one_command, ordered_more}
use Rattle.rad_node.proofs.Completing.{ends_well, has_taken, report_opened}
use Rattle.rad_node.proofs.Entered.{entered}
use Rattle.rad_node.proofs.local.run_local.Goals as goal

pub returns-clause-order : goal.returns-clause-order
returns-clause-order g c = λ command says.
    let same : c.disk-1.given.0 ≡ c.run_command-status.result.1.now = search rules in
    rw (one_command c.args.words.now command c.in-Some.command says c.in-Some.ensures.some)
    (ordered_more c.in-Some.command c.run_command-status.result.0 _ _ _ _ (λ e. same ∙ ap (λ (d : MutBor g.row.D.Denot). d.now) e) c.run_command-status.ensures.order)

pub returns-clause-said : goal.returns-clause-said
returns-clause-said g c = λ command says.
    rw (one_command c.args.words.now command c.in-Some.command says c.in-Some.ensures.some) c.run_command-status.ensures.said

pub returns-clause-kept : goal.returns-clause-kept
returns-clause-kept g c = λ command says only.
    let same : c.disk-1.given.0 ≡ c.run_command-status.result.1.now = search rules in
    rw same (c.run_command-status.ensures.kept
    (subst (λ (k : Command). OnlyReadsDisk k c.run_command-status.result.0) (one_command c.args.words.now command c.in-Some.command says c.in-Some.ensures.some) only))

pub returns-clause-done : goal.returns-clause-done
returns-clause-done g c = λ command says.
    let same : c.disk-1.given.0 ≡ c.run_command-status.result.1.now = search rules in
    rw (one_command c.args.words.now command c.in-Some.command says c.in-Some.ensures.some) (rw same c.run_command-status.ensures.done)

pub returns-clause-complete : goal.returns-clause-complete
returns-clause-complete g c = λ command says.
    let same : c.disk-1.given.0 ≡ c.run_command-status.result.1.now = search rules in
    let run = c.run_command-status in
    rw (one_command c.args.words.now command c.in-Some.command says c.in-Some.ensures.some) (rw same (λ order none.
    ends_well _ _ _ _ _ _ _ _ _ _ _ run.result.0 none c.in-Some.command order (record { cause = run.ensures.cause; said = run.ensures.said; done = run.ensures.done })))

pub returns-clause-entered : goal.returns-clause-entered
returns-clause-entered g c = λ command says.
    let same : c.disk-1.given.0 ≡ c.run_command-status.result.1.now = search rules in
    let run = c.run_command-status in
    rw (one_command c.args.words.now command c.in-Some.command says c.in-Some.ensures.some) (rw same (λ keyring stored entries bundle verdict takes order such report.
    let t = has_taken _ (IsBundle keyring stored bundle verdict entries) _ _ _ _ _ run.result.0 c.in-Some.command _ takes such (report_opened run.result.0 report) run.ensures.done in
    entered _ _ keyring stored bundle verdict entries t.all t.left _ _ _ run.result.0 order report t.such t.imported))

pub run_command-status-requires : goal.run_command-status-requires
run_command-status-requires g c = in_range c.args.words.now c.in-Some.command c.in-Some.ensures.some
