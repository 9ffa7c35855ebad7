use Rattle.std.proofs.Common.{arith, ◌∙◌}
use Rattle.repo_slice.specs.Slices.{objects_of, state_of}
use Rattle.report_texts.specs.Stored.{shown_line}
use Rattle.store_reports.specs.Reports.{IsShownRemote}
use Rattle.store_reports.proofs.Adding.{adds_all, adds_turn}
use Rattle.store_reports.proofs.Showing.{item_found}
use Rattle.store_reports.proofs.show.push_remotes.Goals as goal

pub loop-node-preserved : goal.loop-node-preserved
loop-node-preserved c = λ keyring good.
    adds_turn (IsShownRemote (objects_of c.args.slice.now)) shown_line c.as_slice-node-items.result.now c.loop-node.node-index _
    c.args.text.now.items c.loop-node.text.items c.push_own_remote.new.text.items c.loop-node-test.true (c.loop-node.invariant keyring good)
    (c.in_ok-push_own_remote.ensures keyring good
    (item_found c.as_slice-node-items.result.now c.remotes.result.now (state_of c.args.slice.now).remotes c.loop-node.node-index _
    c.as_slice-node-items.ensures.items c.remotes.ensures c.as_slice-node-items.ensures.rising c.loop-node-test.true))

pub returns : goal.returns
returns c = λ keyring good.
    adds_all (IsShownRemote (objects_of c.args.slice.now)) shown_line c.as_slice-node-items.result.now (state_of c.args.slice.now).remotes c.loop-node.node-index
    c.args.text.now.items c.loop-node.text.items (c.as_slice-node-items.ensures.items ∙ c.remotes.ensures) (omega arith) (c.loop-node.invariant keyring good)
