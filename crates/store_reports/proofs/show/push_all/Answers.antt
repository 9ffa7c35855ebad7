use Rattle.std.proofs.Common.{arith, refl}
use Rattle.std.proofs.lemmas.List.Elements.{Contains-get_or}
use Rattle.report_texts.specs.Stored.{repository_text}
use Rattle.store_reports.specs.Reports.{IsShown}
use Rattle.store_reports.proofs.Adding.{adds_all, adds_turn}
use Rattle.store_reports.proofs.show.push_all.Goals as goal

pub loop-rid-preserved : goal.loop-rid-preserved
loop-rid-preserved g c = λ items s names.
    adds_turn (IsShown items) repository_text c.args.rids.now c.loop-rid.rid-index _ c.args.text.now.items c.loop-rid.text.items c.push_one.new.text.items
    c.loop-rid-test.true (c.loop-rid.invariant items s names)
    (c.in_ok-push_one.ensures items s (names _ (Contains-get_or c.args.rids.now c.loop-rid.rid-index _ c.loop-rid-test.true)))

pub returns : goal.returns
returns g c = λ items s names.
    adds_all (IsShown items) repository_text c.args.rids.now c.args.rids.now c.loop-rid.rid-index c.args.text.now.items c.loop-rid.text.items refl (omega arith)
    (c.loop-rid.invariant items s names)
