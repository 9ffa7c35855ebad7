use Rattle.std.proofs.Common.{◌≡◌, ap, arith, List, take, ◌∙◌}
use Rattle.std.proofs.lemmas.List.{take_all}
use Rattle.std.specs.List.{filter}
use Rattle.rad_base.specs.declared.names.Rid.{Rid}
use Rattle.object_store.proofs.Listing.{shown_are, shown_in, shown_rise}
use Rattle.object_store.proofs.shown.shown_names.Goals as goal

pub returns-clause-rising : goal.returns-clause-rising
returns-clause-rising c =
    let items = c.deref-rid-items.result.now in
    let whole : take c.loop-rid.rid-index items ≡ items = take_all c.loop-rid.rid-index items (omega arith) in
    shown_rise c.args.all.now items c.loop-rid.shown (c.deref-rid-items.ensures.value ∙ c.in_ok-names.ensures.keys) c.in_ok-names.ensures.ordered
    (c.loop-rid.invariant ∙ ap (λ (l : List Rid). filter (shown_in c.args.all.now) l) whole)

pub returns-clause-names : goal.returns-clause-names
returns-clause-names c =
    let items = c.deref-rid-items.result.now in
    let whole : take c.loop-rid.rid-index items ≡ items = take_all c.loop-rid.rid-index items (omega arith) in
    shown_are c.args.all.now items c.loop-rid.shown (c.deref-rid-items.ensures.value ∙ c.in_ok-names.ensures.keys)
    (c.loop-rid.invariant ∙ ap (λ (l : List Rid). filter (shown_in c.args.all.now) l) whole)
