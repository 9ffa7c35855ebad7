use Rattle.std.proofs.Common.{rules, sym}
use Rattle.std.specs.BTreeMap.{get}
use Rattle.rad_base.specs.Order.{rid_cmp}
use Rattle.object_store.specs.Shown.{IsBare}
use Rattle.object_store.proofs.Showing.{bare_hidden, full_shown, unknown_hidden}
use Rattle.object_store.proofs.store.Store.slice.Goals as goal

pub returns-in_default : goal.returns-in_default
returns-in_default g c = λ items s.
    unknown_hidden c.args.self.now.keyring (get rid_cmp c.args.self.now.repositories c.args.rid.now) c.args.rid.now items s.legal (sym c.in_default.ensures.value)
    (s.each c.args.rid.now)

pub returns-then-is_bare : goal.returns-then-is_bare
returns-then-is_bare g c = λ items s.
    let bare : IsBare c.in-Some.repository.now.slice = search rules in
    bare_hidden c.args.self.now.keyring (get rid_cmp c.args.self.now.repositories c.args.rid.now) c.in-Some.repository.now c.args.rid.now items s.legal (sym c.in-Some.ensures.value)
    (s.each c.args.rid.now) bare

pub returns : goal.returns
returns g c = λ items s.
    let full : IsBare c.in-Some.repository.now.slice → ⊥ = search rules in
    full_shown (get rid_cmp c.args.self.now.repositories c.args.rid.now) c.in-Some.repository.now c.args.rid.now items (sym c.in-Some.ensures.value)
    (s.each c.args.rid.now) full
