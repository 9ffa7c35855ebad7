use Rattle.std.proofs.Common.{[], get_or, ◌∙◌, arith}
use Rattle.std.proofs.lemmas.List.Elements.{Contains-get_or}
use Rattle.rad_base.specs.declared.names.Oid.{Oid}
use Rattle.fetch_serve.proofs.SectionTexts.{writes_all, writes_turn}
use Rattle.fetch_serve.proofs.writing.push_objects.Goals as goal

pub loop-oid-preserved : goal.loop-oid-preserved
loop-oid-preserved g c =
    let inv = c.loop-oid.invariant in
    let done = c.in_ok-push_named.ensures in
    let none : Oid = record { 0 = [] } in
    let i = c.loop-oid.oid-index in
    record {
      kept = done.keeps.content ∙ inv.kept;
      beside = done.keeps.beside ∙ inv.beside;
      still = done.keeps.cause ∙ inv.still;
      told = λ m e short there.
          let has = there (get_or c.args.names.now i none) (Contains-get_or c.args.names.now i none (omega arith)) in
          writes_turn m c.args.names.now i none has.0 c.args.bytes.now.items c.loop-oid.bytes.items c.push_named.new.bytes.items (omega arith) (inv.told m e short there) has.1
          (done.told m (inv.kept ∙ e) short has.0 has.1);
    }

pub returns-clause-told : goal.returns-clause-told
returns-clause-told g c = λ m e short there.
    writes_all m c.args.names.now c.loop-oid.oid-index c.args.bytes.now.items c.loop-oid.bytes.items (omega arith) (c.loop-oid.invariant.told m e short there)
