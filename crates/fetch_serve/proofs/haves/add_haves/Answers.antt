use Rattle.std.proofs.Common.{[], refl, ◌∙◌, arith}
use Rattle.rad_base.specs.declared.names.Oid.{Oid}
use Rattle.fetch_serve.specs.Replies.{StandsFor}
use Rattle.fetch_serve.proofs.Adding.{adds_end, adds_step}
use Rattle.fetch_serve.proofs.haves.add_haves.Goals as goal

pub loop-have-preserved : goal.loop-have-preserved
loop-have-preserved g c =
    let inv = c.loop-have.invariant in
    let done = c.in_ok-add_have.ensures in
    let none : Oid = record { 0 = [] } in
    record {
      kept = done.keeps.content ∙ inv.kept;
      beside = done.keeps.beside ∙ inv.beside;
      still = done.keeps.cause ∙ inv.still;
      told = λ m e.
          adds_step (StandsFor m) c.args.haves.now c.args.haves.now c.loop-have.have-index none c.args.roots.now.items c.loop-have.roots.items c.add_have.new.roots.items
          refl (omega arith) (inv.told m e) (done.told m (inv.kept ∙ e));
    }

pub returns-clause-told : goal.returns-clause-told
returns-clause-told g c = λ m e.
    adds_end (StandsFor m) c.args.haves.now c.args.haves.now c.loop-have.have-index c.args.roots.now.items c.loop-have.roots.items
    refl (omega arith) (c.loop-have.invariant.told m e)
