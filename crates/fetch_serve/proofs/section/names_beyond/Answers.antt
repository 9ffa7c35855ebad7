use Rattle.std.proofs.Common.{List, ap, subst, ◌∙◌}
use Rattle.std.specs.Prelude.{filter}
use Rattle.rad_base.specs.declared.names.Oid.{Oid}
use Rattle.fetch_serve.specs.Parts.{HasNames, is_beyond}
use Rattle.fetch_serve.proofs.NamesBeyond.{names_beyond}
use Rattle.fetch_serve.proofs.section.names_beyond.Goals as goal

pub returns-clause-told : goal.returns-clause-told
returns-clause-told g c = λ m e.
    names_beyond m c.args.asked.now c.args.had.now c.in_ok-wanted.wanted c.in_ok-known.known c.in_ok-names.names.items c.in_ok-set.set c.in_ok-wanted.ensures.rising
    (c.in_ok-wanted.ensures.told m e) (c.in_ok-known.ensures.told m (c.in_ok-wanted.ensures.keeps.content ∙ e))
    (subst (λ (xs : List Oid). HasNames c.in_ok-set.set xs) c.as_slice.ensures c.in_ok-set.ensures)
    (c.in_ok-names.ensures ∙ ap (λ (xs : List Oid). filter (is_beyond c.in_ok-set.set) xs) c.as_slice-2.ensures)
