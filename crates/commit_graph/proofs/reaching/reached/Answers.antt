use Rattle.std.proofs.Common.{List, sym, subst}
use Rattle.std.specs.Prelude.{Contains}
use Rattle.rad_base.specs.declared.names.Oid.{Oid}
use Rattle.commit_graph.proofs.NameSets.{reached_names}
use Rattle.commit_graph.proofs.reaching.reached.Goals as goal

pub returns-clause-told : goal.returns-clause-told
returns-clause-told g c = λ m e oid.
    let a = c.in_ok-names.ensures.names oid in
    let b = reached_names m c.args.roots.now c.in_ok-found.found c.as_slice.result.now oid c.as_slice.ensures (c.in_ok-found.ensures.told m e) in
    let has = λ (names : List Oid). Contains names oid in
    (λ h. b.0 (a.0 (subst has c.of.ensures h)), λ h. subst has (sym c.of.ensures) (a.1 (b.1 h)))
