use Rattle.std.proofs.Common.{List, ◌↔◌, sym, subst}
use Rattle.std.specs.Prelude.{Contains}
use Rattle.std.specs.BTreeSet.{BTreeSet}
use Rattle.rad_base.specs.declared.names.Oid.{Oid}
use Rattle.commit_graph.specs.declared.root.Root.{Root}
use Rattle.commit_graph.specs.declared.answer.Closure.{Closure}
use Rattle.commit_graph.specs.declared.answer.Closure.TheVariants.{Closed}
use Rattle.commit_graph.specs.Walks.{Reached}
use Rattle.commit_graph.specs.Closures.{IsClosure}
use Rattle.commit_graph.specs.Beyond.{AllClosed, GrowsBeyond, IsLinkBeyond}
use Rattle.commit_graph.proofs.BeyondWalks.{all_closed, grown_iff, grown_not}
use Rattle.commit_graph.proofs.beyond.closure_beyond.Goals as goal
use Rattle.commit_graph.proofs.beyond.closure_beyond.Goals.{in-Closed+in_ok-add_names, in_default}

pub returns-in_err-add_names-clause-closed : goal.returns-in_err-add_names-clause-closed
returns-in_err-add_names-clause-closed g c = λ m e.
    let is = λ (answer : Closure). IsClosure m c.args.roots.now answer in
    let reach = λ (pairs : List Root). (q : Root) → Contains pairs q ↔ Reached (IsLinkBeyond m c.args.known.now) c.args.roots.now q in
    let found = subst reach (sym c.as_slice.ensures) (c.in_ok-found.ensures.reach m e) in
    all_closed (subst is c.in-Closed.is (c.in_ok-found.ensures.told m e)) c.args.known.now c.add_names.new.names c.as_slice.result.now (c.requires m e)
    (λ q k. (found q).0 k) c.in_err-add_names.ensures.only

pub returns-clause-grown : goal.returns-clause-grown
returns-clause-grown g c = λ m e.
    let known = c.args.known.now in
    let roots = c.args.roots.now in
    let reach = λ (pairs : List Root). (q : Root) → Contains pairs q ↔ Reached (IsLinkBeyond m known) roots q in
    elim c.match-found.branch [
      | in-Closed+in_ok-add_names w ↦ subst (GrowsBeyond m known roots c.match-found.known) (sym w.in-Closed.is)
          (subst (λ (new : BTreeSet Oid). GrowsBeyond m known roots new Closed) (sym w.known-is)
          (λ oid. grown_iff m known w.add_names.new.names roots w.as_slice.result.now oid (subst reach (sym w.as_slice.ensures) (c.in_ok-found.ensures.reach m e))
          (w.in_ok-add_names.ensures.only oid) (w.in_ok-add_names.ensures.all oid) (w.in_ok-add_names.ensures.kept oid)))
      | in_default w ↦ grown_not m known c.match-found.known roots c.in_ok-found.found.answer w.in_default.not-Closed w.known-is
    ]

pub returns-clause-closed : goal.returns-clause-closed
returns-clause-closed g c = λ m e.
    let is = λ (answer : Closure). IsClosure m c.args.roots.now answer in
    let reach = λ (pairs : List Root). (q : Root) → Contains pairs q ↔ Reached (IsLinkBeyond m c.args.known.now) c.args.roots.now q in
    elim c.match-found.branch [
      | in-Closed+in_ok-add_names w ↦ subst (AllClosed m) (sym w.known-is)
          (all_closed (subst is w.in-Closed.is (c.in_ok-found.ensures.told m e)) c.args.known.now w.add_names.new.names w.as_slice.result.now (c.requires m e)
          (λ q k. (subst reach (sym w.as_slice.ensures) (c.in_ok-found.ensures.reach m e) q).0 k) w.in_ok-add_names.ensures.only)
      | in_default w ↦ subst (AllClosed m) (sym w.known-is) (c.requires m e)
    ]
