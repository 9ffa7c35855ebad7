-- The refs of a good slice.
use Rattle.std.proofs.Common.{◌≡◌, List, Option, Some, None, Result, Ok, Err, subst, inl, inr}
use Rattle.std.specs.Prelude.{Contains, IfOk}
use Rattle.rad_base.specs.declared.names.Nid.{Nid}
use Rattle.rad_base.specs.declared.names.Oid.{Oid}
use Rattle.rad_base.specs.Order.{commit_of}
use Rattle.rad_base.proofs.Lookups.{found_among}
use Rattle.rad_base.proofs.Members.{contains_nothing}
use Rattle.commit_graph.specs.Objects.{ObjectMap}
use Rattle.commit_graph.specs.declared.fault.GetFault.{GetFault}
use Rattle.keyring.specs.Contents.{Contents}
use Rattle.signed_refs.specs.Lines.{Line}
use Rattle.signed_refs.specs.Said.{Says, SaysRefs}
use Rattle.signed_refs.proofs.Saying.{said_by_signed}
use Rattle.repo_slice.specs.declared.state.State.{State}
use Rattle.repo_slice.specs.Good.{IsGood}
use Rattle.repo_slice.specs.Slices.{AreRefsOf}

module _ (m : ObjectMap) (keyring : Contents) (state : State) (node : Nid) (commit : Oid) (is : commit_of state.remotes node ≡ Some commit) where
  -- a stored commit of a good slice says refs
  says_some : IsGood m keyring state → (refs : List Line) × Says m commit refs
  says_some (inl none) =
      absurd (contains_nothing (node, commit) (subst (λ (l : List (Nid × Oid)). Contains l (node, commit)) none.1 (found_among state.remotes node commit is)))
  says_some (inr good) =
      let sound = good.2.sound node commit (found_among state.remotes node commit is) in
      (sound.refs, said_by_signed m keyring state.rid node commit sound.refs sound.signed)

  -- what is said are the refs of the node
  pub refs_are : (result : Result (Option (List Line)) GetFault) → IsGood m keyring state → IfOk result (SaysRefs m commit) → IfOk result (AreRefsOf m state node)
  refs_are (Ok None) good h = let some = says_some good in absurd (h some.0 some.1)
  refs_are (Ok (Some refs)) good h = (commit, is, h)
  refs_are (Err why) good h = tt
