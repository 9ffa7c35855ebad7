-- The laws of good slices and of verdicts.
use Rattle.std.specs.Prelude.{◌≡◌, Some, Contains, Result}
use Rattle.rad_base.specs.declared.names.Nid.{Nid}
use Rattle.rad_base.specs.declared.names.Oid.{Oid}
use Rattle.rad_base.specs.declared.offer.Offer.{Offer}
use Rattle.rad_base.specs.Order.{commit_of}
use Rattle.commit_graph.specs.Objects.{ObjectMap}
use Rattle.keyring.specs.Contents.{Contents}
use Rattle.repo_entries.specs.declared.whole.Whole.{Whole}
use Rattle.repo_slice.specs.declared.scope.Scope.{Scope}
use Rattle.repo_slice.specs.declared.state.State.{State}
use Rattle.repo_slice.specs.declared.verdict.Judged.{Judged}
use Rattle.repo_slice.specs.Good.{Advances, IsGood}
use Rattle.repo_slice.specs.Verdicts.{Allows, IsJudged, IsNextState, IsRefusedWhole, IsVerdict}

-- from a good slice the next one is good
abbrev pub NextIsGood : Type 0
NextIsGood = (objects : ObjectMap) (keyring : Contents) (state next : State) (offer : Offer) (scope : Scope) (judged : Judged)
    → IsGood objects keyring state → IsJudged objects keyring state offer scope judged → IsNextState state judged next
    → IsGood objects keyring next

-- each remote that is replaced advances
abbrev pub ReplacedAdvance : Type 0
ReplacedAdvance = (objects : ObjectMap) (keyring : Contents) (state : State) (offer : Offer) (scope : Scope) (judged : Judged)
    (node : Nid) (old new : Oid) → IsJudged objects keyring state offer scope judged → commit_of state.remotes node ≡ Some old
    → Contains judged.advanced (node, new) → Advances objects old new

-- an offer is judged in one way
abbrev pub OneJudging : Type 0
OneJudging = (objects : ObjectMap) (keyring : Contents) (state : State) (offer : Offer) (scope : Scope) (a b : Judged)
    → IsJudged objects keyring state offer scope a → IsJudged objects keyring state offer scope b → a ≡ b

-- what is judged is not refused whole
abbrev pub JudgedIsNotRefused : Type 0
JudgedIsNotRefused = (objects : ObjectMap) (keyring : Contents) (state : State) (offer : Offer) (scope : Scope) (judged : Judged) (why : Whole)
    → IsJudged objects keyring state offer scope judged → IsRefusedWhole objects keyring state offer scope why → ⊥

-- an offer has one verdict
abbrev pub OneVerdict : Type 0
OneVerdict = (objects : ObjectMap) (keyring : Contents) (state : State) (offer : Offer) (scope : Scope) (a b : Result Judged Whole)
    → IsVerdict objects keyring state offer scope a → IsVerdict objects keyring state offer scope b → a ≡ b

-- what was judged under some scope is allowed again with every scope
abbrev pub JudgedIsAllowed : Type 0
JudgedIsAllowed = (objects : ObjectMap) (keyring : Contents) (state : State) (offer : Offer) (scope : Scope) (judged : Judged)
    → IsJudged objects keyring state offer scope judged → Allows objects keyring state judged.next_id judged.advanced
