-- The least name of a list that grows at its end.
use Rattle.std.proofs.Common.{ℕ, ◌+◌, ◌<◌, List, [], ◌∷◌, ◌++◌, length, take, get_or, Option, Some, None, sym, subst}
use Rattle.std.specs.Prelude.{Contains}
use Rattle.std.proofs.lemmas.List.{take_more}
use Rattle.std.proofs.lemmas.List.Elements.{Contains-append_left, Contains-push, Contains-push_cases}
use Rattle.rad_base.specs.declared.names.Oid.{Oid}
use Rattle.rad_base.proofs.Members.{contains_nothing}
use Rattle.commit_graph.specs.Closures.{IsLeast}
use Rattle.commit_graph.specs.Looks.{IsLesser}
use Rattle.commit_graph.proofs.LeastNames.{LeastSoFar, least_lower}
use Rattle.canonical_head.specs.Least.{IsLeastIn}

so_far : (names : List Oid) (best : Option Oid) → IsLeastIn names best
    → LeastSoFar (Contains names) best
so_far names None e = λ n c. contains_nothing n (subst (λ (xs : List Oid). Contains xs n) e c)
so_far names (Some oid) h = h

least_push : (names : List Oid) (x : Oid) (best : Option Oid) (next : Oid) → IsLesser best x next
    → IsLeastIn names best → IsLeast (Contains (names ++ x ∷ [])) next
least_push names x best next l h =
    least_lower (Contains names) (Contains (names ++ x ∷ [])) x best next (λ n c. Contains-append_left names (x ∷ []) n c)
    (λ n c. Contains-push_cases names x n c) (Contains-push names x) l (so_far names best h)

-- one turn of a loop over the list
pub least_more : (names : List Oid) (i : ℕ) (d : Oid) (best : Option Oid) (next : Oid)
    → i < length names → IsLesser best (get_or names i d) next → IsLeastIn (take i names) best
    → IsLeastIn (take (i + 1) names) (Some next)
least_more names i d best next l less h =
    subst (λ (xs : List Oid). IsLeastIn xs (Some next)) (sym (take_more names i d l)) (least_push (take i names) (get_or names i d) best next less h)
