-- What was judged, offered again, is judged alike.
use Rattle.std.proofs.Common.{◌≡◌, ◌≢◌, ℕ, List, [], ◌∷◌, length, map, refl, sym, ap, subst}
use Rattle.rad_base.specs.declared.names.Nid.{Nid}
use Rattle.rad_base.specs.declared.names.Oid.{Oid}
use Rattle.rad_base.specs.declared.offer.Offer.{Offer}
use Rattle.commit_graph.specs.Objects.{ObjectMap}
use Rattle.keyring.specs.Contents.{Contents}
use Rattle.repo_slice.specs.declared.outcomes.Outcome.{Outcome}
use Rattle.repo_slice.specs.declared.outcomes.Outcome.TheVariants.{Advanced}
use Rattle.repo_slice.specs.declared.scope.Scope.{Scope}
use Rattle.repo_slice.specs.declared.scope.Scope.TheVariants.{All}
use Rattle.repo_slice.specs.declared.state.State.{State}
use Rattle.repo_slice.specs.declared.verdict.IdOutcome.{IdOutcome}
use Rattle.repo_slice.specs.declared.verdict.IdOutcome.TheVariants as ids
use Rattle.repo_slice.specs.declared.verdict.Judged.{Judged}
use Rattle.repo_slice.specs.Outcomes.{AreOutcomes, Case, IsOutcome, IsWhole, advanced_in, count_after, if_advanced}
use Rattle.repo_slice.specs.Verdicts.{Allows, IsIdOutcome, IsJudged, case_of}

-- the outcome of a remote that advances
abbrev advances : Nid × Oid → Nid × Outcome
advances p = (p.0, Advanced)

-- with every scope
abbrev for_all : Case → Case
for_all c = record { rid = c.rid; remotes = c.remotes; keyring = c.keyring; doc = c.doc; scope = All }

module _ (m : ObjectMap) (c : Case) where
  whole_for_all : (node : Nid) (commit : Oid) → IsWhole m c node commit → IsWhole m (for_all c) node commit
  whole_for_all node commit h = record {
    refs = h.refs;
    later = record {
      news = record { scope = tt; ahead = h.later.news.ahead };
      signed = h.later.signed;
      follows = h.later.follows;
    };
    closed = h.closed;
  }

  -- what advanced advances again, as many standing before it
  advance_again : (pairs : List (Nid × Oid)) (outcomes : List (Nid × Outcome)) (count : ℕ) → AreOutcomes m c count pairs outcomes
      → AreOutcomes m (for_all c) count (advanced_in pairs outcomes) (map advances (advanced_in pairs outcomes))
  advance_again [] outcomes count are = tt
  advance_again (q ∷ pairs) [] count are = absurd are
  advance_again (q ∷ pairs) (o ∷ outcomes) count are =
      by_outcome (λ (n : ℕ) (a : AreOutcomes m c n pairs outcomes). advance_again pairs outcomes n a) o.1 are.1 are.2
    where
      by_outcome : ((n : ℕ) → AreOutcomes m c n pairs outcomes → AreOutcomes m (for_all c) n (advanced_in pairs outcomes) (map advances (advanced_in pairs outcomes)))
          → (outcome : Outcome) → IsOutcome m c count q.0 q.1 outcome → AreOutcomes m c (count_after c.remotes count q.0 outcome) pairs outcomes
          → AreOutcomes m (for_all c) count (if_advanced outcome q (advanced_in pairs outcomes)) (map advances (if_advanced outcome q (advanced_in pairs outcomes)))
      by_outcome later Advanced is rest = (refl, (whole_for_all q.0 q.1 is.0, is.1), later (count_after c.remotes count q.0 Advanced) rest)
      by_outcome later other is rest = later count rest

-- all of what advances is among it
all_advance : (pairs : List (Nid × Oid)) → pairs ≡ advanced_in pairs (map advances pairs)
all_advance [] = refl
all_advance (p ∷ pairs) = ap (λ (l : List (Nid × Oid)). p ∷ l) (all_advance pairs)

-- the outcome of the next identity, offered again
again_id : IdOutcome → IdOutcome
again_id ids.First = ids.First
again_id ids.Same = ids.Same
again_id ids.Stale = ids.Same
again_id ids.Advanced = ids.Advanced

id_again : (m : ObjectMap) (state : State) (id next : Oid) (outcome : IdOutcome) → IsIdOutcome m state id outcome next
    → (again : IdOutcome) × IsIdOutcome m state next again next × (again ≢ ids.Stale)
id_again m state id next ids.First h = (ids.First, (h.0, refl), λ e. cc e)
id_again m state id next ids.Same h = (ids.Same, (rw h.1 h.0, refl), λ e. cc e)
id_again m state id next ids.Stale h = (ids.Same, (h.0, refl), λ e. cc e)
id_again m state id next ids.Advanced h = (ids.Advanced, (rw h.2 (h.0, h.1, refl)), λ e. cc e)

module _ (m : ObjectMap) (keyring : Contents) (state : State) (offer : Offer) (scope : Scope) (judged : Judged) where
  -- so what was judged is allowed again
  pub allowed_again : IsJudged m keyring state offer scope judged → Allows m keyring state judged.next_id judged.advanced
  allowed_again is =
      let doc = is.0 in
      let are = is.1 in
      let id = id_again m state offer.id judged.next_id judged.id_outcome are.identity in
      let c = case_of keyring state scope doc in
      let outcomes : AreOutcomes m (for_all c) (length state.remotes) judged.advanced (map advances judged.advanced) =
      subst (λ (l : List (Nid × Oid)). AreOutcomes m (for_all c) (length state.remotes) l (map advances l)) (sym are.advanced)
      (advance_again m c offer.remotes judged.outcomes (length state.remotes) are.outcomes) in
      record {
        judged = record { id_outcome = id.0; outcomes = map advances judged.advanced; next_id = judged.next_id; advanced = judged.advanced };
        is = (
          doc,
          record {
            identity = id.1;
            document = are.document;
            outcomes = outcomes;
            advanced = all_advance judged.advanced;
          },
          is.2,
        );
        fresh = id.2;
        same = refl;
      }
