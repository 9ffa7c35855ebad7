-- The state behind a judging is good, and what is replaced advances.
use Rattle.std.proofs.Common.{◌≡◌, ℕ, ◌+◌, ◌≤◌, Bool, true, false, cond, List, [], ◌∷◌, ◌++◌, length, Option, Some, None, refl, sym, ap, subst, inl, inr, ◌⊎◌, ⊎_elim, ◌∙◌, arith, length-append}
use Rattle.std.specs.Prelude.{Contains, count_by, filter, map, not}
use Rattle.std.specs.Option.{is_some, option_or}
use Rattle.std.proofs.lemmas.List.{length-map}
use Rattle.std.proofs.lemmas.List.Elements.{Contains-append_left, Contains-append_right}
use Rattle.rad_base.specs.declared.names.Nid.{Nid}
use Rattle.rad_base.specs.declared.names.Oid.{Oid}
use Rattle.rad_base.specs.declared.names.Rid.{Rid}
use Rattle.rad_base.specs.declared.offer.Offer.{Offer}
use Rattle.rad_base.proofs.Members.{contains_cases, contains_nothing, filter_has, map_from, map_has}
use Rattle.commit_graph.specs.Objects.{ObjectMap}
use Rattle.commit_graph.proofs.Repeats.{length_within}
use Rattle.keyring.specs.Contents.{Contents}
use Rattle.identity_doc.specs.declared.doc.Doc.{Doc}
use Rattle.identity_doc.specs.IdentityChains.{HasIdentity}
use Rattle.repo_slice.specs.declared.outcomes.Outcome.{Outcome}
use Rattle.repo_slice.specs.declared.outcomes.Outcome.TheVariants.{Advanced}
use Rattle.repo_slice.specs.declared.scope.Scope.{Scope}
use Rattle.repo_slice.specs.declared.state.State.{State}
use Rattle.repo_slice.specs.declared.verdict.Judged.{Judged}
use Rattle.repo_slice.specs.Good.{Advances, IsGood, IsSound}
use Rattle.repo_slice.specs.Outcomes.{AreOutcomes, Case, IsOutcome, IsWhole, advanced_in, count_after, if_advanced}
use Rattle.rad_base.specs.Order.{commit_of}
use Rattle.repo_slice.specs.Standing.{Replaces, delegates_in, has_next}
use Rattle.repo_slice.specs.Verdicts.{AreVerdicts, IsJudged, IsNextState, case_of}
use Rattle.rad_base.specs.Order.{node_of}
use Rattle.rad_base.proofs.Lookups.{among_found, found_among, nodes_differ}

-- an option that holds nothing
nothing_from : {X : Type 0} (o : Option X) → is_some o ≡ false → o ≡ None
nothing_from None e = refl
nothing_from (Some x) e = cc e

-- ---- the remotes that advance

module _ (m : ObjectMap) (c : Case) where
  -- what advances is whole
  pub advanced_whole : (pairs : List (Nid × Oid)) (outcomes : List (Nid × Outcome)) (count : ℕ) → AreOutcomes m c count pairs outcomes
      → (p : Nid × Oid) → Contains (advanced_in pairs outcomes) p → IsWhole m c p.0 p.1
  advanced_whole [] outcomes count are p h = absurd (contains_nothing p h)
  advanced_whole (q ∷ pairs) [] count are p h = absurd are
  advanced_whole (q ∷ pairs) (o ∷ outcomes) count are p h =
      by_outcome (λ (d : Contains (advanced_in pairs outcomes) p). advanced_whole pairs outcomes (count_after c.remotes count q.0 o.1) are.2 p d) o.1 are.1 h
    where
      by_outcome : (Contains (advanced_in pairs outcomes) p → IsWhole m c p.0 p.1) → (outcome : Outcome) → IsOutcome m c count q.0 q.1 outcome
          → Contains (if_advanced outcome q (advanced_in pairs outcomes)) p → IsWhole m c p.0 p.1
      by_outcome later Advanced is k =
          ⊎_elim
          (λ e. subst (λ (x : Nid × Oid). IsWhole m c x.0 x.1) e is.0)
          later
          (contains_cases q (advanced_in pairs outcomes) p k)
      by_outcome later other is k = later k

  -- the remote is new
  abbrev pub is_new : Nid × Oid → Bool
  is_new p = not (is_some (commit_of c.remotes p.0))

  room_step : (b : Bool) (count : ℕ) (q : Nid × Oid) (xs : List (Nid × Oid)) → cond b count (count + 1) + length xs ≤ 1024
      → count + length (cond (not b) (q ∷ xs) xs) ≤ 1024
  room_step true count q xs h = h
  room_step false count q xs h = omega (arith, h)

  count_step : (b : Bool) (count : ℕ) → (b ≡ false → count ≡ 1024 → ⊥) → count ≤ 1024 → cond b count (count + 1) ≤ 1024
  count_step true count other h = h
  count_step false count other h = let ne : count ≡ 1024 → ⊥ = other refl in omega (arith, h, ne)

  -- so many new ones advance that no more than 1,024 remotes stand
  pub advanced_room : (pairs : List (Nid × Oid)) (outcomes : List (Nid × Outcome)) (count : ℕ) → AreOutcomes m c count pairs outcomes
      → count ≤ 1024 → count + length (filter is_new (advanced_in pairs outcomes)) ≤ 1024
  advanced_room [] outcomes count are h = omega (arith, h)
  advanced_room (q ∷ pairs) [] count are h = absurd are
  advanced_room (q ∷ pairs) (o ∷ outcomes) count are h =
      by_outcome (λ (n : ℕ) (a : AreOutcomes m c n pairs outcomes) (l : n ≤ 1024). advanced_room pairs outcomes n a l) o.1 are.1 are.2
    where
      by_outcome : ((n : ℕ) → AreOutcomes m c n pairs outcomes → n ≤ 1024 → n + length (filter is_new (advanced_in pairs outcomes)) ≤ 1024)
          → (outcome : Outcome) → IsOutcome m c count q.0 q.1 outcome → AreOutcomes m c (count_after c.remotes count q.0 outcome) pairs outcomes
          → count + length (filter is_new (if_advanced outcome q (advanced_in pairs outcomes))) ≤ 1024
      by_outcome later Advanced is rest =
          let b = is_some (commit_of c.remotes q.0) in
          room_step b count q (filter is_new (advanced_in pairs outcomes))
          (later (cond b count (count + 1)) rest
          (count_step b count (λ none full. is.1 (nothing_from (commit_of c.remotes q.0) none, full)) h))
      by_outcome later other is rest = later count rest h

-- ---- the remotes that stand then

one_of : (a b : Option Oid) (x : Oid) → option_or a b ≡ Some x → (a ≡ Some x) ⊎ ((a ≡ None) × (b ≡ Some x))
one_of None b x e = inr (refl, e)
one_of (Some y) b x e = inl e

-- there are no more than the old ones and the new ones
next_length : (old advanced new : List (Nid × Oid)) (p : Nid × Oid → Bool) → ((x : Nid × Oid) → p x ≡ not (is_some (commit_of old x.0)))
    → Replaces old advanced new → length new ≤ length old + length (filter p advanced)
next_length old advanced new p is r =
    let nodes = map node_of old ++ map node_of (filter p advanced) in
    let has : (n : Nid) → Contains (map node_of new) n → Contains nodes n = λ n c.
    let x = map_from node_of new n c in
    let at : commit_of new n ≡ Some x.0.1 = subst (λ (k : Nid). commit_of new k ≡ Some x.0.1) x.2 (among_found new x.0.0 x.0.1 r.rising x.1) in
    kept n x.0.1 (one_of (commit_of advanced n) (commit_of old n) x.0.1 (sym (r.commits n) ∙ at)) in
    let within = length_within (map node_of new) nodes (nodes_differ new r.rising) has in
    omega (arith, within, length-append (map node_of old) (map node_of (filter p advanced)), length-map new node_of, length-map old node_of, length-map (filter p advanced) node_of)
  where
    in_old : (n : Nid) (x : Oid) → commit_of old n ≡ Some x → Contains (map node_of old ++ map node_of (filter p advanced)) n
    in_old n x e = Contains-append_left (map node_of old) (map node_of (filter p advanced)) n (map_has node_of old (n, x) (found_among old n x e))

    by_old : (n : Nid) (x : Oid) → commit_of advanced n ≡ Some x → (o : Option Oid) → commit_of old n ≡ o → Contains (map node_of old ++ map node_of (filter p advanced)) n
    by_old n x e (Some y) f = in_old n y f
    by_old n x e None f =
        Contains-append_right (map node_of old) (map node_of (filter p advanced)) n
        (map_has node_of (filter p advanced) (n, x) (filter_has p advanced (n, x) (found_among advanced n x e) (is (n, x) ∙ ap (λ (o : Option Oid). not (is_some o)) f)))

    kept : (n : Nid) (x : Oid) → (commit_of advanced n ≡ Some x) ⊎ ((commit_of advanced n ≡ None) × (commit_of old n ≡ Some x)) → Contains (map node_of old ++ map node_of (filter p advanced)) n
    kept n x (inl e) = by_old n x e (commit_of old n) refl
    kept n x (inr e) = in_old n x e.1

-- the delegates that have one
same_delegates : (old advanced new : List (Nid × Oid)) (delegates : List Nid) → Replaces old advanced new
    → delegates_in old advanced delegates ≡ delegates_in new [] delegates
same_delegates old advanced new delegates r =
    let same : has_next old advanced ≡ has_next new [] = (λ i n. is_some (sym (r.commits n) i)) in
    ap (λ (p : Nid → Bool). count_by p delegates) same

-- ---- the state

module _ (m : ObjectMap) (keyring : Contents) (state : State) (offer : Offer) (scope : Scope) (judged : Judged) where
  advanced_is : (doc : Doc) → AreVerdicts m keyring state offer scope judged doc → (p : Nid × Oid) → Contains judged.advanced p → IsWhole m (case_of keyring state scope doc) p.0 p.1
  advanced_is doc are p h =
      advanced_whole m (case_of keyring state scope doc) offer.remotes judged.outcomes (length state.remotes) are.outcomes p
      (subst (λ (l : List (Nid × Oid)). Contains l p) are.advanced h)

  -- what is replaced advances
  pub replaced_advances : (node : Nid) (old new : Oid) → IsJudged m keyring state offer scope judged → commit_of state.remotes node ≡ Some old
      → Contains judged.advanced (node, new) → Advances m old new
  replaced_advances node old new is stored h =
      let whole = advanced_is is.0 is.1 (node, new) h in
      (whole.later.follows old stored, whole.later.news.ahead old stored)

  old_sound : IsGood m keyring state → (node : Nid) (commit : Oid) → Contains state.remotes (node, commit) → IsSound m keyring state.rid node commit
  old_sound (inl none) node commit h = absurd (contains_nothing (node, commit) (subst (λ (l : List (Nid × Oid)). Contains l (node, commit)) none.1 h))
  old_sound (inr good) node commit h = good.2.sound node commit h

  old_few : IsGood m keyring state → length state.remotes ≤ 1024
  old_few (inl none) = let e : length state.remotes ≡ 0 = ap length none.1 in omega (arith, e)
  old_few (inr good) = good.2.few

  -- the next state is good
  pub next_good : (next : State) → IsGood m keyring state → IsJudged m keyring state offer scope judged → IsNextState state judged next → IsGood m keyring next
  next_good next good is following =
      let doc = is.0 in
      let are = is.1 in
      inr (
        judged.next_id,
        following.id,
        record {
          doc = doc;
          identity = subst (λ (rid : Rid). HasIdentity m keyring rid judged.next_id doc) (sym following.rid) are.document;
          sound = λ node commit h. subst (λ (rid : Rid). IsSound m keyring rid node commit) (sym following.rid)
              (by_part node commit (one_of (commit_of judged.advanced node) (commit_of state.remotes node) commit
              (sym (following.remotes.commits node) ∙ among_found next.remotes node commit following.remotes.rising h)));
          enough = subst (λ (n : ℕ). doc.threshold ≤ n) (same_delegates state.remotes judged.advanced next.remotes doc.delegates following.remotes) is.2;
          few =
              let p = is_new m (case_of keyring state scope doc) in
              let room = advanced_room m (case_of keyring state scope doc) offer.remotes judged.outcomes (length state.remotes) are.outcomes (old_few good) in
              let all = next_length state.remotes judged.advanced next.remotes p (λ x. refl) following.remotes in
              let same : length (filter p judged.advanced) ≡ length (filter p (advanced_in offer.remotes judged.outcomes)) = ap (λ (l : List (Nid × Oid)). length (filter p l)) are.advanced in
              omega (arith, room, all, same);
        },
      )
    where
      by_part : (node : Nid) (commit : Oid) → (commit_of judged.advanced node ≡ Some commit) ⊎ ((commit_of judged.advanced node ≡ None) × (commit_of state.remotes node ≡ Some commit))
          → IsSound m keyring state.rid node commit
      by_part node commit (inl e) =
          let whole = advanced_is is.0 is.1 (node, commit) (found_among judged.advanced node commit e) in
          record { refs = whole.refs; signed = whole.later.signed; closed = whole.closed }
      by_part node commit (inr e) = old_sound good node commit (found_among state.remotes node commit e.1)
