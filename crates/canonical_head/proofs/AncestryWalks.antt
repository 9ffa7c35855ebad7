-- A walk that numbers commits and their parents, and what the numbers tell.
use Rattle.std.proofs.Common.{◌≡◌, ℕ, ◌<◌, ◌≤◌, List, [], ◌∷◌, ◌++◌, ◌≢◌, length, take, drop, get_or, Option, Some, refl, sym, ap, subst, inl, inr, ⊎_elim, ◌∙◌, arith, length-append}
use Rattle.std.proofs.lemmas.List.{take-append-drop, take-append-le}
use Rattle.std.proofs.lemmas.Option.{slice_get_within, slice_get-get_or}
use Rattle.std.specs.List.{AllByRecursion}
use Rattle.std.specs.Prelude.{Contains, slice_get, map, filter}
use Rattle.git_object.specs.declared.kind.Kind.{Kind}
use Rattle.git_object.specs.declared.kind.Kind.TheVariants.{Commit}
use Rattle.git_object.specs.declared.link.LinkTo.{LinkTo}
use Rattle.git_object.specs.Links.{links, IsWellFormed}
use Rattle.rad_base.proofs.Members.{contains_nothing, contains_head, contains_one, contains_at, filter_has, filter_from, map_has, map_from}
use Rattle.rad_base.proofs.Options.{one_value, some_is}
use Rattle.rad_base.specs.declared.names.Oid.{Oid}
use Rattle.rad_base.specs.Lists.{AllDiffer}
use Rattle.commit_graph.proofs.HistoryWalks.{same_commit}
use Rattle.commit_graph.proofs.PairSteps.{links_all, links_only, commit_kind}
use Rattle.commit_graph.proofs.Repeats.{length_within}
use Rattle.commit_graph.proofs.Spread.{Spread}
use Rattle.commit_graph.proofs.Walked.{reached_root, reached_step, reached_stays}
use Rattle.commit_graph.specs.Chains.{linked_commits}
use Rattle.commit_graph.specs.declared.root.Root.{Root}
use Rattle.commit_graph.specs.Histories.{IsParent, InHistory}
use Rattle.commit_graph.specs.Lists.{Extends, Follows}
use Rattle.commit_graph.specs.Looks.{HasLinks}
use Rattle.commit_graph.specs.Objects.{Object, ObjectMap}
use Rattle.commit_graph.specs.Pairs.{as_commit, is_commit_link, pair_of}
use Rattle.commit_graph.specs.Walks.{Reached}
use Rattle.canonical_head.proofs.Places.{at_kept, at_push_cases, extends_at, one_place}
use Rattle.canonical_head.specs.Ancestries.{AddsParents, AreParents, IsNext, IsParentOf, ReadsParents, RowsTell}
use Rattle.canonical_head.specs.Heads.{CoversHistories}
use Rattle.canonical_head.specs.Numbers.{AreNumbers}

formed_parents : (m : ObjectMap) (oid : Oid) (bytes : List ℕ) → m oid ≡ Some (Commit, bytes)
    → IsWellFormed Commit bytes → AreParents m oid (linked_commits (links Commit bytes))
formed_parents m oid bytes there formed parent =
    let found = links Commit bytes in
    let h : HasLinks m (as_commit oid) found = record {
      fit = record { kind = Commit; bytes = bytes; there = there; expected = refl; formed = formed };
      are = refl;
    } in (
      λ c.
          let link = map_from (λ (l : LinkTo). l.oid) (filter is_commit_link found) parent c in
          let kept = filter_from is_commit_link found link.0 link.1 in
          let is : pair_of link.0 ≡ as_commit parent =
          ap (λ (x : Oid). record { oid = x; kind = Some link.0.kind }) link.2
          ∙ ap (λ (k : Kind). record { oid = parent; kind = Some k }) (commit_kind link.0.kind kept.1) in
          (links_only h (as_commit parent) (subst (Contains (map pair_of found)) is (map_has pair_of found link.0 kept.0)), refl),
      λ s.
          let link = map_from pair_of found (as_commit parent) (links_all h (as_commit parent) s.0) in
          let kind : link.0.kind ≡ Commit = some_is link.0.kind Commit (ap (λ (r : Root). r.kind) link.2) in
          let name : link.0.oid ≡ parent = ap (λ (r : Root). r.oid) link.2 in
          subst (Contains (linked_commits found)) name
          (map_has (λ (l : LinkTo). l.oid) (filter is_commit_link found) link.0
          (filter_has is_commit_link found link.0 link.1 (ap (λ (k : Kind). is_commit_link (record { oid = link.0.oid; kind = k })) kind))),
    )

-- what was read of a commit are its parents
pub parents_read : (m : ObjectMap) (oid : Oid) (bytes : List ℕ) (parents : List Oid)
    → m oid ≡ Some (Commit, bytes) → ReadsParents bytes parents → AreParents m oid parents
parents_read m oid bytes parents there (inl h) =
    subst (AreParents m oid) (sym h.1) (formed_parents m oid bytes there h.0)
parents_read m oid bytes parents there (inr h) =
    subst (AreParents m oid) (sym h.1) (λ parent. (
      λ c. absurd (contains_nothing parent c),
      λ s.
          let same : (s.0.fit.kind, s.0.fit.bytes) ≡ (Commit, bytes) = one_value s.0.fit.there there in
          absurd (h.0 (subst (λ (o : Object). IsWellFormed o.0 o.1) same s.0.fit.formed)),
    ))

-- a walk over parents by their names is one over pairs
along_pairs : (m : ObjectMap) (tips : List Oid) (oid : Oid) → Reached (IsParentOf m) tips oid
    → (tip : Oid) × Contains tips tip × InHistory m oid tip
along_pairs m tips = reached_stays (λ (oid : Oid). (tip : Oid) × Contains tips tip × InHistory m oid tip)
    (λ tip c. (tip, c, reached_root (as_commit tip) (contains_head (as_commit tip) [])))
    (λ p q h s. (h.0, h.1, reached_step (as_commit p) (as_commit q) h.2 s))

-- what was found is at most what the histories have
pub found_many : (m : ObjectMap) (tips commits : List Oid) {done found : List Oid}
    → Spread (IsParentOf m) tips done found → AllDiffer found → CoversHistories m tips commits
    → length found ≤ length commits
found_many m tips commits {done} {found} h once cover =
    length_within found commits once (λ oid c. let r = along_pairs m tips oid (h.sound oid c) in cover oid r.0 r.1 r.2)

-- the rows of the commits have the numbers of their parents
pub record AreParentRows (m : ObjectMap) (commits : List Oid) (rows : List (List ℕ)) : Type 0 where
  pub each : (i : ℕ) (oid : Oid) (row : List ℕ) → slice_get commits i ≡ Some oid → slice_get rows i ≡ Some row
      → (names : List Oid) × AreParents m oid names × AreNumbers commits names row

pub no_rows : (m : ObjectMap) (commits : List Oid) (rows : List (List ℕ)) → rows ≡ []
    → AreParentRows m commits rows
no_rows m commits rows e = record {
  each = λ i oid row at there. absurd (contains_nothing row (subst (λ (xs : List (List ℕ)). Contains xs row) e (contains_at rows i row there)));
}

numbers_kept : {old names' new names : List Oid} {row : List ℕ} → Extends old names' new → AreNumbers old names row
    → AreNumbers new names row
numbers_kept grown h = record {
  all = λ name c. let place = h.all name c in (place.0, place.1, extends_at grown place.0 name place.2);
  only = λ i c. let named = h.only i c in (named.0, named.1, extends_at grown i named.0 named.2);
}

-- the parents of one commit more
pub rows_turn : (m : ObjectMap) {content : Option ObjectMap} {oid : Oid} {old new : List Oid} {rows rows' : List (List ℕ)}
    → content ≡ Some m → slice_get old (length rows) ≡ Some oid → AddsParents content oid old new rows rows'
    → AreParentRows m old rows → AreParentRows m new rows'
rows_turn m {content} {oid} {old} {new} {rows} {rows'} told at h are = record {
  each = λ i name row here there. ⊎_elim
      (λ (before : slice_get rows i ≡ Some row).
      let kept : slice_get old i ≡ Some name = was_there i name row here before in
      let r = are.each i name row kept before in
      (r.0, r.1, numbers_kept h.numbered.grown r.2))
      (λ (last : (i ≡ length rows) × (h.row ≡ row)).
      let same : oid ≡ name = some_is oid name (sym (extends_at h.numbered.grown (length rows) oid at) ∙ ap (slice_get new) (sym last.0) ∙ here) in
      (h.names, subst (λ (x : Oid). AreParents m x h.names) same (h.are m told), subst (AreNumbers new h.names) last.1 h.numbered.numbers))
      (at_push_cases rows h.row i row (ap (λ (xs : List (List ℕ)). slice_get xs i) (sym h.is) ∙ there));
} where
  was_there : (i : ℕ) (name : Oid) (row : List ℕ) → slice_get new i ≡ Some name → slice_get rows i ≡ Some row
      → slice_get old i ≡ Some name
  was_there i name row here before =
      let below : i < length old = omega (arith, slice_get_within rows i row before, slice_get_within old (length rows) oid at) in
      let there : slice_get old i ≡ Some (get_or old i name) = slice_get-get_or old i name below in
      there ∙ sym (extends_at h.numbered.grown i (get_or old i name) there) ∙ here

-- one turn of the walk adds the parents of its commit
pub parents_follow : (m : ObjectMap) {content : Option ObjectMap} {oid : Oid} {old new : List Oid} {rows rows' : List (List ℕ)}
    → content ≡ Some m → AddsParents content oid old new rows rows'
    → Follows (IsParentOf m) oid old new
parents_follow m {content} {oid} told h = record {
  steps = h.names;
  all = λ parent s. (h.are m told parent).1 s;
  only = λ parent c. (h.are m told parent).0 c;
  grown = h.numbered.grown;
}

-- each number in a row is that of a commit
abbrev pub IsBelow : List Oid → List (List ℕ) → Type 0
IsBelow commits rows = (a b : ℕ) → IsNext rows a b → b < length commits

pub below_none : (commits : List Oid) (rows : List (List ℕ)) → rows ≡ [] → IsBelow commits rows
below_none commits rows e a b next =
    absurd (contains_nothing next.row (subst (λ (xs : List (List ℕ)). Contains xs next.row) e (contains_at rows a next.row next.there)))

pub below_turn : {content : Option ObjectMap} {oid : Oid} {old new : List Oid} {rows rows' : List (List ℕ)}
    → AddsParents content oid old new rows rows' → IsBelow old rows → IsBelow new rows'
below_turn {content} {oid} {old} {new} {rows} {rows'} h below a b next = ⊎_elim
    (λ (before : slice_get rows a ≡ Some next.row).
    let here : b < length old = below a b (record { row = next.row; there = before; among = next.among }) in
    omega (arith, here, ap length h.numbered.grown.is, length-append old h.numbered.grown.more))
    (λ (last : (a ≡ length rows) × (h.row ≡ next.row)).
    let named = h.numbered.numbers.only b (subst (λ (xs : List ℕ). Contains xs b) (sym last.1) next.among) in
    slice_get_within new b named.0 named.2)
    (at_push_cases rows h.row a next.row (ap (λ (xs : List (List ℕ)). slice_get xs a) (sym h.is) ∙ next.there))

-- the first commits stay the first
pub front_kept : {old names new : List Oid} (count : ℕ) → count ≤ length old → Extends old names new
    → take count new ≡ take count old
front_kept {old} {names} {new} count l h = ap (take count) h.is ∙ take-append-le count old h.more l

-- of the first commits each has the number that it has among all
front_at : (commits : List Oid) (count i : ℕ) (oid : Oid) → slice_get (take count commits) i ≡ Some oid
    → slice_get commits i ≡ Some oid
front_at commits count i oid e =
    ap (λ (xs : List Oid). slice_get xs i) (sym (take-append-drop count commits)) ∙ at_kept (take count commits) (drop count commits) i oid e

each_front : {X : Type 0} (P : X → Type 0) (xs ys : List X) → AllByRecursion P (xs ++ ys) → AllByRecursion P xs
each_front P [] ys each = tt
each_front P (x ∷ xs) ys each = (each.0, each_front P xs ys each.1)

differ_front : {X : Type 0} (xs ys : List X) → AllDiffer (xs ++ ys) → AllDiffer xs
differ_front [] ys differ = tt
differ_front {X} (x ∷ xs) ys differ = (each_front (λ (y : X). x ≢ y) xs ys differ.0, differ_front xs ys differ.1)

-- of commits that differ the first ones do
pub front_differ : (commits : List Oid) (count : ℕ) → AllDiffer commits → AllDiffer (take count commits)
front_differ commits count differ =
    differ_front (take count commits) (drop count commits) (subst AllDiffer (sym (take-append-drop count commits)) differ)

-- and what rows tell of all they tell of the first
pub front_tells : (m : ObjectMap) (rows : List (List ℕ)) (commits : List Oid) (count : ℕ) → RowsTell m rows commits
    → RowsTell m rows (take count commits)
front_tells m rows commits count h i j old new here at =
    h i j old new (front_at commits count i old here) (front_at commits count j new at)

module _ (m : ObjectMap) (commits : List Oid) (rows : List (List ℕ)) (many : length rows ≡ length commits)
    (are : AreParentRows m commits rows) where
  -- numbers lead to what lies in the history
  numbers_lead : (j : ℕ) (new : Oid) → slice_get commits j ≡ Some new → (i : ℕ) → Reached (IsNext rows) (j ∷ []) i
      → (old : Oid) × (slice_get commits i ≡ Some old) × InHistory m old new
  numbers_lead j new at = reached_stays
      (λ (i : ℕ). (old : Oid) × (slice_get commits i ≡ Some old) × InHistory m old new)
      (λ i c. (new, ap (slice_get commits) (sym (contains_one j i c)) ∙ at, reached_root (as_commit new) (contains_head (as_commit new) [])))
      (λ a b h next.
      let row = are.each a h.0 next.row h.1 next.there in
      let named = row.2.only b next.among in
      (named.0, named.2, reached_step (as_commit h.0) (as_commit named.0) h.2 ((row.1 named.0).0 named.1)))

  Numbered : ℕ → Root → Type 0
  Numbered j pair = (pair.kind ≡ Some Commit) × ((i : ℕ) × (slice_get commits i ≡ Some pair.oid) × Reached (IsNext rows) (j ∷ []) i)

  parent_numbered : (j : ℕ) (p q : Root) → Numbered j p → IsParent m p q → Numbered j q
  unfolding Numbered
  parent_numbered j p q h s =
      let place = h.1 in
      let below : place.0 < length rows = omega (arith, many, slice_get_within commits place.0 p.oid place.1) in
      let there : slice_get rows place.0 ≡ Some (get_or rows place.0 []) = slice_get-get_or rows place.0 [] below in
      let row = are.each place.0 p.oid (get_or rows place.0 []) place.1 there in
      let from : p ≡ as_commit p.oid = same_commit p p.oid refl h.0 in
      let to : q ≡ as_commit q.oid = same_commit q q.oid refl s.1 in
      let step : IsParentOf m p.oid q.oid = subst (λ (r : Root). IsParent m (as_commit p.oid) r) to (subst (λ (r : Root). IsParent m r q) from s) in
      let next = row.2.all q.oid ((row.1 q.oid).1 step) in
      (s.1, (next.0, next.2, reached_step place.0 next.0 place.2 (record { row = get_or rows place.0 []; there = there; among = next.1 })))

  -- and to all that lies there
  lead_numbers : (j : ℕ) (old new : Oid) → slice_get commits j ≡ Some new → InHistory m old new
      → (i : ℕ) × (slice_get commits i ≡ Some old) × Reached (IsNext rows) (j ∷ []) i
  unfolding Numbered
  lead_numbers j old new at r =
      (reached_stays (Numbered j)
      (λ q c. let same : as_commit new ≡ q = contains_one (as_commit new) q c in
      subst (Numbered j) same (refl, (j, at, reached_root j (contains_head j []))))
      (parent_numbered j) (as_commit old) r).1

  -- so they tell which commits lie in the histories of which
  pub rows_tell : AllDiffer commits → RowsTell m rows commits
  rows_tell once i j old new here at = (
    λ r. let found = numbers_lead j new at i r in
        subst (λ (x : Oid). InHistory m x new) (some_is found.0 old (sym found.1 ∙ here)) found.2,
    λ r. let found = lead_numbers j old new at r in
        subst (Reached (IsNext rows) (j ∷ [])) (one_place commits found.0 i old once found.1 here) found.2,
  )
