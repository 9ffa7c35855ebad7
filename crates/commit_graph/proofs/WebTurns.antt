-- What the turns of a walk gather, and what they come to.
use Rattle.std.proofs.Common.{◌≡◌, ℕ, ◌+◌, Bool, true, false, cond, Some, List, [], ◌∷◌, ◌++◌, take, sym, ap, subst, inl, inr, ◌⊎◌, ⊎_elim, ◌∙◌, ◌↔◌}
use Rattle.std.specs.Prelude.{Contains, IsTrue, map, slice_get}
use Rattle.std.specs.BTreeSet.{BTreeSet, contains, Updates}
use Rattle.std.specs.BTreeMap.{is_at}
use Rattle.std.proofs.lemmas.Bool.{cases_Bool, false≢true}
use Rattle.std.proofs.lemmas.Cmp.{eq_by_cmp_equiv}
use Rattle.std.proofs.lemmas.List.Elements.{Contains-push, Contains-push_cases, Contains-append_left}
use Rattle.std.proofs.lemmas.Map.Views.{tells_apart, btree_set_contains_iff}
use Rattle.rad_base.proofs.Members.{contains_nothing}
use Rattle.git_object.specs.declared.link.LinkTo.{LinkTo}
use Rattle.commit_graph.specs.declared.root.Root.{Root}
use Rattle.commit_graph.specs.declared.backward.Backward.{Backward}
use Rattle.commit_graph.specs.declared.web.Web.{Web}
use Rattle.commit_graph.specs.Objects.{ObjectMap}
use Rattle.commit_graph.specs.Lists.{Extends, Follows}
use Rattle.commit_graph.specs.Pairs.{IsMissing, IsUnfit, IsLink, pair_of}
use Rattle.commit_graph.specs.Looks.{HasLinks}
use Rattle.commit_graph.specs.Closures.{IsReached}
use Rattle.commit_graph.specs.Backward.{LinksTo}
use Rattle.commit_graph.specs.Webs.{IsWeb}
use Rattle.commit_graph.proofs.AddBack.{LinksAdded}
use Rattle.commit_graph.proofs.Adding.{take_grown}
use Rattle.commit_graph.proofs.ClosureTurns.{IsJudged}
use Rattle.commit_graph.proofs.PairOrder.{pair_cmp, pair_exact, pair_total}
use Rattle.commit_graph.proofs.PairSteps.{missing_unfit, missing_apart, unfit_apart, missing_ends, unfit_ends, nothing_follows, links_follow, links_all, links_only}
use Rattle.commit_graph.proofs.Spread.{Spread, spread_start, spread_follows, spread_all}

-- the set has the pairs of which P holds
abbrev pub HasThose : (Root → Type 0) → BTreeSet Root → Type 0
HasThose P set = (p : Root) → IsTrue (contains pair_cmp set p) ↔ P p

-- the pair was put into the set where P holds of it
abbrev pub IsPut : (Root → Type 0) → Root → BTreeSet Root → BTreeSet Root → Type 0
IsPut P x old new = (P x × Updates pair_cmp old new x true) ⊎ ((P x → ⊥) × (new ≡ old))

-- an empty set has none
pub those_none : (P : Root → Type 0) (set : BTreeSet Root) → set.keys ≡ []
    → HasThose (λ p. Contains [] p × P p) set
those_none P set empty p = (
  λ t. absurd (contains_nothing p (subst (λ (xs : List Root). Contains xs p) empty ((btree_set_contains_iff pair_total pair_exact set p).0 t))),
  λ h. absurd (contains_nothing p h.0),
)

those_put : (P : Root → Type 0) (done : List Root) (x : Root) (old new : BTreeSet Root) → P x
    → Updates pair_cmp old new x true → HasThose (λ p. Contains done p × P p) old
    → HasThose (λ p. Contains (done ++ x ∷ []) p × P p) new
those_put P done x old new holds u h p =
    let at = λ (b : is_at (pair_cmp x) p ≡ true). u.0 p ∙ ap (λ (t : Bool). cond t true (contains pair_cmp old p)) b in (
      λ t. ⊎_elim
          (λ b. let same : x ≡ p = tells_apart pair_exact x p b in
          subst (λ (y : Root). Contains (done ++ x ∷ []) y × P y) same (Contains-push done x, holds))
          (λ b. let was = (h p).0 (sym (u.0 p ∙ ap (λ (t : Bool). cond t true (contains pair_cmp old p)) b) ∙ t) in
          (Contains-append_left done (x ∷ []) p was.0, was.1))
          (cases_Bool (is_at (pair_cmp x) p)),
      λ k. ⊎_elim
          (λ b. at b)
          (λ b. u.0 p ∙ ap (λ (t : Bool). cond t true (contains pair_cmp old p)) b ∙ ⊎_elim
          (λ c. (h p).1 (c, k.1))
          (λ c. absurd (not_at b c))
          (Contains-push_cases done x p k.0))
          (cases_Bool (is_at (pair_cmp x) p)),
    )
  where
    not_at : is_at (pair_cmp x) p ≡ false → x ≡ p → ⊥
    not_at b c = false≢true (sym b ∙ subst (λ (y : Root). is_at (pair_cmp x) y ≡ true) c ((eq_by_cmp_equiv pair_total).refl x))

those_same : (P : Root → Type 0) (done : List Root) (x : Root) (set : BTreeSet Root) → (P x → ⊥)
    → HasThose (λ p. Contains done p × P p) set → HasThose (λ p. Contains (done ++ x ∷ []) p × P p) set
those_same P done x set lacks h p = (
  λ t. let was = (h p).0 t in (Contains-append_left done (x ∷ []) p was.0, was.1),
  λ k. ⊎_elim (λ c. (h p).1 (c, k.1)) (λ c. absurd (lacks (subst P (sym c) k.1))) (Contains-push_cases done x p k.0),
)

-- over one more pair
pub those_turn : (P : Root → Type 0) (done : List Root) (x : Root) (old new : BTreeSet Root)
    → IsPut P x old new → HasThose (λ p. Contains done p × P p) old
    → HasThose (λ p. Contains (done ++ x ∷ []) p × P p) new
those_turn P done x old new (inl (holds, u)) h = those_put P done x old new holds u h
those_turn P done x old new (inr (lacks, e)) h =
    subst (HasThose (λ p. Contains (done ++ x ∷ []) p × P p)) (sym e) (those_same P done x old lacks h)

-- one turn: the pair was looked up, its links were added and kept, and it was put where it belongs
pub record Gathers (m : ObjectMap) (x : Root) (found found' : List Root) (old new : Web) : Type 0 where
  pub follows : Follows (IsLink m) x found found'
  pub links : (p q : Root) → LinksTo new.back p q ↔ (LinksTo old.back p q ⊎ ((p ≡ x) × IsLink m x q))
  pub missing : IsPut (IsMissing m) x old.missing new.missing
  pub unfit : IsPut (IsUnfit m) x old.unfit new.unfit
  pub judged : IsJudged m x

-- no link is kept
links_same : {m : ObjectMap} {x : Root} (old new : Web) → ((q : Root) → IsLink m x q → ⊥)
    → new.back ≡ old.back → (p q : Root)
    → LinksTo new.back p q ↔ (LinksTo old.back p q ⊎ ((p ≡ x) × IsLink m x q))
links_same old new ends e p q = (
  λ c. inl (subst (λ (back : Backward). LinksTo back p q) e c),
  λ s. subst (λ (back : Backward). LinksTo back p q) (sym e) (⊎_elim (λ a. a) (λ a. absurd (ends q a.1)) s),
)

-- a turn at a pair without an object
pub gathers_missing : {m : ObjectMap} {x : Root} {found found' : List Root} (old new : Web) → IsMissing m x
    → found' ≡ found → new.back ≡ old.back → Updates pair_cmp old.missing new.missing x true
    → new.unfit ≡ old.unfit → Gathers m x found found' old new
gathers_missing old new h f b u e = record {
  follows = nothing_follows (missing_ends h) f;
  links = links_same old new (missing_ends h) b;
  missing = inl (h, u);
  unfit = inr (λ a. missing_apart h a, e);
  judged = inl h;
}

-- a turn at a pair whose object is unfit
pub gathers_unfit : {m : ObjectMap} {x : Root} {found found' : List Root} (old new : Web) → IsUnfit m x
    → found' ≡ found → new.back ≡ old.back → new.missing ≡ old.missing
    → Updates pair_cmp old.unfit new.unfit x true → Gathers m x found found' old new
gathers_unfit old new h f b e u = record {
  follows = nothing_follows (unfit_ends h) f;
  links = links_same old new (unfit_ends h) b;
  missing = inr (λ a. missing_apart a h, e);
  unfit = inl (h, u);
  judged = inr (inl h);
}

-- a turn at a pair whose object is fit
pub gathers_fit : {m : ObjectMap} {x : Root} {found found' : List Root} {links : List LinkTo} (old new : Web)
    → HasLinks m x links → Extends found (map pair_of links) found'
    → LinksAdded old.back x (map pair_of links) new.back → new.missing ≡ old.missing
    → new.unfit ≡ old.unfit → Gathers m x found found' old new
gathers_fit old new h grown added k b = record {
  follows = links_follow h grown;
  links = λ p q. (
    λ c. ⊎_elim (λ a. inl a) (λ a. inr (a.0, links_only h q a.1)) ((added p q).0 c),
    λ s. (added p q).1 (⊎_elim (λ a. inl a) (λ a. inr (a.0, links_all h q a.1)) s),
  );
  missing = inr (λ a. missing_unfit a h.fit, k);
  unfit = inr (λ a. unfit_apart a h.fit, b);
  judged = inr (inr h.fit);
}

-- what the turns over some pairs have gathered
pub record Gathered (m : ObjectMap) (done : List Root) (web : Web) : Type 0 where
  pub links : (p q : Root) → LinksTo web.back p q ↔ (Contains done p × IsLink m p q)
  pub missing : HasThose (λ p. Contains done p × IsMissing m p) web.missing
  pub unfit : HasThose (λ p. Contains done p × IsUnfit m p) web.unfit
  pub judged : (p : Root) → Contains done p → IsJudged m p

-- before the first
gathered_none : (m : ObjectMap) (web : Web) → ((p q : Root) → LinksTo web.back p q → ⊥)
    → web.missing.keys ≡ [] → web.unfit.keys ≡ [] → Gathered m [] web
gathered_none m web none missing unfit = record {
  links = λ p q. (λ c. absurd (none p q c), λ h. absurd (contains_nothing p h.0));
  missing = those_none (IsMissing m) web.missing missing;
  unfit = those_none (IsUnfit m) web.unfit unfit;
  judged = λ p c. absurd (contains_nothing p c);
}

-- over one more
gathered_turn : {m : ObjectMap} {found found' : List Root} (done : List Root) (x : Root) (old new : Web)
    → Gathers m x found found' old new → Gathered m done old → Gathered m (done ++ x ∷ []) new
gathered_turn {m} done x old new g h = record {
  links = λ p q. (
    λ c. ⊎_elim
        (λ a. let was = (h.links p q).0 a in (Contains-append_left done (x ∷ []) p was.0, was.1))
        (λ a. subst (λ (y : Root). Contains (done ++ x ∷ []) y × IsLink m y q) (sym a.0) (Contains-push done x, a.1))
        ((g.links p q).0 c),
    λ k. (g.links p q).1 (⊎_elim (λ a. inl ((h.links p q).1 (a, k.1)))
        (λ a. inr (sym a, subst (λ (y : Root). IsLink m y q) (sym a) k.1)) (Contains-push_cases done x p k.0)),
  );
  missing = those_turn (IsMissing m) done x old.missing new.missing g.missing h.missing;
  unfit = those_turn (IsUnfit m) done x old.unfit new.unfit g.unfit h.unfit;
  judged = λ p c. ⊎_elim (λ a. h.judged p a) (λ a. subst (IsJudged m) a g.judged) (Contains-push_cases done x p c);
}

-- what the turns up to a cursor have come to
pub record Gathering (m : ObjectMap) (roots : List Root) (i : ℕ) (found : List Root) (web : Web) : Type 0 where
  pub spread : Spread (IsLink m) roots (take i found) found
  pub gathered : Gathered m (take i found) web

-- before the first turn
pub gathering_start : (m : ObjectMap) {roots found : List Root} (web : Web) → Extends [] roots found
    → ((p q : Root) → LinksTo web.back p q → ⊥) → web.missing.keys ≡ [] → web.unfit.keys ≡ []
    → Gathering m roots 0 found web
gathering_start m web h none missing unfit =
    record { spread = spread_start h; gathered = gathered_none m web none missing unfit }

-- over one turn
pub gathering_turn : {m : ObjectMap} {roots found found' : List Root} (i : ℕ) (x : Root) (old new : Web)
    → slice_get found i ≡ Some x → Gathering m roots i found old → Gathers m x found found' old new
    → Gathering m roots (i + 1) found' new
gathering_turn {m} {roots} {found} {found'} i x old new at h g = record {
  spread = spread_follows i x at h.spread g.follows;
  gathered = subst (λ (done : List Root). Gathered m done new) (sym (take_grown i at g.follows.grown))
      (gathered_turn (take i found) x old new g h.gathered);
}

-- at the end
pub gathering_end : {m : ObjectMap} {roots found : List Root} (i : ℕ) (web : Web) → take i found ≡ found
    → Gathering m roots i found web → IsWeb m roots web
gathering_end {m} {roots} {found} i web all h =
    let reached = λ (p : Root). spread_all h.spread all p in
    let done = λ (p : Root) (r : IsReached m roots p). subst (λ (xs : List Root). Contains xs p) (sym all) ((reached p).1 r) in
    let come = λ (p : Root) (c : Contains (take i found) p). (reached p).0 (subst (λ (xs : List Root). Contains xs p) all c) in
    record {
      links = λ p q. (
        λ c. let k = (h.gathered.links p q).0 c in (come p k.0, k.1),
        λ k. (h.gathered.links p q).1 (done p k.0, k.1),
      );
      missing = λ p. (
        λ t. let k = (h.gathered.missing p).0 t in (come p k.0, k.1),
        λ k. (h.gathered.missing p).1 (done p k.0, k.1),
      );
      unfit = λ p. (
        λ t. let k = (h.gathered.unfit p).0 t in (come p k.0, k.1),
        λ k. (h.gathered.unfit p).1 (done p k.0, k.1),
      );
      judged = λ p r. h.gathered.judged p (done p r);
    }
