-- The end of a walk beyond the known names.
use Rattle.std.proofs.Common.{◌≡◌, ℕ, ◌+◌, ◌≤◌, List, [], ◌∷◌, length, sum_by, Option, Some, refl, ap, subst, inl, inr, ◌⊎◌, ⊎_elim, ◌↔◌, arith}
use Rattle.std.specs.Prelude.{Contains, slice_get}
use Rattle.std.specs.BTreeSet.{BTreeSet, contains}
use Rattle.std.proofs.lemmas.Bool.{cases_Bool}
use Rattle.rad_base.proofs.Options.{one_value}
use Rattle.rad_base.specs.declared.names.Oid.{Oid}
use Rattle.rad_base.specs.Lists.{AllDiffer}
use Rattle.rad_base.specs.Order.{oid_cmp}
use Rattle.commit_graph.specs.declared.root.Root.{Root}
use Rattle.commit_graph.specs.declared.answer.Closure.{Closure}
use Rattle.commit_graph.specs.declared.answer.Closure.TheVariants.{Closed, Missing, BadObject}
use Rattle.commit_graph.specs.declared.facts.Facts.{Facts}
use Rattle.commit_graph.specs.Objects.{Object, ObjectMap}
use Rattle.commit_graph.specs.Pairs.{Accepts, IsFit, IsLink}
use Rattle.commit_graph.specs.Walks.{Reached}
use Rattle.commit_graph.specs.Closures.{IsReached, IsHeld, IsClosed, HasName}
use Rattle.commit_graph.specs.Beyond.{IsKnown, IsClosedName, AllClosed, IsLinkBeyond, IsReachedBeyond, CoversBeyond, CoversFitBeyond, CoversPairsBeyond, GrowsBeyond, link_count}
use Rattle.rad_base.proofs.Members.{contains_at, contains_head, contains_one}
use Rattle.commit_graph.proofs.Walked.{reached_root, reached_step, reached_stays, reached_along}
use Rattle.commit_graph.proofs.Spread.{Spread, spread_end}
use Rattle.commit_graph.proofs.ClosureTurns.{Covers}
use Rattle.commit_graph.proofs.Repeats.{length_within, sum_by-le, sum_by-one}
use Rattle.commit_graph.proofs.FactsHold.{IsQueuedName, IsOpenedName}
use Rattle.commit_graph.proofs.BeyondTurns.{Search}

-- what is reached over no known name is reached
pub reached_weaker : {m : ObjectMap} {known : BTreeSet Oid} {roots : List Root} (q : Root)
    → Reached (IsLinkBeyond m known) roots q → IsReached m roots q
reached_weaker = reached_along (λ x y l. l.link)

-- a link of a closed pair is held, and so is what it leads to
closed_step : {m : ObjectMap} {p q : Root} → IsClosed m (p ∷ []) → IsLink m p q
    → IsClosed m (q ∷ [])
closed_step {m} {p} {q} closed l = λ r reached.
    closed r (reached_stays (IsReached m (p ∷ []))
    (λ x c. subst (IsReached m (p ∷ [])) (contains_one q x c) (reached_step p q (reached_root p (contains_head p [])) l))
    (λ x y h s. reached_step x y h s) r reached)

-- a link of a pair is one of its name as the kind of its object
own_link : {m : ObjectMap} {p q : Root} (w : IsClosedName m p.oid) → IsLink m p q
    → IsLink m (record { oid = p.oid; kind = Some w.kind }) q
own_link w l = record {
  fit = record { kind = l.fit.kind; bytes = l.fit.bytes; there = l.fit.there; expected = ap (λ (o : Object). o.0) (one_value w.there l.fit.there); formed = l.fit.formed };
  link = l.link;
}

-- what is reached is reached over no known name, or is closed
beyond_or_closed : {m : ObjectMap} {known : BTreeSet Oid} {roots : List Root} → AllClosed m known
    → (q : Root) → IsReached m roots q
    → Reached (IsLinkBeyond m known) roots q ⊎ IsClosed m (q ∷ [])
beyond_or_closed {m} {known} {roots} all =
    reached_stays (λ (q : Root). Reached (IsLinkBeyond m known) roots q ⊎ IsClosed m (q ∷ []))
    (λ x c. inl (reached_root x c))
    (λ x y h s. ⊎_elim
    (λ r. ⊎_elim
    (λ b. let w = all x.oid b in inr (closed_step w.closed (own_link w s)))
    (λ b. inl (reached_step x y r (record { link = s; unknown = b })))
    (cases_Bool (contains oid_cmp known x.oid)))
    (λ w. inr (closed_step w s)) h)

-- so the pairs that a walk over no known name found serve for a closure
pub covers_beyond : {m : ObjectMap} {known : BTreeSet Oid} {roots done queue : List Root}
    → AllClosed m known → Spread (IsLinkBeyond m known) roots done queue → done ≡ queue
    → Covers m roots queue
covers_beyond all h e = record {
  sound = λ p c. reached_weaker p (h.sound p c);
  rest = λ p r. ⊎_elim
      (λ b. inl (spread_end h e p b))
      (λ closed. inr (closed p (reached_root p (contains_head p []))))
      (beyond_or_closed all p r);
}

-- ---- the steps

module _ (m : ObjectMap) (known : BTreeSet Oid) (roots : List Root) (i : ℕ) (queue : List Root) (facts : Facts) (missing unfit : Option Oid) (start ticks : ℕ) (h : Search m known roots i queue facts missing unfit start ticks) where
  queued_covered : (names : List Oid) → CoversBeyond m known roots names → (oid : Oid)
      → IsQueuedName queue known oid → Contains names oid
  queued_covered names cover oid t = cover oid (record { pair = t.pair; reached = h.spread.sound t.pair t.here; name = t.name }) t.unknown

  opened_covered : (names : List Oid) → CoversFitBeyond m known roots names → (oid : Oid)
      → IsOpenedName m queue known oid → Contains names oid
  opened_covered names cover oid t = cover oid (record { pair = t.pair; reached = h.spread.sound t.pair t.here; name = t.name; fit = t.fit }) t.unknown

  -- while it runs
  pub cost_within : (names fit : List Oid) → CoversBeyond m known roots names → CoversFitBeyond m known roots fit
      → ticks + length queue ≤ start + i + length names + sum_by (link_count m) fit + length roots
  cost_within names fit cover cover_fit =
      let a = sum_by-le (λ (n : Oid). 1) h.looked names h.holds.looked_once (λ n c. queued_covered names cover n (h.holds.looked_queued n c)) in
      let b = sum_by-le (link_count m) h.opened fit h.holds.opened_once (λ n c. opened_covered fit cover_fit n (h.holds.opened_queued n c)) in
      omega (arith, a, b, sum_by-one h.looked, sum_by-one names, h.cost, h.holds.lengths)

  -- of pairs that differ each is tested once
  pub cost_once : AllDiffer queue → (names : List Oid) (pairs : List Root)
      → CoversBeyond m known roots names → CoversPairsBeyond m known roots pairs
      → ticks ≤ start + length names + length pairs
  cost_once once names pairs cover cover_pairs =
      let a = sum_by-le (λ (n : Oid). 1) h.looked names h.holds.looked_once (λ n c. queued_covered names cover n (h.holds.looked_queued n c)) in
      let b = length_within queue pairs once (λ x c. cover_pairs x (h.spread.sound x c)) in
      omega (arith, a, b, sum_by-one h.looked, sum_by-one names, h.cost, h.within)

  -- there is a root while there is a pair
  pub has_root : (x : Root) → slice_get queue i ≡ Some x → 1 ≤ length roots
  has_root x e = let r = (h.spread.sound x (contains_at queue i x e)).among in omega (arith, r.1)

-- ---- the names that are known once all is closed

module _ {m : ObjectMap} {roots : List Root} (closed : IsClosed m roots) where
  -- a pair is held, and its links are reached
  abbrev Goes : Root → Type 0
  Goes q = IsHeld m q × ((y : Root) → IsLink m q y → IsReached m roots y)

  name_closed : (p : Root) → IsReached m roots p → IsClosedName m p.oid
  name_closed p r =
      let held = closed p r in
      let own : Root = record { oid = p.oid; kind = Some held.fit.kind } in
      let fit : IsFit m own = record { kind = held.fit.kind; bytes = held.fit.bytes; there = held.fit.there; expected = refl; formed = held.fit.formed } in
      let back : (y : Root) → IsLink m own y → IsLink m p y = λ y l. record {
        fit = record {
          kind = l.fit.kind;
          bytes = l.fit.bytes;
          there = l.fit.there;
          expected = subst (λ (o : Object). Accepts p.kind o.0) (one_value held.fit.there l.fit.there) held.fit.expected;
          formed = l.fit.formed;
        };
        link = l.link;
      } in
      let start : Goes own = (record { fit = fit; named = held.named }, λ y l. reached_step p y r (back y l)) in
      record {
        kind = held.fit.kind;
        bytes = held.fit.bytes;
        there = held.fit.there;
        closed = λ q k. (reached_stays Goes (λ x c. subst Goes (contains_one own x c) start)
            (λ x y g s. let at = g.1 y s in (closed y at, λ z l. reached_step y z at l)) q k).0;
      }

  -- names that were known, or are reached over none of them, are closed
  pub all_closed : (known known' : BTreeSet Oid) (pairs : List Root) → AllClosed m known
      → ((q : Root) → Contains pairs q → Reached (IsLinkBeyond m known) roots q)
      → ((oid : Oid) → IsKnown known' oid → IsKnown known oid ⊎ HasName pairs oid)
      → AllClosed m known'
  all_closed known known' pairs all reach only = λ oid k.
      ⊎_elim (λ a. all oid a)
      (λ a. subst (IsClosedName m) a.2 (name_closed a.0 (reached_weaker a.0 (reach a.0 a.1))))
      (only oid k)

-- the names of the pairs that were found are those that are reached over no known name
pub grown_iff : (m : ObjectMap) (known known' : BTreeSet Oid) (roots pairs : List Root) (oid : Oid)
    → ((q : Root) → Contains pairs q ↔ Reached (IsLinkBeyond m known) roots q)
    → (IsKnown known' oid → IsKnown known oid ⊎ HasName pairs oid)
    → (HasName pairs oid → IsKnown known' oid) → (IsKnown known oid → IsKnown known' oid)
    → IsKnown known' oid ↔ (IsKnown known oid ⊎ IsReachedBeyond m known roots oid)
grown_iff m known known' roots pairs oid reach only all kept = (
  λ h. ⊎_elim (λ a. inl a) (λ a. inr (record { pair = a.0; reached = (reach a.0).0 a.1; name = a.2 })) (only h),
  λ h. ⊎_elim kept (λ a. all (a.pair, (reach a.pair).1 a.reached, a.name)) h,
)

-- at another answer they stay
pub grown_not : (m : ObjectMap) (known new : BTreeSet Oid) (roots : List Root) (answer : Closure)
    → (answer ≡ Closed → ⊥) → new ≡ known → GrowsBeyond m known roots new answer
grown_not m known new roots Closed other e = absurd (other refl)
grown_not m known new roots (Missing oid) other e = e
grown_not m known new roots (BadObject oid) other e = e
