-- Marks set backwards over steps, source by source in rising order, are the least names that are reached.
use Rattle.std.proofs.Math.Seq.{drop-cons, drop-append_seam}
use Rattle.std.proofs.lemmas.List.{take_more, take-append-le, take-append-drop, drop-append-le}
use Rattle.std.proofs.lemmas.Option.{slice_get_within, get_or_from_slice_get}
use Rattle.std.proofs.Common.{◌≡◌, ℕ, suc, ◌≤◌, arith, append-nil, ◌+◌, ◌<◌, take, length, Option, Some, None, List, [], ◌∷◌, ◌++◌, refl, sym, ap, subst, inl, inr, ◌⊎◌, ⊎_elim, ◌∙◌, drop}
use Rattle.std.specs.Prelude.{Contains, slice_get}
use Rattle.std.specs.declared.cmp.Ordering.{Ordering}
use Rattle.std.specs.declared.cmp.Ordering.TheVariants.{Less, Equal, Greater}
use Rattle.std.specs.Ordering.{ordering_reverse}
use Rattle.std.proofs.lemmas.List.Elements.{Contains-push_cases, Contains-append_left, Contains-append_right, Contains-append_cases, Contains-push}
use Rattle.rad_base.specs.declared.names.Oid.{Oid}
use Rattle.rad_base.specs.Order.{oid_cmp}
use Rattle.rad_base.proofs.NameOrder.{oid_total, oid_exact, not_below_itself}
use Rattle.rad_base.proofs.Members.{contains_nothing}
use Rattle.rad_base.proofs.Options.{one_value, not_nothing}
use Rattle.commit_graph.specs.Walks.{Walk}
use Rattle.commit_graph.specs.Marking.{AtMost, FindsSource, MarkedBy}

pub at_most_itself : (a : Oid) → AtMost a a
at_most_itself a h = not_below_itself a.0 h

module _ (a b c : Oid) (h : AtMost a b) (k : AtMost b c) (below : oid_cmp c a ≡ Less) where
  above_by : (o : Ordering) → oid_cmp b a ≡ o → ⊥
  above_by Less e = h e
  above_by Equal e = k (subst (λ (x : Oid). oid_cmp c x ≡ Less) (sym (oid_exact b a e)) below)
  above_by Greater e = k (oid_total.trans c a b below (oid_total.antisymm a b ∙ ap ordering_reverse e))

pub at_most_along : (a b c : Oid) → AtMost a b → AtMost b c → AtMost a c
at_most_along a b c h k below = above_by a b c h k below (oid_cmp b a) refl

-- a list from a cursor on
module _ {X : Type 0} where
  split_here : (queue : List X) (i : ℕ) (x : X) → slice_get queue i ≡ Some x → drop i queue ≡ x ∷ drop (i + 1) queue
  split_here queue i x at =
      let step : suc i ≡ i + 1 = omega arith in
      drop-cons queue i x (slice_get_within queue i x at) ∙ ap (λ (y : X). y ∷ drop (suc i) queue) (get_or_from_slice_get queue i x x at)
      ∙ ap (λ (n : ℕ). x ∷ drop n queue) step

  pub drop_here : (queue : List X) (i : ℕ) (x : X) → slice_get queue i ≡ Some x → Contains (drop i queue) x
  drop_here queue i x at =
      subst (λ (ys : List X). Contains ys x) (sym (split_here queue i x at))
      (Contains-append_left (x ∷ []) (drop (i + 1) queue) x (Contains-push [] x))

  pub taken_in : (queue : List X) (i : ℕ) (q : X) → Contains (take i queue) q → Contains queue q
  taken_in queue i q c = subst (λ (ys : List X). Contains ys q) (take-append-drop i queue) (Contains-append_left (take i queue) (drop i queue) q c)

  pub take_pushed : (queue queue' more : List X) (i : ℕ) (x : X)
      → slice_get queue i ≡ Some x → queue' ≡ queue ++ more → take (i + 1) queue' ≡ take i queue ++ x ∷ []
  take_pushed queue queue' more i x at e =
      let within : i < length queue = slice_get_within queue i x at in
      ap (take (i + 1)) e ∙ take-append-le (i + 1) queue more (omega arith)
      ∙ take_more queue i x within ∙ ap (λ (y : X). take i queue ++ y ∷ []) (get_or_from_slice_get queue i x x at)

  pub drop_grown : (queue queue' more : List X) (i : ℕ) (q : X) → i ≤ length queue → queue' ≡ queue ++ more
      → Contains (drop i queue') q → Contains (drop i queue) q ⊎ Contains more q
  drop_grown queue queue' more i q l e c =
      Contains-append_cases (drop i queue) more q (subst (λ (ys : List X). Contains ys q) (ap (drop i) e ∙ drop-append-le i queue more l) c)

  pub drop_pushed : (queue queue' more : List X) (i : ℕ) (x q : X) → slice_get queue i ≡ Some x → queue' ≡ queue ++ more
      → Contains (drop (i + 1) queue') q → Contains (drop i queue) q ⊎ Contains more q
  drop_pushed queue queue' more i x q at e c =
      let within : i < length queue = slice_get_within queue i x at in
      ⊎_elim
      (λ a. inl (subst (λ (ys : List X). Contains ys q) (sym (split_here queue i x at)) (Contains-append_right (x ∷ []) (drop (i + 1) queue) q a)))
      (λ a. inr a)
      (drop_grown queue queue' more (i + 1) q (omega arith) e c)

  pub taken_all : (queue queue' more : List X) (i : ℕ) (q : X) → i ≤ length queue → queue' ≡ queue ++ more
      → Contains (take i queue') q → Contains (take i queue) q
  taken_all queue queue' more i q l e c = subst (λ (ys : List X). Contains ys q) (ap (take i) e ∙ take-append-le i queue more l) c

  pub drop_none : (queue : List X) → drop (length queue) queue ≡ []
  drop_none queue = ap (drop (length queue)) (sym (append-nil queue)) ∙ drop-append_seam queue []

-- a step before a walk
pub finds_step : {X : Type 0} (Step : X → X → Type 0) (P : X → Type 0) (name : X → Oid) (p q : X) (oid : Oid) → Step p q
    → FindsSource Step P name q oid → FindsSource Step P name p oid
finds_step Step P name p q oid s h = record { source = h.source; holds = h.holds; path = q ∷ h.path; walk = (s, h.walk); named = h.named }

-- the marks of the pairs done are followed backwards, and each mark is the name of a source that is reached
pub record Marking {X : Type 0} (Step : X → X → Type 0) (P : X → Type 0) (name : X → Oid)
    (mark : X → Option Oid) (queue : List X) (i : ℕ) (top : Oid) : Type 0 where
  pub sound : (p : X) (oid : Oid) → mark p ≡ Some oid → FindsSource Step P name p oid
  pub queued : (p : X) (oid : Oid) → mark p ≡ Some oid → Contains queue p
  pub bound : (p : X) (oid : Oid) → mark p ≡ Some oid → AtMost oid top
  pub back : (p q : X) (oid : Oid) → Contains (take i queue) q → mark q ≡ Some oid → Step p q → MarkedBy mark p oid
  pub listed : (q : X) → Contains queue q → (oid : Oid) × (mark q ≡ Some oid)
  pub fresh : (q : X) → Contains (drop i queue) q → mark q ≡ Some top

-- the sources so far have marks that are not above their names
abbrev pub Sourced : {X : Type 0} → (X → Oid) → (X → Option Oid) → List X → Type 0
Sourced {X} name mark sources = (s : X) → Contains sources s → MarkedBy mark s (name s)

module _ {X : Type 0} (Step : X → X → Type 0) (P : X → Type 0) (name : X → Oid) (mark : X → Option Oid)
    (back : (p q : X) (oid : Oid) → mark q ≡ Some oid → Step p q → MarkedBy mark p oid)
    (sourced : (s : X) → P s → MarkedBy mark s (name s)) where
  -- a pair from which a walk leads to a source has a mark, which is not above the source's name
  pub marked_walk : (p : X) (path : List X) (s : X) → P s → Walk Step p path s → MarkedBy mark p (name s)
  marked_walk p [] s h w = subst (λ (x : X). MarkedBy mark x (name s)) (sym w) (sourced s h)
  marked_walk p (x ∷ xs) s h w =
      let next = marked_walk x xs s h w.1 in
      let mine = back p x next.0 next.1 w.0 in
      (mine.0, mine.1, at_most_along mine.0 next.0 (name s) mine.2 next.2)

  -- so a mark is at most the name of each source that is reached
  pub mark_least : (p : X) (oid : Oid) → mark p ≡ Some oid → (other : Oid) → FindsSource Step P name p other → oid_cmp other oid ≡ Less → ⊥
  mark_least p oid e other f below =
      let m = marked_walk p f.path f.source f.holds f.walk in
      let same : m.0 ≡ oid = one_value m.1 e in
      m.2 (subst (λ (x : Oid). oid_cmp (name f.source) x ≡ Less) (sym same)
      (subst (λ (x : Oid). oid_cmp x oid ≡ Less) (sym f.named) below))

  -- and a pair without a mark reaches no source
  pub no_mark : (p : X) → mark p ≡ None → (other : Oid) → FindsSource Step P name p other → ⊥
  no_mark p e other f =
      let m = marked_walk p f.path f.source f.holds f.walk in
      not_nothing m.1 e

-- some pairs are marked with a name, but those that had a mark
pub record Sets {X : Type 0} (Chosen : X → Type 0) (top : Oid) (mark mark' : X → Option Oid) (queue queue' : List X) : Type 0 where
  pub kept : (p : X) (o : Oid) → mark p ≡ Some o → mark' p ≡ Some o
  pub all : (p : X) → Chosen p → (o : Oid) × (mark' p ≡ Some o)
  pub only : (p : X) (o : Oid) → mark' p ≡ Some o → (mark p ≡ Some o) ⊎ (Chosen p × (o ≡ top))
  pub more : List X
  pub queued : queue' ≡ queue ++ more
  pub added : (p : X) → Contains more p → mark' p ≡ Some top
  pub each : (p : X) (o : Oid) → mark' p ≡ Some o → (mark p ≡ Some o) ⊎ Contains more p

module _ {X : Type 0} {Step : X → X → Type 0} {P : X → Type 0} {name : X → Oid} {mark mark' : X → Option Oid} {queue queue' : List X} {i : ℕ} {top : Oid}
    (Chosen : X → Type 0) (h : Marking Step P name mark queue i top) (g : Sets Chosen top mark mark' queue queue') where
  -- all marks are at most the round's name
  grown_bound : (p : X) (oid : Oid) → mark' p ≡ Some oid → AtMost oid top
  grown_bound p oid e = ⊎_elim (λ a. h.bound p oid a) (λ a. subst (λ (o : Oid). AtMost o top) (sym a.1) (at_most_itself top)) (g.only p oid e)

  grown_queued : (p : X) (oid : Oid) → mark' p ≡ Some oid → Contains queue' p
  grown_queued p oid e = subst (λ (ys : List X). Contains ys p) (sym g.queued)
      (⊎_elim (λ a. Contains-append_left queue g.more p (h.queued p oid a)) (λ a. Contains-append_right queue g.more p a) (g.each p oid e))

  grown_listed : (q : X) → Contains queue' q → (oid : Oid) × (mark' q ≡ Some oid)
  grown_listed q c =
      ⊎_elim (λ a. let m = h.listed q a in (m.0, g.kept q m.0 m.1)) (λ a. (top, g.added q a))
      (Contains-append_cases queue g.more q (subst (λ (ys : List X). Contains ys q) g.queued c))

  -- a pair that had a mark has it still
  same_mark : (q : X) (o oid : Oid) → mark q ≡ Some o → mark' q ≡ Some oid → mark q ≡ Some oid
  same_mark q o oid a e = a ∙ ap (λ (y : Oid). Some y) (one_value (g.kept q o a) e)

  grown_back : (p q : X) (oid : Oid) → Contains (take i queue) q → mark' q ≡ Some oid → Contains queue q → Step p q → MarkedBy mark' p oid
  grown_back p q oid c e here s =
      let l = h.listed q here in
      let m = h.back p q oid c (same_mark q l.0 oid l.1 e) s in
      (m.0, g.kept p m.0 m.1, m.2)

  grown_fresh : (q : X) (j : ℕ) → Contains (drop j queue) q ⊎ Contains g.more q → ((q : X) → Contains (drop j queue) q → mark q ≡ Some top) → mark' q ≡ Some top
  grown_fresh q j c fresh = ⊎_elim (λ a. g.kept q top (fresh q a)) (λ a. g.added q a) c

-- one turn of a round: the marked pair at the cursor is followed backwards
module _ {X : Type 0} {Step : X → X → Type 0} {P : X → Type 0} {name : X → Oid} {mark mark' : X → Option Oid} {queue queue' : List X} {i : ℕ} {top : Oid} (x : X)
    (at : slice_get queue i ≡ Some x)
    (h : Marking Step P name mark queue i top) (g : Sets (λ p. Step p x) top mark mark' queue queue') where
  marked : mark x ≡ Some top
  marked = h.fresh x (drop_here queue i x at)

  turn_sound : (p : X) (oid : Oid) → mark' p ≡ Some oid → FindsSource Step P name p oid
  turn_sound p oid e =
      ⊎_elim (λ a. h.sound p oid a)
      (λ a. subst (FindsSource Step P name p) (sym a.1) (finds_step Step P name p x top a.0 (h.sound x top marked)))
      (g.only p oid e)

  turn_back : (p q : X) (oid : Oid) → Contains (take (i + 1) queue') q → mark' q ≡ Some oid → Step p q → MarkedBy mark' p oid
  turn_back p q oid c e s =
      ⊎_elim
      (λ a. grown_back (λ p. Step p x) h g p q oid a e (taken_in queue i q a) s)
      (λ a. let is : oid ≡ top = one_value e (subst (λ (y : X). mark' y ≡ Some top) a (g.kept x top marked)) in
      let m = g.all p (subst (λ (y : X). Step p y) (sym a) s) in
      (m.0, m.1, subst (AtMost m.0) (sym is) (grown_bound (λ p. Step p x) h g p m.0 m.1)))
      (Contains-push_cases (take i queue) x q (subst (λ (ys : List X). Contains ys q) (take_pushed queue queue' g.more i x at g.queued) c))

  pub marking_turn : Marking Step P name mark' queue' (i + 1) top
  marking_turn = record {
    sound = turn_sound;
    queued = grown_queued (λ p. Step p x) h g;
    bound = grown_bound (λ p. Step p x) h g;
    back = turn_back;
    listed = grown_listed (λ p. Step p x) h g;
    fresh = λ q c. grown_fresh (λ p. Step p x) h g q i (drop_pushed queue queue' g.more i x q at g.queued c) h.fresh;
  }

-- a round begins at a source of a name that is not below that of the round before; all that was marked was followed
module _ {X : Type 0} {Step : X → X → Type 0} {P : X → Type 0} {name : X → Oid} {mark mark' : X → Option Oid} {queue queue' : List X} {i : ℕ} {top : Oid} (x : X)
    (holds : P x) (above : AtMost top (name x)) (end : i ≡ length queue)
    (h : Marking Step P name mark queue i top) (g : Sets (λ p. p ≡ x) (name x) mark mark' queue queue') where
  none : drop i queue ≡ []
  none = ap (λ (n : ℕ). drop n queue) end ∙ drop_none queue

  raised : Marking Step P name mark queue i (name x)
  raised = record {
    sound = h.sound;
    queued = h.queued;
    bound = λ p oid e. at_most_along oid top (name x) (h.bound p oid e) above;
    back = h.back;
    listed = h.listed;
    fresh = λ q c. absurd (contains_nothing q (subst (λ (ys : List X). Contains ys q) none c));
  }

  pub marking_source : Marking Step P name mark' queue' i (name x)
  marking_source = record {
    sound = λ p oid e. ⊎_elim (λ a. h.sound p oid a)
        (λ a. record { source = x; holds = holds; path = []; walk = a.0; named = sym a.1 }) (g.only p oid e);
    queued = grown_queued (λ p. p ≡ x) raised g;
    bound = grown_bound (λ p. p ≡ x) raised g;
    back = λ p q oid c e s.
        let before = taken_all queue queue' g.more i q (omega (arith, end)) g.queued c in
        grown_back (λ p. p ≡ x) raised g p q oid before e (taken_in queue i q before) s;
    listed = grown_listed (λ p. p ≡ x) raised g;
    fresh = λ q c. grown_fresh (λ p. p ≡ x) raised g q i (drop_grown queue queue' g.more i q (omega (arith, end)) g.queued c) raised.fresh;
  }

  -- and the source has a mark that is at most its name
  pub source_marked : MarkedBy mark' x (name x)
  source_marked = let m = g.all x refl in (m.0, m.1, grown_bound (λ p. p ≡ x) raised g x m.0 m.1)

-- a mark that was set stays
pub sourced_stays : {X : Type 0} {Chosen : X → Type 0} {top : Oid} {mark mark' : X → Option Oid} {queue queue' : List X} (s : X) (o : Oid)
    → Sets Chosen top mark mark' queue queue' → MarkedBy mark s o → MarkedBy mark' s o
sourced_stays s o g m = (m.0, g.kept s m.0 m.1, m.2)
