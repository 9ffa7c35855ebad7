-- What the turns of a closure come to, and its answer.
use Rattle.std.proofs.Common.{◌≡◌, ℕ, ◌+◌, List, [], ◌∷◌, ◌++◌, ◌<◌, length, take, get_or, Option, Some, None, refl, sym, subst, inl, inr, ◌⊎◌, ⊎_elim, ◌↔◌}
use Rattle.std.specs.Prelude.{Contains, slice_get, map}
use Rattle.std.proofs.lemmas.List.{take_more}
use Rattle.std.proofs.lemmas.List.Elements.{Contains-push_cases}
use Rattle.git_object.specs.declared.link.LinkTo.{LinkTo}
use Rattle.rad_base.specs.declared.names.Oid.{Oid}
use Rattle.rad_base.proofs.Members.{contains_nothing}
use Rattle.commit_graph.specs.declared.root.Root.{Root}
use Rattle.commit_graph.specs.declared.look.Looked.{Looked}
use Rattle.commit_graph.specs.declared.look.Looked.TheVariants as looked
use Rattle.commit_graph.specs.Objects.{ObjectMap, IsNamed}
use Rattle.commit_graph.specs.Lists.{Extends, Follows}
use Rattle.commit_graph.specs.Pairs.{IsMissing, IsFit, IsUnfit, IsLink, pair_of}
use Rattle.commit_graph.specs.Looks.{HasLinks, IsLesser, Shows, answer_of}
use Rattle.commit_graph.specs.Closures.{IsLeast, HasNone, IsHeld, IsReached, IsReachedAs, IsClosure}
use Rattle.commit_graph.proofs.Adding.{take_grown}
use Rattle.commit_graph.proofs.LeastNames.{LeastSoFar, IsAmong, Noted, least_turn}
use Rattle.commit_graph.proofs.PairSteps.{missing_unfit, missing_apart, unfit_apart, missing_ends, unfit_ends, nothing_follows, links_follow}
use Rattle.commit_graph.proofs.Spread.{Spread, spread_start, spread_follows}

-- a pair is without an object, or has one that is unfit or fit
abbrev pub IsJudged : ObjectMap → Root → Type 0
IsJudged m p = IsMissing m p ⊎ (IsUnfit m p ⊎ IsFit m p)

-- one pair was judged, and its name noted
pub record Judges (m : ObjectMap) (x : Root) (missing unfit missing' unfit' : Option Oid) : Type 0 where
  pub missing_noted : Noted (IsMissing m) x missing missing'
  pub unfit_noted : Noted (IsUnfit m) x unfit unfit'
  pub judged : IsJudged m x

-- a pair without an object
pub judges_missing : {m : ObjectMap} {x : Root} {missing missing' unfit unfit' : Option Oid} {next : Oid}
    → IsMissing m x → missing' ≡ Some next → IsLesser missing x.oid next → unfit' ≡ unfit
    → Judges m x missing unfit missing' unfit'
judges_missing {next = next} h k l b = record {
  missing_noted = inl (h, (next, k, l));
  unfit_noted = inr (λ a. missing_apart h a, b);
  judged = inl h;
}

-- a pair whose object is unfit
pub judges_unfit : {m : ObjectMap} {x : Root} {missing missing' unfit unfit' : Option Oid} {next : Oid}
    → IsUnfit m x → missing' ≡ missing → unfit' ≡ Some next → IsLesser unfit x.oid next
    → Judges m x missing unfit missing' unfit'
judges_unfit {next = next} h k b l = record {
  missing_noted = inr (λ a. missing_apart a h, k);
  unfit_noted = inl (h, (next, b, l));
  judged = inr (inl h);
}

-- a pair whose object is fit
pub judges_fit : {m : ObjectMap} {x : Root} {missing missing' unfit unfit' : Option Oid} → IsFit m x
    → missing' ≡ missing → unfit' ≡ unfit → Judges m x missing unfit missing' unfit'
judges_fit h k b = record {
  missing_noted = inr (λ a. missing_unfit a h, k);
  unfit_noted = inr (λ a. unfit_apart a h, b);
  judged = inr (inr h);
}

-- the pairs of a list are judged, with the least names
pub record Tally (m : ObjectMap) (done : List Root) (missing unfit : Option Oid) : Type 0 where
  pub least_missing : LeastSoFar (IsAmong (IsMissing m) done) missing
  pub least_unfit : LeastSoFar (IsAmong (IsUnfit m) done) unfit
  pub judged : (p : Root) → Contains done p → IsJudged m p

-- no pair is judged
pub tally_start : (m : ObjectMap) → Tally m [] None None
tally_start m = record {
  least_missing = λ n a. contains_nothing a.pair a.here;
  least_unfit = λ n a. contains_nothing a.pair a.here;
  judged = λ p c. absurd (contains_nothing p c);
}

-- one more is
pub tally_turn : {m : ObjectMap} {done done' : List Root} {x : Root} {missing unfit missing' unfit' : Option Oid}
    → done' ≡ done ++ x ∷ [] → Judges m x missing unfit missing' unfit' → Tally m done missing unfit
    → Tally m done' missing' unfit'
tally_turn {m} {done} {done'} {x} {missing} {unfit} {missing'} {unfit'} step j h = record {
  least_missing = least_turn (IsMissing m) done done' x missing missing' step j.missing_noted h.least_missing;
  least_unfit = least_turn (IsUnfit m) done done' x unfit unfit' step j.unfit_noted h.least_unfit;
  judged = λ p c. ⊎_elim (λ a. h.judged p a) (λ a. subst (IsJudged m) a j.judged)
      (Contains-push_cases done x p (subst (λ (xs : List Root). Contains xs p) step c));
}

-- what a look lets the least names come to
abbrev pub Notes : Looked → Oid → Option Oid → Option Oid → Option Oid → Option Oid → Type 0
Notes looked.Missing oid missing unfit missing' unfit' = ((next : Oid) × (missing' ≡ Some next) × IsLesser missing oid next) × (unfit' ≡ unfit)
Notes looked.Unfit oid missing unfit missing' unfit' = (missing' ≡ missing) × ((next : Oid) × (unfit' ≡ Some next) × IsLesser unfit oid next)
Notes (looked.Fit found) oid missing unfit missing' unfit' = (missing' ≡ missing) × (unfit' ≡ unfit)

-- the same for a look that is known by an equation
pub notes : (oid : Oid) (missing unfit missing' unfit' : Option Oid) {shown shown' : Looked}
    → shown ≡ shown' → Notes shown' oid missing unfit missing' unfit'
    → Notes shown oid missing unfit missing' unfit'
notes oid missing unfit missing' unfit' e h =
    subst (λ (shown : Looked). Notes shown oid missing unfit missing' unfit') (sym e) h

judges_shown : {m : ObjectMap} {x : Root} {missing unfit missing' unfit' : Option Oid} (shown : Looked)
    → Shows m x shown → Notes shown x.oid missing unfit missing' unfit'
    → Judges m x missing unfit missing' unfit'
judges_shown looked.Missing h n = judges_missing h n.0.1 n.0.2 n.1
judges_shown looked.Unfit h n = judges_unfit h n.0 n.1.1 n.1.2
judges_shown (looked.Fit found) h n = judges_fit h.fit n.0 n.1

-- one turn of a loop over pairs
pub tally_more : {m : ObjectMap} (pairs : List Root) (i : ℕ) (d : Root) {missing unfit missing' unfit' : Option Oid} (shown : Looked)
    → i < length pairs → Shows m (get_or pairs i d) shown → Tally m (take i pairs) missing unfit
    → Notes shown (get_or pairs i d).oid missing unfit missing' unfit'
    → Tally m (take (i + 1) pairs) missing' unfit'
tally_more pairs i d shown l s h n = tally_turn (take_more pairs i d l) (judges_shown shown s n) h

-- the pairs of a list are reached, and each other pair that is reached is held
pub record Covers (m : ObjectMap) (roots done : List Root) : Type 0 where
  pub sound : (p : Root) → Contains done p → IsReached m roots p
  pub rest : (p : Root) → IsReached m roots p → Contains done p ⊎ IsHeld m p

-- the list of all pairs that are reached
pub covers_all : {m : ObjectMap} {roots done : List Root}
    → ((p : Root) → Contains done p ↔ IsReached m roots p) → Covers m roots done
covers_all all = record { sound = λ p c. (all p).0 c; rest = λ p r. inl ((all p).1 r) }

module _ (m : ObjectMap) (roots done : List Root) (covers : Covers m roots done) where
  here : (P : Root → Type 0) → ((p : Root) → P p → IsFit m p → ⊥) → (p : Root) → P p
      → IsReached m roots p → Contains done p
  here P apart p holds r = ⊎_elim (λ a. a) (λ a. absurd (apart p holds a.fit)) (covers.rest p r)

  least_reached : (P : Root → Type 0) → ((p : Root) → P p → IsFit m p → ⊥) → (oid : Oid)
      → IsLeast (IsAmong P done) oid → IsLeast (IsReachedAs m roots P) oid
  least_reached P apart oid l = record {
    holds = record { pair = l.holds.pair; reached = covers.sound l.holds.pair l.holds.here; holds = l.holds.holds; name = l.holds.name };
    least = λ k f. l.least k (record { pair = f.pair; here = here P apart f.pair f.holds f.reached; holds = f.holds; name = f.name });
  }

  none_reached : (P : Root → Type 0) → ((p : Root) → P p → IsFit m p → ⊥)
      → HasNone (IsAmong P done) → HasNone (IsReachedAs m roots P)
  none_reached P apart l = λ k f. l k (record { pair = f.pair; here = here P apart f.pair f.holds f.reached; holds = f.holds; name = f.name })

  no_missing : HasNone (IsAmong (IsMissing m) done) → HasNone (IsReachedAs m roots (IsMissing m))
  no_missing = none_reached (IsMissing m) (λ p h f. missing_unfit h f)

  -- all that is reached was judged, or is held: the answer is that of a closure
  pub closure_answer : (missing unfit : Option Oid) → IsNamed m → Tally m done missing unfit
      → IsClosure m roots (answer_of missing unfit)
  closure_answer (Some oid) unfit named h = least_reached (IsMissing m) (λ p a f. missing_unfit a f) oid h.least_missing
  closure_answer None (Some oid) named h = (no_missing h.least_missing, least_reached (IsUnfit m) (λ p a f. unfit_apart a f) oid h.least_unfit)
  closure_answer None None named h = λ p r.
      ⊎_elim
      (λ c. ⊎_elim
      (λ a. absurd (h.least_missing p.oid (record { pair = p; here = c; holds = a; name = refl })))
      (λ a. ⊎_elim
      (λ b. absurd (h.least_unfit p.oid (record { pair = p; here = c; holds = b; name = refl })))
      (λ b. record { fit = b; named = named p.oid (b.kind, b.bytes) b.there })
      a)
      (h.judged p c))
      (λ held. held)
      (covers.rest p r)

-- one turn of the walk: the pair was looked up, its links were added, and its name was noted
pub record Turned (m : ObjectMap) (x : Root) (found : List Root) (missing unfit : Option Oid) (found' : List Root) (missing' unfit' : Option Oid) : Type 0 where
  pub follows : Follows (IsLink m) x found found'
  pub judges : Judges m x missing unfit missing' unfit'

-- a turn at a pair without an object
pub turned_missing : {m : ObjectMap} {x : Root} {found found' : List Root} {missing missing' unfit unfit' : Option Oid} {next : Oid}
    → IsMissing m x → found' ≡ found → missing' ≡ Some next → IsLesser missing x.oid next
    → unfit' ≡ unfit → Turned m x found missing unfit found' missing' unfit'
turned_missing h f k l b = record { follows = nothing_follows (missing_ends h) f; judges = judges_missing h k l b }

-- a turn at a pair whose object is unfit
pub turned_unfit : {m : ObjectMap} {x : Root} {found found' : List Root} {missing missing' unfit unfit' : Option Oid} {next : Oid}
    → IsUnfit m x → found' ≡ found → missing' ≡ missing → unfit' ≡ Some next
    → IsLesser unfit x.oid next → Turned m x found missing unfit found' missing' unfit'
turned_unfit h f k b l = record { follows = nothing_follows (unfit_ends h) f; judges = judges_unfit h k b l }

-- a turn at a pair whose object is fit
pub turned_fit : {m : ObjectMap} {x : Root} {found found' : List Root} {missing missing' unfit unfit' : Option Oid} {links : List LinkTo}
    → HasLinks m x links → Extends found (map pair_of links) found' → missing' ≡ missing
    → unfit' ≡ unfit → Turned m x found missing unfit found' missing' unfit'
turned_fit h g k b = record { follows = links_follow h g; judges = judges_fit h.fit k b }

-- what the turns up to a cursor have come to
pub record Progress (m : ObjectMap) (roots : List Root) (i : ℕ) (found : List Root) (missing unfit : Option Oid) : Type 0 where
  pub spread : Spread (IsLink m) roots (take i found) found
  pub tally : Tally m (take i found) missing unfit

-- before the first turn
pub progress_start : (m : ObjectMap) {roots found : List Root} → Extends [] roots found
    → Progress m roots 0 found None None
progress_start m h = record { spread = spread_start h; tally = tally_start m }

-- over one turn
pub progress_turn : {m : ObjectMap} {roots : List Root} {i : ℕ} {found found' : List Root} {missing unfit missing' unfit' : Option Oid} (x : Root)
    → slice_get found i ≡ Some x → Progress m roots i found missing unfit
    → Turned m x found missing unfit found' missing' unfit'
    → Progress m roots (i + 1) found' missing' unfit'
progress_turn {i = i} x at h t = record {
  spread = spread_follows i x at h.spread t.follows;
  tally = tally_turn (take_grown i at t.follows.grown) t.judges h.tally;
}
