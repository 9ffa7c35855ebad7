-- A walk beyond the known names, turn by turn.
use Rattle.std.proofs.Common.{◌≡◌, ℕ, ◌+◌, ◌≤◌, false, List, [], ◌∷◌, length, take, map, Option, Some, None, refl, sym, ap, subst, inl, inr, ⊎_elim, ◌∙◌, arith, length-append}
use Rattle.std.specs.Prelude.{Contains, slice_get}
use Rattle.std.specs.BTreeSet.{BTreeSet, contains}
use Rattle.std.proofs.lemmas.Option.{slice_get_within}
use Rattle.rad_base.proofs.Options.{one_value, not_nothing}
use Rattle.rad_base.specs.declared.names.Oid.{Oid}
use Rattle.rad_base.specs.Order.{oid_cmp}
use Rattle.git_object.specs.declared.kind.Kind.{Kind}
use Rattle.git_object.specs.declared.link.LinkTo.{LinkTo}
use Rattle.git_object.specs.Links.{IsWellFormed}
use Rattle.commit_graph.specs.declared.root.Root.{Root}
use Rattle.commit_graph.specs.declared.look.Looked.{Looked}
use Rattle.commit_graph.specs.declared.look.Looked.TheVariants as look
use Rattle.commit_graph.specs.declared.facts.Fact.{Fact}
use Rattle.commit_graph.specs.declared.facts.Fact.TheVariants.{Missing, Malformed, Taken, Waiting}
use Rattle.commit_graph.specs.declared.facts.Facts.{Facts}
use Rattle.commit_graph.specs.Objects.{Object, ObjectMap}
use Rattle.commit_graph.specs.Lists.{Extends, Follows}
use Rattle.commit_graph.specs.Pairs.{Accepts, IsMissing, IsFit, IsUnfit, pair_of}
use Rattle.commit_graph.specs.Looks.{HasLinks}
use Rattle.commit_graph.specs.Beyond.{IsClosedName, AllClosed, IsLinkBeyond, links_in}
use Rattle.commit_graph.specs.Facts.{IsFact, IsFormed, IsAccepted, IsFitWith, ShowsFact, IsTested, IsTestedKnown, IsTestedNew, fact_in}
use Rattle.rad_base.proofs.Members.{contains_at, contains_head, contains_nothing}
use Rattle.commit_graph.proofs.Adding.{extends_none, extends_there, take_grown}
use Rattle.commit_graph.proofs.Walked.{reached_root}
use Rattle.commit_graph.proofs.Spread.{Spread, spread_follows, spread_start}
use Rattle.commit_graph.proofs.PairSteps.{links_all, links_only, missing_ends, unfit_ends, nothing_follows}
use Rattle.commit_graph.proofs.ClosureTurns.{Judges, Notes, Tally, judges_missing, judges_unfit, judges_fit, tally_start, tally_turn}
use Rattle.commit_graph.proofs.FactsHold.{FactsHold, AreLearned, IsOpenedName, learned, links_open, facts_alike, facts_now, facts_stay}

-- what a look lets the queue come to
abbrev pub Appends : Looked → List Root → List Root → Type 0
Appends look.Missing queue queue' = queue' ≡ queue
Appends look.Unfit queue queue' = queue' ≡ queue
Appends (look.Fit links) queue queue' = Extends queue (map pair_of links.now) queue'

-- the same for a look that is known by an equation
pub appends : (queue queue' : List Root) {shown shown' : Looked} → shown ≡ shown'
    → Appends shown' queue queue' → Appends shown queue queue'
appends queue queue' e h = subst (λ (shown : Looked). Appends shown queue queue') (sym e) h

-- a fit pair with the links that are followed from it
fit_with : (shown : Looked) (ls : List LinkTo) (oid : Oid) (missing unfit missing' unfit' : Option Oid) (queue queue' : List Root)
    → IsFitWith shown ls → Notes shown oid missing unfit missing' unfit' → Appends shown queue queue'
    → Extends queue (map pair_of ls) queue' × (missing' ≡ missing) × (unfit' ≡ unfit)
fit_with look.Missing ls oid missing unfit missing' unfit' queue queue' h n a = absurd h
fit_with look.Unfit ls oid missing unfit missing' unfit' queue queue' h n a = absurd h
fit_with (look.Fit links) ls oid missing unfit missing' unfit' queue queue' h n a = (subst (λ (xs : List LinkTo). Extends queue (map pair_of xs) queue') h a, n.0, n.1)

-- what the turns up to a cursor have come to, after so many steps
pub record Search (m : ObjectMap) (known : BTreeSet Oid) (roots : List Root) (i : ℕ) (queue : List Root) (facts : Facts) (missing unfit : Option Oid) (start ticks : ℕ) : Type 0 where
  pub looked : List Oid
  pub opened : List Oid
  pub holds : FactsHold m known roots queue (fact_in facts) looked opened
  pub spread : Spread (IsLinkBeyond m known) roots (take i queue) queue
  pub tally : Tally m (take i queue) missing unfit
  pub cost : ticks ≡ start + i + length looked
  pub within : i ≤ length queue

-- one turn: links are followed from the pair, its name is noted, and the facts still hold
record Turn (m : ObjectMap) (known : BTreeSet Oid) (roots : List Root) (p : Root) (queue queue' : List Root) (new : Facts) (missing unfit missing' unfit' : Option Oid) (looked : List Oid) (before after : ℕ) : Type 0 where
  follows : Follows (IsLinkBeyond m known) p queue queue'
  judges : Judges m p missing unfit missing' unfit'
  looked' : List Oid
  opened' : List Oid
  holds : FactsHold m known roots queue' (fact_in new) looked' opened'
  cost : after + length looked ≡ before + 1 + length looked'

-- an accepted pair of a closed name is fit
accepted_fit : {m : ObjectMap} {p : Root} → IsClosedName m p.oid → IsAccepted m p → IsFit m p
accepted_fit {m} {p} w a =
    let own : Root = record { oid = p.oid; kind = Some w.kind } in
    let fit = (w.closed own (reached_root own (contains_head own []))).fit in
    let same : (fit.kind, fit.bytes) ≡ (a.kind, a.bytes) = one_value fit.there a.there in
    record { kind = a.kind; bytes = a.bytes; there = a.there; expected = a.expected; formed = subst (λ (o : Object). IsWellFormed o.0 o.1) same fit.formed }

-- one that is not accepted is unfit
other_unfit : {m : ObjectMap} {p : Root} → IsClosedName m p.oid → (IsAccepted m p → ⊥) → IsUnfit m p
other_unfit w other = record { kind = w.kind; bytes = w.bytes; there = w.there; unfit = λ a _. other (record { kind = w.kind; bytes = w.bytes; there = w.there; expected = a }) }

module _ (m : ObjectMap) (known : BTreeSet Oid) (roots : List Root) (p : Root) (queue queue' : List Root) (old new : Facts) (shown : Looked) (missing unfit missing' unfit' : Option Oid) (looked opened : List Oid) (before after : ℕ) (h : FactsHold m known roots queue (fact_in old) looked opened) (here : Contains queue p) (n : Notes shown p.oid missing unfit missing' unfit') (a : Appends shown queue queue') where
  notes_as : (s : Looked) → shown ≡ s → Notes s p.oid missing unfit missing' unfit'
  notes_as s e = subst (λ (x : Looked). Notes x p.oid missing unfit missing' unfit') e n

  appends_as : (s : Looked) → shown ≡ s → Appends s queue queue'
  appends_as s e = subst (λ (x : Looked). Appends x queue queue') e a

  turn_known : AllClosed m known → IsTestedKnown m known p old new shown before after
      → Turn m known roots p queue queue' new missing unfit missing' unfit' looked before after
  turn_known all k =
      let w = all p.oid k.known_name in
      let none : (y : Root) → IsLinkBeyond m known p y → ⊥ = λ y l. cc (l.unknown, k.known_name) in
      let keeps : queue' ≡ queue → FactsHold m known roots queue' (fact_in new) looked opened =
      λ e. facts_alike h e (λ q. ap (λ (f : Facts). fact_in f q) k.same) in
      ⊎_elim
      (λ b.
      let f = fit_with shown [] _ _ _ _ _ _ _ b.1 n a in
      let e : queue' ≡ queue = extends_none f.0 in
      record {
        follows = nothing_follows none e;
        judges = judges_fit (accepted_fit w b.0) f.1 f.2;
        looked' = looked;
        opened' = opened;
        holds = keeps e;
        cost = omega (arith, k.cost);
      })
      (λ b.
      let t = notes_as look.Unfit b.1 in
      let e = appends_as look.Unfit b.1 in
      record {
        follows = nothing_follows none e;
        judges = judges_unfit (other_unfit w b.0) t.0 t.1.1 t.1.2;
        looked' = looked;
        opened' = opened;
        holds = keeps e;
        cost = omega (arith, k.cost);
      })
      k.shows

  module _ (unknown : contains oid_cmp known p.oid ≡ false) (fact fact' : Fact) (l : AreLearned m known roots queue (fact_in old) fact looked opened p.oid (before + 1) after) (now : (fact_in new p.oid ≡ Some fact') × ((q : Oid) → (p.oid ≡ q → ⊥) → fact_in new q ≡ l.mid q)) where
    -- the fact stays
    stays : fact' ≡ fact → queue' ≡ queue
        → FactsHold m known roots queue' (fact_in new) l.looked' opened
    stays s e = facts_alike l.holds e (facts_stay p.oid fact l.has (now.0 ∙ ap (λ (f : Fact). Some f) s, now.1))

    turn_missing : IsMissing m p → shown ≡ look.Missing → fact' ≡ fact
        → Turn m known roots p queue queue' new missing unfit missing' unfit' looked before after
    turn_missing o s e =
        let t = notes_as look.Missing s in
        let q = appends_as look.Missing s in
        record {
          follows = nothing_follows (λ y k. missing_ends o y k.link) q;
          judges = judges_missing o t.0.1 t.0.2 t.1;
          looked' = l.looked';
          opened' = opened;
          holds = stays e q;
          cost = omega (arith, l.cost);
        }

    turn_unfit : IsUnfit m p → shown ≡ look.Unfit → fact' ≡ fact
        → Turn m known roots p queue queue' new missing unfit missing' unfit' looked before after
    turn_unfit o s e =
        let t = notes_as look.Unfit s in
        let q = appends_as look.Unfit s in
        record {
          follows = nothing_follows (λ y k. unfit_ends o y k.link) q;
          judges = judges_unfit o t.0 t.1.1 t.1.2;
          looked' = l.looked';
          opened' = opened;
          holds = stays e q;
          cost = omega (arith, l.cost);
        }

    module _ (kind : Kind) (f : IsFormed m p.oid kind) where
      -- a pair that expects another kind
      turn_other : (Accepts p.kind kind → ⊥) × (shown ≡ look.Unfit) × (fact' ≡ fact)
          → Turn m known roots p queue queue' new missing unfit missing' unfit' looked before after
      turn_other b = turn_unfit (record { kind = kind; bytes = f.bytes; there = f.there; unfit = λ accepts _. b.0 accepts }) b.1 b.2

      linked : Accepts p.kind kind → HasLinks m p (links_in (m p.oid))
      linked expected = record {
        fit = record { kind = kind; bytes = f.bytes; there = f.there; expected = expected; formed = f.formed };
        are = ap links_in f.there;
      }

      follows_all : Accepts p.kind kind → {ls : List LinkTo} → ls ≡ links_in (m p.oid)
          → Extends queue (map pair_of ls) queue' → Follows (IsLinkBeyond m known) p queue queue'
      follows_all expected {ls} same grown = record {
        steps = map pair_of ls;
        all = λ y k. subst (λ (xs : List LinkTo). Contains (map pair_of xs) y) (sym same) (links_all (linked expected) y k.link);
        only = λ y c. record { link = links_only (linked expected) y (subst (λ (xs : List LinkTo). Contains (map pair_of xs) y) same c); unknown = unknown };
        grown = grown;
      }

      -- its links were taken before
      turn_again : fact ≡ Taken kind
          → Accepts p.kind kind × IsFitWith shown [] × (fact' ≡ Taken kind)
          → Turn m known roots p queue queue' new missing unfit missing' unfit' looked before after
      turn_again was b =
          let t = fit_with shown [] _ _ _ _ _ _ _ b.1 n a in
          let q : queue' ≡ queue = extends_none t.0 in
          let has : l.mid p.oid ≡ Some (Taken kind) = l.has ∙ ap (λ (x : Fact). Some x) was in
          record {
            follows = follows_all b.0 refl (extends_there (map pair_of (links_in (m p.oid))) q (λ y c. l.holds.opened_links p.oid kind has y c));
            judges = judges_fit (linked b.0).fit t.1 t.2;
            looked' = l.looked';
            opened' = opened;
            holds = stays (b.2 ∙ sym was) q;
            cost = omega (arith, l.cost);
          }

      -- they wait, and are taken
      turn_open : (found : List LinkTo) → ((k : Kind) → fact ≡ Taken k → ⊥)
          → found ≡ links_in (m p.oid)
          → Accepts p.kind kind × IsFitWith shown found × (fact' ≡ Taken kind)
          → Turn m known roots p queue queue' new missing unfit missing' unfit' looked before after
      turn_open found closed are b =
          let t = fit_with shown found _ _ _ _ _ _ _ b.1 n a in
          let opens : IsOpenedName m queue known p.oid = record { pair = p; here = here; name = refl; unknown = unknown; fit = (linked b.0).fit } in
          record {
            follows = follows_all b.0 are t.0;
            judges = judges_fit (linked b.0).fit t.1 t.2;
            looked' = l.looked';
            opened' = p.oid ∷ opened;
            holds = links_open kind found l.holds opens (λ k e. closed k (one_value l.has e)) are f t.0 (now.0 ∙ ap (λ (x : Fact). Some x) b.2) now.1;
            cost = omega (arith, l.cost);
          }

  turn_shown : contains oid_cmp known p.oid ≡ false → (fact fact' : Fact)
      → (l : AreLearned m known roots queue (fact_in old) fact looked opened p.oid (before + 1) after)
      → (fact_in new p.oid ≡ Some fact') × ((q : Oid) → (p.oid ≡ q → ⊥) → fact_in new q ≡ l.mid q)
      → IsFact m p.oid fact → ShowsFact p fact fact' shown
      → Turn m known roots p queue queue' new missing unfit missing' unfit' looked before after
  turn_shown unknown Missing fact' l now is s = turn_missing unknown Missing fact' l now is s.0 s.1
  turn_shown unknown Malformed fact' l now is s =
      turn_unfit unknown Malformed fact' l now (record { kind = is.kind; bytes = is.bytes; there = is.there; unfit = λ _ formed. is.formed formed }) s.0 s.1
  turn_shown unknown (Taken kind) fact' l now is s =
      ⊎_elim
      (λ b. turn_again unknown (Taken kind) fact' l now kind is refl b)
      (λ b. turn_other unknown (Taken kind) fact' l now kind is b)
      s
  turn_shown unknown (Waiting kind found) fact' l now is s =
      ⊎_elim
      (λ b. turn_open unknown (Waiting kind found) fact' l now kind is.0 found.items (λ k e. cc e) is.1 b)
      (λ b. turn_other unknown (Waiting kind found) fact' l now kind is.0 b)
      s

  turn_new : contains oid_cmp known p.oid ≡ false
      → IsTestedNew m p old new shown (before + 1) after
      → Turn m known roots p queue queue' new missing unfit missing' unfit' looked before after
  turn_new unknown k =
      let l = learned h (record { pair = p; here = here; name = refl; unknown = unknown }) k.learned in
      turn_shown unknown k.fact k.then_fact l (facts_now p.oid k.then_fact l.others k.facts) (l.holds.true_facts p.oid k.fact l.has) k.shows

  turn : AllClosed m known → IsTested m known p old new shown before after
      → Turn m known roots p queue queue' new missing unfit missing' unfit' looked before after
  turn all (inl k) = turn_known all k
  turn all (inr k) = turn_new k.0 k.1

-- over one turn
pub search_turn : {m : ObjectMap} {known : BTreeSet Oid} {roots : List Root} {i : ℕ} {queue queue' : List Root} {old new : Facts} {shown : Looked} {missing unfit missing' unfit' : Option Oid} {start before after : ℕ} (p : Root)
    → AllClosed m known → slice_get queue i ≡ Some p
    → Search m known roots i queue old missing unfit start before
    → IsTested m known p old new shown before after → Notes shown p.oid missing unfit missing' unfit'
    → Appends shown queue queue' → Search m known roots (i + 1) queue' new missing' unfit' start after
search_turn {m} {known} {roots} {i} {queue} {queue'} {old} {new} {shown} {missing} {unfit} {missing'} {unfit'} {start} {before} {after} p all at h tested n a =
    let t = turn m known roots p queue queue' old new shown missing unfit missing' unfit' h.looked h.opened before after h.holds (contains_at queue i p at) n a all tested in
    record {
      looked = t.looked';
      opened = t.opened';
      holds = t.holds;
      spread = spread_follows i p at h.spread t.follows;
      tally = tally_turn (take_grown i at t.follows.grown) t.judges h.tally;
      cost = omega (arith, t.cost, h.cost);
      within = omega (arith, slice_get_within queue i p at, ap length t.follows.grown.is, length-append queue t.follows.grown.more);
    }

-- before the first turn
pub search_start : (m : ObjectMap) (known : BTreeSet Oid) (roots queue : List Root) (facts : Facts) (start : ℕ)
    → Extends [] roots queue → ((oid : Oid) → fact_in facts oid ≡ None)
    → Search m known roots 0 queue facts None None start start
search_start m known roots queue facts start grown none = record {
  looked = [];
  opened = [];
  holds = record {
    true_facts = λ o f a. absurd (not_nothing a (none o));
    opened_links = λ o f a r c. absurd (not_nothing a (none o));
    looked_known = λ o c b. contains_nothing o c;
    opened_taken = λ o c. absurd (contains_nothing o c);
    looked_once = tt;
    opened_once = tt;
    looked_queued = λ o c. absurd (contains_nothing o c);
    opened_queued = λ o c. absurd (contains_nothing o c);
    lengths = omega (arith, ap length grown.is, grown.few);
  };
  spread = spread_start grown;
  tally = tally_start m;
  cost = omega arith;
  within = omega arith;
}
