-- What is known of names is true, and each name is looked up and its links are taken once.
use Rattle.std.proofs.Common.{◌≡◌, ℕ, ◌+◌, ◌≤◌, true, cond, List, ◌∷◌, length, map, sum_by, Option, Some, None, refl, sym, ap, subst, inl, inr, ◌⊎◌, ⊎_elim, ◌∙◌, arith, length-append, Bool, false}
use Rattle.std.specs.Prelude.{Contains}
use Rattle.std.specs.BTreeMap.{is_at}
use Rattle.std.specs.BTreeSet.{BTreeSet, contains}
use Rattle.std.proofs.lemmas.Bool.{cases_Bool}
use Rattle.std.proofs.lemmas.List.{length-map}
use Rattle.std.proofs.lemmas.List.Sums.{sum_by-cons}
use Rattle.std.proofs.lemmas.Map.Views.{tells_apart}
use Rattle.rad_base.specs.declared.names.Oid.{Oid}
use Rattle.rad_base.specs.Order.{oid_cmp}
use Rattle.rad_base.proofs.NameOrder.{apart, equals_itself, oid_exact}
use Rattle.rad_base.proofs.Options.{one_value, not_nothing}
use Rattle.git_object.specs.declared.kind.Kind.{Kind}
use Rattle.git_object.specs.declared.link.LinkTo.{LinkTo}
use Rattle.commit_graph.specs.declared.root.Root.{Root}
use Rattle.commit_graph.specs.declared.facts.Fact.{Fact}
use Rattle.commit_graph.specs.declared.facts.Fact.TheVariants.{Missing, Malformed, Taken, Waiting}
use Rattle.commit_graph.specs.Objects.{ObjectMap}
use Rattle.commit_graph.specs.Pairs.{IsFit, pair_of}
use Rattle.commit_graph.specs.Lists.{Extends}
use Rattle.rad_base.specs.Lists.{AllDiffer}
use Rattle.commit_graph.specs.Beyond.{links_in, link_count}
use Rattle.commit_graph.specs.Facts.{IsFact, IsFormed, IsLearned, IsRead}
use Rattle.rad_base.proofs.EachItem.{others_from}
use Rattle.rad_base.proofs.Members.{contains_cases}
use Rattle.commit_graph.proofs.Adding.{extends_kept}

-- a pair of this name, which is not known, is in the queue
pub record IsQueuedName (queue : List Root) (known : BTreeSet Oid) (oid : Oid) : Type 0 where
  pub pair : Root
  pub here : Contains queue pair
  pub name : pair.oid ≡ oid
  pub unknown : contains oid_cmp known oid ≡ false

-- a fit pair of this name, which is not known, is in the queue
pub record IsOpenedName (m : ObjectMap) (queue : List Root) (known : BTreeSet Oid) (oid : Oid) : Type 0 where
  pub pair : Root
  pub here : Contains queue pair
  pub name : pair.oid ≡ oid
  pub unknown : contains oid_cmp known oid ≡ false
  pub fit : IsFit m pair

-- the facts are true; links that were taken are in the queue; what was looked up and opened is a list without repeats; and the queue has no more than the roots and the links of what was opened
pub record FactsHold (m : ObjectMap) (known : BTreeSet Oid) (roots queue : List Root) (facts : Oid → Option Fact) (looked opened : List Oid) : Type 0 where
  pub true_facts : (n : Oid) (f : Fact) → facts n ≡ Some f → IsFact m n f
  pub opened_links : (n : Oid) (kind : Kind) → facts n ≡ Some (Taken kind) → (q : Root) → Contains (map pair_of (links_in (m n))) q → Contains queue q
  pub looked_known : (n : Oid) → Contains looked n → facts n ≡ None → ⊥
  pub opened_taken : (n : Oid) → Contains opened n → (kind : Kind) × (facts n ≡ Some (Taken kind))
  pub looked_once : AllDiffer looked
  pub opened_once : AllDiffer opened
  pub looked_queued : (n : Oid) → Contains looked n → IsQueuedName queue known n
  pub opened_queued : (n : Oid) → Contains opened n → IsOpenedName m queue known n
  pub lengths : length queue ≤ length roots + sum_by (link_count m) opened

-- ---- names are one or two

one_or_two : (n q : Oid) → (n ≡ q) ⊎ (n ≡ q → ⊥)
one_or_two n q = ⊎_elim
    (λ b. inl (tells_apart oid_exact n q b))
    (λ b. inr (λ e. let same : is_at (oid_cmp n) q ≡ true = subst (λ (z : Oid). is_at (oid_cmp n) z ≡ true) e (equals_itself n.0) in absurd (cc (same, b))))
    (cases_Bool (is_at (oid_cmp n) q))

at_same : {X : Type 0} (n q : Oid) (v w r : X) → r ≡ cond (is_at (oid_cmp n) q) v w → n ≡ q
    → r ≡ v
at_same {X} n q v w r e h = e ∙ ap (λ (b : Bool). cond b v w) (subst (λ (z : Oid). is_at (oid_cmp n) z ≡ true) h (equals_itself n.0))

at_other : {X : Type 0} (n q : Oid) (v w r : X) → r ≡ cond (is_at (oid_cmp n) q) v w
    → (n ≡ q → ⊥) → r ≡ w
at_other {X} n q v w r e h = e ∙ ap (λ (b : Bool). cond b v w) (apart oid_cmp oid_exact n q (λ k. h (sym k)))

-- ---- a name is learned

pub read_true : (m : ObjectMap) (n : Oid) (f : Fact) → IsRead m n f → IsFact m n f
read_true m n Missing h = h
read_true m n Malformed h = h
read_true m n (Taken kind) h = absurd h
read_true m n (Waiting kind found) h = h

not_taken : (m : ObjectMap) (n : Oid) (f : Fact) (kind : Kind) → IsRead m n f → f ≡ Taken kind → ⊥
not_taken m n Missing kind h e = cc e
not_taken m n Malformed kind h e = cc e
not_taken m n (Taken k) kind h e = h
not_taken m n (Waiting k found) kind h e = cc e

-- the facts once a name has this one
abbrev pub with_fact : (Oid → Option Fact) → Oid → Fact → Oid → Option Fact
with_fact facts n fact q = cond (is_at (oid_cmp n) q) (Some fact) (facts q)

pub record AreLearned (m : ObjectMap) (known : BTreeSet Oid) (roots queue : List Root) (facts : Oid → Option Fact) (fact : Fact) (looked opened : List Oid) (n : Oid) (before after : ℕ) : Type 0 where
  pub looked' : List Oid
  pub mid : Oid → Option Fact
  pub holds : FactsHold m known roots queue mid looked' opened
  pub has : mid n ≡ Some fact
  pub others : (q : Oid) → (n ≡ q → ⊥) → mid q ≡ facts q
  pub cost : after + length looked ≡ before + length looked'

module _ {m : ObjectMap} {known : BTreeSet Oid} {roots queue : List Root} {facts : Oid → Option Fact} {fact : Fact} {looked opened : List Oid} {n : Oid} {before after : ℕ} (h : FactsHold m known roots queue facts looked opened) (queued : IsQueuedName queue known n) where
  looked_up : facts n ≡ None → IsRead m n fact → after ≡ before + 1
      → AreLearned m known roots queue facts fact looked opened n before after
  looked_up unknown is cost =
      let mid : Oid → Option Fact = with_fact facts n fact in
      let here : mid n ≡ Some fact = at_same n n (Some fact) (facts n) _ refl refl in
      let others : (q : Oid) → (n ≡ q → ⊥) → mid q ≡ facts q = λ q ne. at_other n q (Some fact) (facts q) _ refl ne in
      let fresh : (q : Oid) → (facts q ≡ None → ⊥) → n ≡ q → ⊥ = λ q a e. a (subst (λ (k : Oid). facts k ≡ None) e unknown) in
      record {
        looked' = n ∷ looked;
        mid = mid;
        has = here;
        others = others;
        cost = omega (arith, cost);
        holds = record {
          true_facts = λ q f e. ⊎_elim
              (λ a. let P : Oid → Type 0 = λ k. mid k ≡ Some f → IsFact m k f in
              subst P a (λ e'. subst (IsFact m n) (one_value here e') (read_true m n fact is)) e)
              (λ a. h.true_facts q f (sym (others q a) ∙ e)) (one_or_two n q);
          opened_links = λ q kind e r c. ⊎_elim
              (λ a. let P : Oid → Type 0 = λ k. mid k ≡ Some (Taken kind) → ⊥ in
              absurd (subst P a (λ e'. not_taken m n fact kind is (one_value here e')) e))
              (λ a. h.opened_links q kind (sym (others q a) ∙ e) r c) (one_or_two n q);
          looked_known = λ q c e. ⊎_elim
              (λ a. not_nothing (subst (λ (k : Oid). mid k ≡ Some fact) a here) e)
              (λ a. ⊎_elim
              (λ b. not_nothing (subst (λ (k : Oid). mid k ≡ Some fact) b here) e)
              (λ b. h.looked_known q a (sym (others q b) ∙ e)) (one_or_two n q))
              (contains_cases n looked q c);
          opened_taken = λ q c.
              let taken = h.opened_taken q c in
              (taken.0, others q (fresh q (not_nothing taken.1)) ∙ taken.1);
          looked_once = (others_from n looked (λ c. h.looked_known n c unknown), h.looked_once);
          opened_once = h.opened_once;
          looked_queued = λ q c. ⊎_elim (λ a. subst (IsQueuedName queue known) a queued) (λ a. h.looked_queued q a) (contains_cases n looked q c);
          opened_queued = h.opened_queued;
          lengths = h.lengths;
        };
      }

  pub learned : IsLearned m n (facts n) fact before after
      → AreLearned m known roots queue facts fact looked opened n before after
  learned (inl (e, t)) = record {
    looked' = looked;
    mid = facts;
    holds = h;
    has = e;
    others = λ q ne. refl;
    cost = omega (arith, t);
  }
  learned (inr (e, is, t)) = looked_up e is t

-- ---- the links of the name n go onto the queue

pub links_open : {m : ObjectMap} {known : BTreeSet Oid} {roots queue queue' : List Root} {facts facts' : Oid → Option Fact} {looked opened : List Oid} {n : Oid} (kind : Kind) (ls : List LinkTo)
    → FactsHold m known roots queue facts looked opened → IsOpenedName m queue known n
    → ((k : Kind) → facts n ≡ Some (Taken k) → ⊥) → ls ≡ links_in (m n) → IsFormed m n kind
    → Extends queue (map pair_of ls) queue' → facts' n ≡ Some (Taken kind)
    → ((q : Oid) → (n ≡ q → ⊥) → facts' q ≡ facts q)
    → FactsHold m known roots queue' facts' looked (n ∷ opened)
links_open {m} {known} {roots} {queue} {queue'} {facts} {facts'} {looked} {opened} {n} kind ls h here closed are formed grown now others =
    let more : (r : Root) → Contains queue r → Contains queue' r = λ r c. extends_kept grown r c in
    let queued : (q : Oid) → IsQueuedName queue known q → IsQueuedName queue' known q = λ q t. record { pair = t.pair; here = more t.pair t.here; name = t.name; unknown = t.unknown } in
    let opens : (q : Oid) → IsOpenedName m queue known q → IsOpenedName m queue' known q = λ q t. record { pair = t.pair; here = more t.pair t.here; name = t.name; unknown = t.unknown; fit = t.fit } in
    record {
      true_facts = λ q f a. ⊎_elim
          (λ b. let P : Oid → Type 0 = λ k. facts' k ≡ Some f → IsFact m k f in
          subst P b (λ e'. subst (IsFact m n) (one_value now e') formed) a)
          (λ b. h.true_facts q f (sym (others q b) ∙ a)) (one_or_two n q);
      opened_links = λ q k a r c. ⊎_elim
          (λ b. let P : Oid → Type 0 = λ o. Contains (map pair_of (links_in (m o))) r → Contains queue' r in
          subst P b (λ c'. grown.has r (subst (λ (xs : List LinkTo). Contains (map pair_of xs) r) (sym are) c')) c)
          (λ b. more r (h.opened_links q k (sym (others q b) ∙ a) r c)) (one_or_two n q);
      looked_known = λ q c a. ⊎_elim
          (λ b. not_nothing (subst (λ (k : Oid). facts' k ≡ Some (Taken kind)) b now) a)
          (λ b. h.looked_known q c (sym (others q b) ∙ a)) (one_or_two n q);
      opened_taken = λ q c. ⊎_elim
          (λ b. (kind, subst (λ (k : Oid). facts' k ≡ Some (Taken kind)) b now))
          (λ b. let taken = h.opened_taken q (⊎_elim (λ d. absurd (b d)) (λ d. d) (contains_cases n opened q c)) in
          (taken.0, others q b ∙ taken.1)) (one_or_two n q);
      looked_once = h.looked_once;
      opened_once = (others_from n opened (λ c. let taken = h.opened_taken n c in closed taken.0 taken.1), h.opened_once);
      looked_queued = λ q c. queued q (h.looked_queued q c);
      opened_queued = λ q c. ⊎_elim (λ b. subst (IsOpenedName m queue' known) b (opens n here)) (λ b. opens q (h.opened_queued q b)) (contains_cases n opened q c);
      lengths = omega (arith, h.lengths, ap length grown.is, length-append queue grown.more, grown.few, length-map ls pair_of, ap length are, sum_by-cons (link_count m) n opened);
    }

-- the same, of facts that are equal at each name
pub facts_alike : {m : ObjectMap} {known : BTreeSet Oid} {roots queue queue' : List Root} {facts facts' : Oid → Option Fact} {looked opened : List Oid}
    → FactsHold m known roots queue facts looked opened → queue' ≡ queue
    → ((q : Oid) → facts' q ≡ facts q) → FactsHold m known roots queue' facts' looked opened
facts_alike {m} {known} {roots} {queue} {queue'} {facts} {facts'} {looked} {opened} h s e =
    subst (λ (xs : List Root). FactsHold m known roots xs facts' looked opened) (sym s) (record {
      true_facts = λ q x a. h.true_facts q x (sym (e q) ∙ a);
      opened_links = λ q x a r c. h.opened_links q x (sym (e q) ∙ a) r c;
      looked_known = λ q c a. h.looked_known q c (sym (e q) ∙ a);
      opened_taken = λ q c. let taken = h.opened_taken q c in (taken.0, e q ∙ taken.1);
      looked_once = h.looked_once;
      opened_once = h.opened_once;
      looked_queued = h.looked_queued;
      opened_queued = h.opened_queued;
      lengths = h.lengths;
    })

-- the fact of n is now this one, in place of what was known of it before
pub facts_now : {facts mid facts' : Oid → Option Fact} (n : Oid) (fact : Fact)
    → ((q : Oid) → (n ≡ q → ⊥) → mid q ≡ facts q)
    → ((q : Oid) → facts' q ≡ with_fact facts n fact q)
    → (facts' n ≡ Some fact) × ((q : Oid) → (n ≡ q → ⊥) → facts' q ≡ mid q)
facts_now {facts} n fact others set = (
  at_same n n (Some fact) (facts n) _ (set n) refl,
  λ q ne. at_other n q (Some fact) (facts q) _ (set q) ne ∙ sym (others q ne),
)

-- so where it stays, all stay
pub facts_stay : {mid facts' : Oid → Option Fact} (n : Oid) (fact : Fact) → mid n ≡ Some fact
    → (facts' n ≡ Some fact) × ((q : Oid) → (n ≡ q → ⊥) → facts' q ≡ mid q) → (q : Oid)
    → facts' q ≡ mid q
facts_stay {mid} {facts'} n fact has now q = ⊎_elim
    (λ a. subst (λ (k : Oid). facts' k ≡ mid k) a (now.0 ∙ sym has))
    (λ a. now.1 q a) (one_or_two n q)
