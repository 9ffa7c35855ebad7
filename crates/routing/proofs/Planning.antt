-- The plan of the pairs that were looked at.
use Rattle.std.proofs.Common.{◌≡◌, ℕ, ◌+◌, ◌-◌, ◌≤◌, ◌<◌, true, false, Some, None, List, [], ◌∷◌, ◌++◌, length, get_or, take, set, refl, sym, ap, subst, inl, inr, ◌⊎◌, ⊎_elim, ◌∙◌, arith}
use Rattle.std.specs.Prelude.{Contains, min}
use Rattle.std.specs.BTreeMap.{get}
use Rattle.std.specs.List.Sorted.{IsStrictlySortedBy}
use Rattle.std.specs.Cmp.{tied_itself}
use Rattle.std.specs.Option.{option_cmp}
use Rattle.std.specs.Ordering.{ordering_reverse, ordering_then}
use Rattle.std.specs.declared.cmp.Ordering.{Ordering}
use Rattle.std.specs.declared.cmp.Ordering.TheVariants.{Less, Equal, Greater}
use Rattle.std.proofs.lemmas.Bool.{cases_lt, false≢true}
use Rattle.std.proofs.lemmas.List.{append-nil, append_assoc, length-append, length-set, same_from_push, take_all, take_more, take_more_set}
use Rattle.std.proofs.lemmas.List.Elements.{Contains-append_left, Contains-push, Contains-push_cases}
use Rattle.rad_base.proofs.Members.{contains_cases, contains_head, contains_nothing, contains_tail}
use Rattle.rad_base.proofs.Options.{not_nothing, one_value, some_is}
use Rattle.rad_base.proofs.Rising.{rises_below, rises_more, rises_tail}
use Rattle.rad_base.specs.Order.{IsAboveBy, RisesBy, nid_cmp, rid_cmp}
use Rattle.rad_base.specs.declared.names.Nid.{Nid}
use Rattle.rad_base.specs.declared.names.Rid.{Rid}
use Rattle.routing.specs.Plans.{AddsPlanned, IsPlan, IsPlanned, Lessens, Serves}
use Rattle.routing.specs.RoutesOf.{pair_cmp}
use Rattle.routing.specs.RulesFiles.{Said, allows}
use Rattle.routing.specs.declared.planned.Planned.{Planned}
use Rattle.routing.specs.declared.routes.Routes.{Routes}
use Rattle.routing.proofs.Links.{AreLinks, LinkMap, Peers, link_before, link_is}
use Rattle.routing.proofs.PairOrder.{Pair, below_next, one_pair, pair_as, pair_from}
use Rattle.routing.proofs.RidOrder.{rid_exact, rid_total}

abbrev planned_at : Rid → ℕ → Planned
planned_at rid link = record { rid = rid; link = link }

-- ------ the last of a plan

-- the last takes the lesser of its link and another
pub lessens : (items : List Planned) (n : ℕ) (last : Planned) (rid : Rid) (link least : ℕ) → length items ≡ n → 0 < n → last ≡ get_or items (n - 1) last
    → last.rid ≡ rid → least ≡ min last.link link → Lessens items rid link (set items (n - 1) (planned_at last.rid least))
lessens items n last rid link least long some is same e = record {
  before = take (n - 1) items;
  last = last.link;
  was = sym (take_all (n - 1 + 1) items (omega (arith, long, some))) ∙ take_more items (n - 1) last (omega (arith, long, some))
      ∙ ap (λ (p : Planned). take (n - 1) items ++ p ∷ []) (sym is ∙ ap (λ (r : Rid). planned_at r last.link) same);
  is = sym (take_all (n - 1 + 1) (set items (n - 1) (planned_at last.rid least)) (omega (arith, long, some, length-set items (n - 1) (planned_at last.rid least))))
      ∙ take_more_set items (n - 1) (planned_at last.rid least) (omega (arith, long, some))
      ∙ ap (λ (p : Planned). take (n - 1) items ++ p ∷ []) (ap (λ (r : Rid). planned_at r least) same ∙ ap (λ (l : ℕ). planned_at rid l) e);
}

-- the last is one and no other
pub last_other : (items : List Planned) (n : ℕ) (last : Planned) (rid : Rid) → length items ≡ n → 0 < n → last ≡ get_or items (n - 1) last
    → (last.rid ≡ rid → ⊥) → (before : List Planned) (p : Planned) → items ≡ before ++ p ∷ [] → p.rid ≡ rid → ⊥
last_other items n last rid long some is other before p e same =
    let whole : items ≡ take (n - 1) items ++ last ∷ [] =
    sym (take_all (n - 1 + 1) items (omega (arith, long, some))) ∙ take_more items (n - 1) last (omega (arith, long, some))
    ∙ ap (λ (q : Planned). take (n - 1) items ++ q ∷ []) (sym is) in
    let one : last ≡ p = (same_from_push (take (n - 1) items) before last p (sym whole ∙ e)).1 in
    other (ap (λ (q : Planned). q.rid) one ∙ same)

-- and nothing has none
pub no_last : (items : List Planned) (rid : Rid) → length items ≡ 0 → (before : List Planned) (p : Planned) → items ≡ before ++ p ∷ [] → p.rid ≡ rid → ⊥
no_last items rid none before p e same = absurd (omega (arith, none, ap (λ (xs : List Planned). length xs) e, length-append before (p ∷ [])))

-- ------ what is planned of some pairs

-- a pair of the repository has a peer at the link
pub record Leads (links : LinkMap) (pairs : List Pair) (rid : Rid) (link : ℕ) : Type 0 where
  pub node : Nid
  pub there : Contains pairs (rid, Some node)
  pub at : get nid_cmp links node ≡ Some link

-- the rules allow it, and this is the least link to which its pairs lead
pub record IsLeast (rules : Said) (links : LinkMap) (pairs : List Pair) (planned : Planned) : Type 0 where
  pub allowed : allows rules planned.rid ≡ true
  pub leads : Leads links pairs planned.rid planned.link
  pub least : (link : ℕ) → Leads links pairs planned.rid link → planned.link ≤ link

-- each repository that is allowed and leads to a link is planned at its least
pub record ArePlanned (rules : Said) (links : LinkMap) (pairs : List Pair) (plan : List Planned) : Type 0 where
  pub from : (planned : Planned) → Contains plan planned → IsLeast rules links pairs planned
  pub all : (rid : Rid) (link : ℕ) → allows rules rid ≡ true → Leads links pairs rid link → (least : ℕ) × Contains plan (planned_at rid least)
  pub rising : RisesBy (λ p. p.rid) rid_cmp plan

-- of no pairs nothing is planned
pub none_planned : (rules : Said) (links : LinkMap) → ArePlanned rules links [] []
none_planned rules links = record {
  from = λ p h. absurd (contains_nothing p h);
  all = λ rid link allowed h. absurd (contains_nothing (rid, Some h.node) h.there);
  rising = tt;
}

leads_more : (links : LinkMap) (pairs : List Pair) (pair : Pair) (rid : Rid) (link : ℕ) → Leads links pairs rid link → Leads links (pairs ++ pair ∷ []) rid link
leads_more links pairs pair rid link h = record { node = h.node; there = Contains-append_left pairs (pair ∷ []) (rid, Some h.node) h.there; at = h.at }

-- the pair itself leads there
abbrev LeadsBy : LinkMap → Pair → Rid → ℕ → Type 0
LeadsBy links pair rid link = (node : Nid) × (pair ≡ (rid, Some node)) × (get nid_cmp links node ≡ Some link)

leads_cases : (links : LinkMap) (pairs : List Pair) (pair : Pair) (rid : Rid) (link : ℕ) → Leads links (pairs ++ pair ∷ []) rid link
    → Leads links pairs rid link ⊎ LeadsBy links pair rid link
leads_cases links pairs pair rid link h =
    ⊎_elim (λ t. inl (record { node = h.node; there = t; at = h.at })) (λ e. inr (h.node, e, h.at)) (Contains-push_cases pairs pair (rid, Some h.node) h.there)

-- ------ one pair more

-- that leads nowhere
abbrev LeadsNowhere : Said → LinkMap → Pair → Type 0
LeadsNowhere rules links pair = (rid : Rid) (link : ℕ) → allows rules rid ≡ true → LeadsBy links pair rid link → ⊥

planned_same : (rules : Said) (links : LinkMap) (pairs : List Pair) (pair : Pair) (plan : List Planned) → LeadsNowhere rules links pair
    → ArePlanned rules links pairs plan → ArePlanned rules links (pairs ++ pair ∷ []) plan
planned_same rules links pairs pair plan nowhere h =
    let less = λ (rid : Rid) (link : ℕ) (a : allows rules rid ≡ true) (g : Leads links (pairs ++ pair ∷ []) rid link).
    ⊎_elim (λ (l : Leads links pairs rid link). l) (λ b. absurd (nowhere rid link a b)) (leads_cases links pairs pair rid link g) in
    record {
      from = λ p c. let is = h.from p c in record {
        allowed = is.allowed;
        leads = leads_more links pairs pair p.rid p.link is.leads;
        least = λ link g. is.least link (less p.rid link is.allowed g);
      };
      all = λ rid link a g. h.all rid link a (less rid link a g);
      rising = h.rising;
    }

no_node : (rules : Said) (links : LinkMap) (pair : Pair) → pair.1 ≡ None → LeadsNowhere rules links pair
no_node rules links pair e r link a b = not_nothing (ap (λ (p : Pair). p.1) b.1) e

is_blocked : (rules : Said) (links : LinkMap) (pair : Pair) → allows rules pair.0 ≡ false → LeadsNowhere rules links pair
is_blocked rules links pair e r link a b = let same : pair.0 ≡ r = ap (λ (p : Pair). p.0) b.1 in false≢true (sym e ∙ ap (allows rules) same ∙ a)

no_link : (rules : Said) (links : LinkMap) (pair : Pair) (node : Nid) → pair.1 ≡ Some node → get nid_cmp links node ≡ None → LeadsNowhere rules links pair
no_link rules links pair node is e r link a b = not_nothing b.2 (ap (get nid_cmp links) (one_value (ap (λ (p : Pair). p.1) b.1) is) ∙ e)

abbrev pair_of : Rid → Nid → Pair
pair_of rid node = (rid, Some node)

one_node : (r s : Rid) (m n : Nid) → pair_of r m ≡ pair_of s n → m ≡ n
one_node r s m n e = some_is m n (ap (λ (p : Pair). p.1) e)

-- a repository is not below itself
not_below : (r s : Rid) → rid_cmp r s ≡ Less → r ≡ s → ⊥
not_below r s h e = let itself : rid_cmp s s ≡ Less = subst (λ (x : Rid). rid_cmp x s ≡ Less) e h in cc (tied_itself rid_total s, itself)

-- of rising items the last is above each before it
before_last : (plan : List Planned) (last : Planned) → RisesBy (λ p. p.rid) rid_cmp (plan ++ last ∷ []) → (p : Planned) → Contains plan p
    → rid_cmp p.rid last.rid ≡ Less
before_last [] last rising p h = absurd (contains_nothing p h)
before_last (x ∷ plan) last rising p h =
    ⊎_elim (λ e. subst (λ (q : Planned). rid_cmp q.rid last.rid ≡ Less) e
    (rises_below (λ q. q.rid) rid_cmp rid_total x (plan ++ last ∷ []) rising last (Contains-push plan last)))
    (λ t. before_last plan last (rises_tail (λ q. q.rid) rid_cmp x (plan ++ last ∷ []) rising) p t)
    (contains_cases x plan p h)

above_all : (plan : List Planned) (rid : Rid) → ((p : Planned) → Contains plan p → rid_cmp p.rid rid ≡ Less) → IsAboveBy (λ p. p.rid) rid_cmp plan rid
above_all [] rid below = tt
above_all (x ∷ []) rid below = below x (contains_head x [])
above_all (x ∷ y ∷ plan) rid below = above_all (y ∷ plan) rid (λ p h. below p (contains_tail x (y ∷ plan) p h))

-- rising items still rise when the last changes, but its name
rises_last_link : (plan : List Planned) (rid : Rid) (a b : ℕ) → RisesBy (λ p. p.rid) rid_cmp (plan ++ planned_at rid a ∷ [])
    → RisesBy (λ p. p.rid) rid_cmp (plan ++ planned_at rid b ∷ [])
rises_last_link [] rid a b rising = tt
rises_last_link (x ∷ []) rid a b rising = (rising.0, tt)
rises_last_link (x ∷ y ∷ plan) rid a b rising = (rising.0, rises_last_link (y ∷ plan) rid a b rising.1)

module _ (rules : Said) (links : LinkMap) (pairs : List Pair) (rid : Rid) (node : Nid) (link : ℕ) (plan new : List Planned)
    (allowed : allows rules rid ≡ true) (at : get nid_cmp links node ≡ Some link)
    (ordered : (pair : Pair) → Contains pairs pair → rid_cmp pair.0 rid ≡ Greater → ⊥) (h : ArePlanned rules links pairs plan) where
  abbrev more : List Pair
  more = pairs ++ (rid, Some node) ∷ []

  itself : Leads links more rid link
  itself = record { node = node; there = Contains-push pairs (rid, Some node); at = at }

  by_itself : (r : Rid) (l : ℕ) → LeadsBy links (rid, Some node) r l → (rid ≡ r) × (link ≡ l)
  by_itself r l b = (ap (λ (p : Pair). p.0) b.1, one_value at (ap (get nid_cmp links) (one_node rid r node b.0 b.1) ∙ b.2))

  -- what is planned of another repository
  still : (p : Planned) → Contains plan p → (p.rid ≡ rid → ⊥) → IsLeast rules links more p
  still p c other = let is = h.from p c in record {
    allowed = is.allowed;
    leads = leads_more links pairs (rid, Some node) p.rid p.link is.leads;
    least = λ l g. ⊎_elim (λ t. is.least l t) (λ b. absurd (other (sym (by_itself p.rid l b).0))) (leads_cases links pairs (rid, Some node) p.rid l g);
  }

  -- no planned repository is above
  at_most : (p : Planned) → Contains plan p → rid_cmp p.rid rid ≡ Greater → ⊥
  at_most p c = let is = h.from p c in ordered (p.rid, Some is.leads.node) is.leads.there

  lessened : Lessens plan rid link new → ArePlanned rules links more new
  lessened l =
      let was = λ (q : Planned) (c : Contains (l.before ++ planned_at rid l.last ∷ []) q). subst (λ (ps : List Planned). Contains ps q) (sym l.was) c in
      let is = λ (q : Planned) (c : Contains (l.before ++ planned_at rid (min l.last link) ∷ []) q). subst (λ (ps : List Planned). Contains ps q) (sym l.is) c in
      let rising = subst (λ (ps : List Planned). RisesBy (λ p. p.rid) rid_cmp ps) l.was h.rising in
      let last = h.from (planned_at rid l.last) (was (planned_at rid l.last) (Contains-push l.before (planned_at rid l.last))) in
      let here : Contains new (planned_at rid (min l.last link)) = is (planned_at rid (min l.last link)) (Contains-push l.before (planned_at rid (min l.last link))) in
      let leads : Leads links more rid (min l.last link) =
      ⊎_elim
      (λ lt. let e : l.last ≡ min l.last link = omega (arith, lt) in
      subst (λ (n : ℕ). Leads links more rid n) e (leads_more links pairs (rid, Some node) rid l.last last.leads))
      (λ le. let e : link ≡ min l.last link = omega (arith, le) in subst (λ (n : ℕ). Leads links more rid n) e itself)
      (cases_lt l.last link) in
      let lasts : IsLeast rules links more (planned_at rid (min l.last link)) = record {
        allowed = allowed;
        leads = leads;
        least = λ n g. ⊎_elim (λ t. let le = last.least n t in omega (arith, le)) (λ b. let e = (by_itself rid n b).1 in omega (arith, e))
            (leads_cases links pairs (rid, Some node) rid n g);
      } in
      record {
        from = λ p c. ⊎_elim
            (λ t. still p (was p (Contains-append_left l.before (planned_at rid l.last ∷ []) p t)) (not_below p.rid rid (before_last l.before (planned_at rid l.last) rising p t)))
            (λ e. subst (λ (q : Planned). IsLeast rules links more q) e lasts)
            (Contains-push_cases l.before (planned_at rid (min l.last link)) p (subst (λ (ps : List Planned). Contains ps p) l.is c));
        all = λ r n a g. ⊎_elim
            (λ t. let old = h.all r n a t in ⊎_elim
            (λ u. (old.0, is (planned_at r old.0) (Contains-append_left l.before (planned_at rid (min l.last link) ∷ []) (planned_at r old.0) u)))
            (λ e. (min l.last link, subst (λ (s : Rid). Contains new (planned_at s (min l.last link))) (ap (λ (q : Planned). q.rid) e) here))
            (Contains-push_cases l.before (planned_at rid l.last) (planned_at r old.0) (subst (λ (ps : List Planned). Contains ps (planned_at r old.0)) l.was old.1)))
            (λ b. (min l.last link, subst (λ (s : Rid). Contains new (planned_at s (min l.last link))) (by_itself r n b).0 here))
            (leads_cases links pairs (rid, Some node) r n g);
        rising = subst (λ (ps : List Planned). RisesBy (λ p. p.rid) rid_cmp ps) (sym l.is) (rises_last_link l.before rid l.last (min l.last link) rising);
      }

  -- where the last is of another repository, all are below
  appended : (below : (p : Planned) → Contains plan p → rid_cmp p.rid rid ≡ Less) → new ≡ plan ++ planned_at rid link ∷ [] → ArePlanned rules links more new
  appended below e =
      let is = λ (q : Planned) (c : Contains (plan ++ planned_at rid link ∷ []) q). subst (λ (ps : List Planned). Contains ps q) (sym e) c in
      let here : Contains new (planned_at rid link) = is (planned_at rid link) (Contains-push plan (planned_at rid link)) in
      let new_least : IsLeast rules links more (planned_at rid link) = record {
        allowed = allowed;
        leads = itself;
        least = λ n g. ⊎_elim
            (λ t. let old = h.all rid n allowed t in absurd (not_below rid rid (below (planned_at rid old.0) old.1) refl))
            (λ b. let same = (by_itself rid n b).1 in omega (arith, same))
            (leads_cases links pairs (rid, Some node) rid n g);
      } in
      record {
        from = λ p c. ⊎_elim
            (λ t. still p t (not_below p.rid rid (below p t)))
            (λ i. subst (λ (q : Planned). IsLeast rules links more q) i new_least)
            (Contains-push_cases plan (planned_at rid link) p (subst (λ (ps : List Planned). Contains ps p) e c));
        all = λ r n a g. ⊎_elim
            (λ t. let old = h.all r n a t in (old.0, is (planned_at r old.0) (Contains-append_left plan (planned_at rid link ∷ []) (planned_at r old.0) old.1)))
            (λ b. (link, subst (λ (s : Rid). Contains new (planned_at s link)) (by_itself r n b).0 here))
            (leads_cases links pairs (rid, Some node) r n g);
        rising = subst (λ (ps : List Planned). RisesBy (λ p. p.rid) rid_cmp ps) (sym e) (rises_more (λ p. p.rid) rid_cmp plan (planned_at rid link) h.rising (above_all plan rid below));
      }

-- a repository is below another, or is it, or is above
by_order : (o : Ordering) → (o ≡ Greater → ⊥) → (o ≡ Equal → ⊥) → o ≡ Less
by_order Less above same = refl
by_order Equal above same = absurd (same refl)
by_order Greater above same = absurd (above refl)

-- the last item, if there is one
last_of : (plan : List Planned) → (plan ≡ []) ⊎ ((before : List Planned) × (last : Planned) × (plan ≡ before ++ last ∷ []))
last_of [] = inl refl
last_of (x ∷ plan) = inr (⊎_elim (λ e. ([], x, ap (λ (ps : List Planned). x ∷ ps) e)) (λ h. (x ∷ h.0, h.1, ap (λ (ps : List Planned). x ∷ ps) h.2)) (last_of plan))

greater_from_less : (r s : Rid) → rid_cmp r s ≡ Less → rid_cmp s r ≡ Greater
greater_from_less r s h = rid_total.antisymm s r ∙ ap ordering_reverse h

-- a plan none of whose repositories is above, and whose last is another, is below
all_below : (plan : List Planned) (rid : Rid) → RisesBy (λ p. p.rid) rid_cmp plan → ((p : Planned) → Contains plan p → rid_cmp p.rid rid ≡ Greater → ⊥)
    → ((before : List Planned) (last : Planned) → plan ≡ before ++ last ∷ [] → last.rid ≡ rid → ⊥)
    → (p : Planned) → Contains plan p → rid_cmp p.rid rid ≡ Less
all_below plan rid rising at_most other p c =
    ⊎_elim
    (λ e. absurd (contains_nothing p (subst (λ (ps : List Planned). Contains ps p) e c)))
    (λ l.
    let is = λ (q : Planned) (h : Contains (l.0 ++ l.1 ∷ []) q). subst (λ (ps : List Planned). Contains ps q) (sym l.2) h in
    let last : rid_cmp l.1.rid rid ≡ Less =
    by_order (rid_cmp l.1.rid rid) (at_most l.1 (is l.1 (Contains-push l.0 l.1))) (λ e. other l.0 l.1 l.2 (rid_exact l.1.rid rid e)) in
    ⊎_elim
    (λ t. rid_total.trans p.rid l.1.rid rid (before_last l.0 l.1 (subst (λ (ps : List Planned). RisesBy (λ q. q.rid) rid_cmp ps) l.2 rising) p t) last)
    (λ e. subst (λ (q : Planned). rid_cmp q.rid rid ≡ Less) e last)
    (Contains-push_cases l.0 l.1 p (subst (λ (ps : List Planned). Contains ps p) l.2 c)))
    (last_of plan)

-- that leads to a link
planned_push : (rules : Said) (links : LinkMap) (pairs : List Pair) (rid : Rid) (node : Nid) (link : ℕ) (plan new : List Planned)
    → allows rules rid ≡ true → get nid_cmp links node ≡ Some link
    → ((pair : Pair) → Contains pairs pair → rid_cmp pair.0 rid ≡ Greater → ⊥) → ArePlanned rules links pairs plan
    → AddsPlanned plan rid link new → ArePlanned rules links (pairs ++ (rid, Some node) ∷ []) new
planned_push rules links pairs rid node link plan new allowed at ordered h adds =
    ⊎_elim (λ l. lessened rules links pairs rid node link plan new allowed at ordered h l)
    (λ a. appended rules links pairs rid node link plan new allowed at ordered h
    (all_below plan rid h.rising (at_most rules links pairs rid node link plan new allowed at ordered h) a.other) a.is) adds

-- ------ as they are looked at

-- some first pairs were looked at, and these are left
pub record PlansSome (rules : Said) (links : LinkMap) (all rest : List Pair) (plan : List Planned) : Type 0 where
  pub seen : List Pair
  pub parts : seen ++ rest ≡ all
  pub planned : ArePlanned rules links seen plan

-- none was looked at
pub plans_none : (rules : Said) (links : LinkMap) (all rest : List Pair) (plan : List Planned) → rest ≡ all → plan ≡ [] → PlansSome rules links all rest plan
plans_none rules links all rest plan e none = record {
  seen = [];
  parts = e;
  planned = subst (λ (ps : List Planned). ArePlanned rules links [] ps) (sym none) (none_planned rules links);
}

plans_same : (rules : Said) (links : LinkMap) (all left rest : List Pair) (pair : Pair) (plan : List Planned) → left ≡ pair ∷ rest
    → LeadsNowhere rules links pair → PlansSome rules links all left plan → PlansSome rules links all rest plan
plans_same rules links all left rest pair plan e nowhere h = record {
  seen = h.seen ++ pair ∷ [];
  parts = append_assoc h.seen (pair ∷ []) rest ∙ ap (λ (ps : List Pair). h.seen ++ ps) (sym e) ∙ h.parts;
  planned = planned_same rules links h.seen pair plan nowhere h.planned;
}

-- a pair with no node
pub plans_no_node : (rules : Said) (links : LinkMap) (all left rest : List Pair) (pair : Pair) (plan : List Planned) → left ≡ pair ∷ rest
    → pair.1 ≡ None → PlansSome rules links all left plan → PlansSome rules links all rest plan
plans_no_node rules links all left rest pair plan e none h = plans_same rules links all left rest pair plan e (no_node rules links pair none) h

-- a pair whose repository is not allowed
pub plans_blocked : (rules : Said) (links : LinkMap) (all left rest : List Pair) (pair : Pair) (plan : List Planned) → left ≡ pair ∷ rest
    → allows rules pair.0 ≡ false → PlansSome rules links all left plan → PlansSome rules links all rest plan
plans_blocked rules links all left rest pair plan e blocked h = plans_same rules links all left rest pair plan e (is_blocked rules links pair blocked) h

-- a pair whose node has no link
pub plans_no_link : (rules : Said) (links : LinkMap) (all left rest : List Pair) (pair : Pair) (node : Nid) (plan : List Planned) → left ≡ pair ∷ rest
    → pair.1 ≡ Some node → get nid_cmp links node ≡ None → PlansSome rules links all left plan → PlansSome rules links all rest plan
plans_no_link rules links all left rest pair node plan e is none h = plans_same rules links all left rest pair plan e (no_link rules links pair node is none) h

before_greater : (o p : Ordering) → ordering_then o p ≡ Less → o ≡ Greater → ⊥
before_greater Less p h e = cc e
before_greater Equal p h e = cc e
before_greater Greater p h e = cc h

-- a pair whose node has a link
pub plans_link : (rules : Said) (links : LinkMap) (all left rest : List Pair) (pair : Pair) (node : Nid) (link : ℕ) (plan new : List Planned)
    → left ≡ pair ∷ rest → IsStrictlySortedBy pair_cmp all → pair.1 ≡ Some node → allows rules pair.0 ≡ true → get nid_cmp links node ≡ Some link
    → AddsPlanned plan pair.0 link new → PlansSome rules links all left plan → PlansSome rules links all rest new
plans_link rules links all left rest pair node link plan new e sorted is allowed at adds h =
    let whole : pair ≡ (pair.0, Some node) = one_pair pair pair.0 (Some node) refl is in
    let parts : h.seen ++ pair ∷ rest ≡ all = ap (λ (ps : List Pair). h.seen ++ ps) (sym e) ∙ h.parts in
    let below = below_next h.seen pair rest (subst (λ (ps : List Pair). IsStrictlySortedBy pair_cmp ps) (sym parts) sorted) in
    record {
      seen = h.seen ++ pair ∷ [];
      parts = append_assoc h.seen (pair ∷ []) rest ∙ parts;
      planned = subst (λ (p : Pair). ArePlanned rules links (h.seen ++ p ∷ []) new) (sym whole)
          (planned_push rules links h.seen pair.0 node link plan new allowed at
          (λ q c. before_greater (rid_cmp q.0 pair.0) (option_cmp nid_cmp q.1 pair.1) (below q c)) h.planned adds);
    }

-- ------ by the routes

module _ (peers : Peers) (routes : Routes) (rules : Said) (links : LinkMap) (plan : List Planned) (are : AreLinks peers links)
    (h : ArePlanned rules links routes.pairs.keys plan) where
  serves : (rid : Rid) (link : ℕ) → Leads links routes.pairs.keys rid link → Serves peers routes rid link
  serves rid link l = record {
    node = l.node;
    peer = link_is peers l.node link (sym (are l.node) ∙ l.at);
    has = pair_as routes.pairs.keys (rid, Some l.node) l.there;
  }

  -- a peer that has the repository leads to a link that is no later
  leads : (rid : Rid) (link : ℕ) → Serves peers routes rid link → (first : ℕ) × Leads links routes.pairs.keys rid first × (first ≤ link)
  leads rid link s =
      let at = link_before peers s.node link s.peer in
      (at.0, record { node = s.node; there = pair_from routes.pairs.keys (rid, Some s.node) s.has; at = are s.node ∙ at.1 }, at.2)

  to_planned : (p : Planned) → Contains plan p → IsPlanned peers routes rules p
  to_planned p c = let is = h.from p c in record {
    allowed = is.allowed;
    serves = serves p.rid p.link is.leads;
    first = λ before below s. let l = leads p.rid before s in let least = is.least l.0 l.1 in absurd (omega (arith, below, l.2, least));
  }

  from_planned : (p : Planned) → IsPlanned peers routes rules p → Contains plan p
  from_planned p is =
      let l = leads p.rid p.link is.serves in
      let there = h.all p.rid l.0 is.allowed l.1 in
      let at = h.from (planned_at p.rid there.0) there.1 in
      let least = at.least l.0 l.1 in
      let same : there.0 ≡ p.link =
      ⊎_elim (λ lt. absurd (is.first there.0 lt (serves p.rid there.0 at.leads))) (λ le. omega (arith, le, l.2, least)) (cases_lt there.0 p.link) in
      subst (λ (n : ℕ). Contains plan (planned_at p.rid n)) same there.1

  is_plan_of : IsPlan peers routes rules plan
  is_plan_of = record { each = λ p. (λ c. to_planned p c, λ is. from_planned p is); rising = h.rising }

-- the plan of all pairs is that of the routes
pub is_plan : (peers : Peers) (routes : Routes) (rules : Said) (links : LinkMap) (plan : List Planned) → AreLinks peers links
    → PlansSome rules links routes.pairs.keys [] plan → IsPlan peers routes rules plan
is_plan peers routes rules links plan are h =
    let whole : h.seen ≡ routes.pairs.keys = sym (append-nil h.seen) ∙ h.parts in
    is_plan_of peers routes rules links plan are (subst (λ (ps : List Pair). ArePlanned rules links ps plan) whole h.planned)
