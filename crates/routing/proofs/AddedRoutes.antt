-- Routes with nodes added.
use Rattle.std.proofs.Common.{◌≡◌, Bool, true, false, cond, Option, Some, None, List, [], ◌∷◌, ◌++◌, refl, sym, ap, subst, inl, inr, ◌⊎◌, ⊎_elim, ◌∙◌, ◌↔◌}
use Rattle.std.specs.Prelude.{Contains, IsTrue, IsSome, option_map}
use Rattle.std.specs.BTreeMap.{is_at}
use Rattle.std.specs.BTreeSet.{contains}
use Rattle.std.proofs.lemmas.Bool.{false≢true}
use Rattle.std.proofs.lemmas.List.Elements.{Contains-push, Contains-push_cases, Contains-append_left}
use Rattle.rad_base.proofs.Members.{contains_nothing}
use Rattle.rad_base.proofs.Options.{not_nothing, one_value, some_is}
use Rattle.rad_base.specs.declared.names.Nid.{Nid}
use Rattle.rad_base.specs.declared.names.Rid.{Rid}
use Rattle.announcements.specs.Held.{HaveInventories, inventory_key, inventory_of}
use Rattle.announcements.specs.declared.kept.Kept.{Kept}
use Rattle.announcements.specs.Tables.{Keeping}
use Rattle.routing.specs.RoutesOf.{AreRoutes, Names, has_route, pair_cmp}
use Rattle.routing.specs.declared.routes.Routes.{Routes}
use Rattle.routing.proofs.PairOrder.{Pair, one_pair, one_pair_at, pair_itself}

-- a node is added for a repository
abbrev pub Adds : Routes → Rid → Nid → Routes → Type 0
Adds old rid node new = (r : Rid) (n : Nid) → IsTrue (has_route new r n)
    ↔ (IsTrue (has_route old r n) ⊎ ((r ≡ rid) × (n ≡ node)))

pub route_added : (old new : Routes) (rid : Rid) (node : Nid)
    → ((q : Pair) → contains pair_cmp new.pairs q ≡ cond (is_at (pair_cmp (rid, Some node)) q) true (contains pair_cmp old.pairs q)) → Adds old rid node new
route_added old new rid node put r n = by_test (is_at (pair_cmp (rid, Some node)) (r, Some n)) refl
  where
    by_test : (b : Bool) → is_at (pair_cmp (rid, Some node)) (r, Some n) ≡ b
        → IsTrue (has_route new r n) ↔ (IsTrue (has_route old r n) ⊎ ((r ≡ rid) × (n ≡ node)))
    by_test true e =
        let is = one_pair_at (rid, Some node) (r, Some n) e in (
          λ h. inr (sym (ap (λ (p : Pair). p.0) is), sym (some_is node n (ap (λ (p : Pair). p.1) is))),
          λ s. put (r, Some n) ∙ ap (λ (t : Bool). cond t true (has_route old r n)) e,
        )
    by_test false e =
        let same : has_route new r n ≡ has_route old r n = put (r, Some n) ∙ ap (λ (t : Bool). cond t true (has_route old r n)) e in (
          λ h. inl (sym same ∙ h),
          λ s. same ∙ ⊎_elim (λ a. a)
              (λ a. absurd (false≢true (sym e ∙ pair_itself (rid, Some node) (r, Some n) (one_pair (r, Some n) rid (Some node) a.0 (ap (λ (x : Nid). Some x) a.1))))) s,
        )

-- a node is added for some repositories
abbrev pub AddsAll : Routes → Nid → List Rid → Routes → Type 0
AddsAll old node rids new = (r : Rid) (n : Nid) → IsTrue (has_route new r n)
    ↔ (IsTrue (has_route old r n) ⊎ ((n ≡ node) × Contains rids r))

pub added_none : (old : Routes) (node : Nid) → AddsAll old node [] old
added_none old node r n = (λ h. inl h, λ s. ⊎_elim (λ a. a) (λ a. absurd (contains_nothing r a.1)) s)

pub added_push : (old cur new : Routes) (node : Nid) (rids more : List Rid) (rid : Rid) → more ≡ rids ++ rid ∷ []
    → AddsAll old node rids cur → Adds cur rid node new → AddsAll old node more new
added_push old cur new node rids more rid e h g r n =
    let here = λ (c : Contains (rids ++ rid ∷ []) r). subst (λ (xs : List Rid). Contains xs r) (sym e) c in (
      λ c. ⊎_elim
          (λ a. ⊎_elim (λ b. inl b) (λ b. inr (b.0, here (Contains-append_left rids (rid ∷ []) r b.1))) ((h r n).0 a))
          (λ a. inr (a.1, here (subst (λ (x : Rid). Contains (rids ++ rid ∷ []) x) (sym a.0) (Contains-push rids rid))))
          ((g r n).0 c),
      λ s. (g r n).1 (⊎_elim (λ a. inl ((h r n).1 (inl a)))
          (λ a. ⊎_elim (λ b. inl ((h r n).1 (inr (a.0, b)))) (λ b. inr (sym b, a.0))
          (Contains-push_cases rids rid r (subst (λ (xs : List Rid). Contains xs r) e a.1))) s),
    )

-- routes have those of these nodes whose inventory names the repository
abbrev pub AreOf : Keeping → List Nid → Routes → Type 0
AreOf table nodes routes = (r : Rid) (n : Nid) → IsTrue (has_route routes r n) ↔ (Contains nodes n × Names table n r)

pub of_none : (table : Keeping) (routes : Routes) → ((r : Rid) (n : Nid) → has_route routes r n ≡ false) → AreOf table [] routes
of_none table routes none r n = (λ h. absurd (false≢true (sym (none r n) ∙ h)), λ a. absurd (contains_nothing n a.0))

-- the inventory of one node more
pub of_push : (table : Keeping) (nodes more : List Nid) (node : Nid) (rids : List Rid) (old new : Routes) → more ≡ nodes ++ node ∷ []
    → inventory_of table node ≡ Some rids → AreOf table nodes old → AddsAll old node rids new → AreOf table more new
of_push table nodes more node rids old new e kept h g r n =
    let here = λ (c : Contains (nodes ++ node ∷ []) n). subst (λ (xs : List Nid). Contains xs n) (sym e) c in (
      λ c. ⊎_elim
          (λ a. let both = (h r n).0 a in (here (Contains-append_left nodes (node ∷ []) n both.0), both.1))
          (λ a. (
            here (subst (λ (x : Nid). Contains (nodes ++ node ∷ []) x) (sym a.0) (Contains-push nodes node)),
            subst (λ (x : Nid). Names table x r) (sym a.0) (record { rids = rids; kept = kept; named = a.1 }),
          ))
          ((g r n).0 c),
      λ a. (g r n).1 (⊎_elim (λ b. inl ((h r n).1 (b, a.1)))
          (λ b. inr (sym b, subst (λ (xs : List Rid). Contains xs r) (one_value a.1.kept (ap (inventory_of table) (sym b) ∙ kept)) a.1.named))
          (Contains-push_cases nodes node n (subst (λ (xs : List Nid). Contains xs n) e a.0))),
    )

-- one node more that has none
pub of_same : (table : Keeping) (nodes more : List Nid) (node : Nid) (routes : Routes) → more ≡ nodes ++ node ∷ []
    → inventory_of table node ≡ None → AreOf table nodes routes → AreOf table more routes
of_same table nodes more node routes e none h r n =
    let here = λ (c : Contains (nodes ++ node ∷ []) n). subst (λ (xs : List Nid). Contains xs n) (sym e) c in (
      λ c. let both = (h r n).0 c in (here (Contains-append_left nodes (node ∷ []) n both.0), both.1),
      λ a. (h r n).1 (
        ⊎_elim (λ b. b) (λ b. absurd (not_nothing a.1.kept (ap (inventory_of table) (sym b) ∙ none)))
            (Contains-push_cases nodes node n (subst (λ (xs : List Nid). Contains xs n) e a.0)),
        a.1,
      ),
    )

some_kept : (o : Option Kept) (rids : List Rid) → option_map (λ kept. kept.rids) o ≡ Some rids → IsSome o
some_kept None rids e = cc e
some_kept (Some kept) rids e = refl

-- those of all nodes whose inventory is kept are all
pub of_all : (table : Keeping) (nodes : List Nid) (routes : Routes) → HaveInventories table nodes → AreOf table nodes routes → AreRoutes table routes
of_all table nodes routes have are rid node = (
  λ h. ((are rid node).0 h).1,
  λ names. (are rid node).1 ((have.each node).1 (some_kept (table (inventory_key node)) names.rids names.kept), names),
)
