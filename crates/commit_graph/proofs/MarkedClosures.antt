-- The closure of a root by the marks of what is missing and of what is unfit.
use Rattle.std.proofs.Common.{◌≡◌, ℕ, ◌<◌, Option, Some, None, List, [], ◌∷◌, length, get_or, refl, sym, ap, subst, ⊎_elim, ◌∙◌, ◌↔◌}
use Rattle.std.specs.Prelude.{Contains, IsTrue}
use Rattle.std.specs.BTreeSet.{BTreeSet, contains}
use Rattle.std.proofs.lemmas.Option.{slice_get-get_or}
use Rattle.std.proofs.lemmas.Map.Views.{btree_set_contains_iff}
use Rattle.rad_base.specs.declared.names.Oid.{Oid}
use Rattle.rad_base.proofs.Members.{contains_at, contains_head, contains_one}
use Rattle.commit_graph.specs.declared.root.Root.{Root}
use Rattle.commit_graph.specs.declared.answer.Closure.{Closure}
use Rattle.commit_graph.specs.declared.marked.Marks.{Marks}
use Rattle.commit_graph.specs.declared.web.Web.{Web}
use Rattle.commit_graph.specs.Objects.{ObjectMap, IsNamed}
use Rattle.commit_graph.specs.Pairs.{IsMissing, IsUnfit, IsLink, oid_of}
use Rattle.commit_graph.specs.Walks.{Walk}
use Rattle.commit_graph.specs.Closures.{IsReached, IsReachedAs, IsLeast, HasNone, IsHeld, IsClosure, IsMissingName, IsUnfitName}
use Rattle.commit_graph.specs.Looks.{answer_of}
use Rattle.commit_graph.specs.Backward.{LinksTo}
use Rattle.commit_graph.specs.Marking.{AreMarks, FindsSource, mark_in}
use Rattle.commit_graph.specs.Webs.{IsWeb}
use Rattle.commit_graph.proofs.MarkedBack.{mark_least, no_mark}
use Rattle.commit_graph.proofs.PairOrder.{pair_cmp, pair_exact, pair_total}
use Rattle.commit_graph.proofs.Walked.{reached_root, reached_step}

-- the set has the pairs that are reached and of which P holds
abbrev HasReached : ObjectMap → List Root → (Root → Type 0) → BTreeSet Root → Type 0
HasReached m roots P set = (p : Root) → IsTrue (contains pair_cmp set p) ↔ (IsReached m roots p × P p)

module _ (m : ObjectMap) (roots : List Root) (web : Web) (is : IsWeb m roots web) where
  -- what leads backwards to a pair are links
  along : (p : Root) (path : List Root) (q : Root) → Walk (LinksTo web.back) p path q
      → Walk (IsLink m) p path q
  along p [] q w = w
  along p (x ∷ xs) q w = (((is.links p x).0 w.0).1, along x xs q w.1)

  -- and all links of what is reached are kept
  against : (p : Root) (path : List Root) (q : Root) → IsReached m roots p → Walk (IsLink m) p path q
      → Walk (LinksTo web.back) p path q × IsReached m roots q
  against p [] q r w = (w, subst (IsReached m roots) w r)
  against p (x ∷ xs) q r w =
      let more = against x xs q (reached_step p x r w.0) w.1 in
      (((is.links p x).1 (r, w.0), more.0), more.1)

  module _ (root : Root) (among : Contains roots root) where
    kept : (p : Root) (r : IsReached m (root ∷ []) p) → Walk (LinksTo web.back) root r.path p × IsReached m roots p
    kept p r =
        against root r.path p (reached_root root among)
        (subst (λ (x : Root). Walk (IsLink m) x r.path p) (sym (contains_one root r.root r.among)) r.walk)

    module _ (P : Root → Type 0) (set : BTreeSet Root) (those : HasReached m roots P set) (marks : Marks) (are : AreMarks web.back set.keys marks) where
      finds : (oid : Oid) → IsReachedAs m (root ∷ []) P oid
          → FindsSource (LinksTo web.back) (Contains set.keys) oid_of root oid
      finds oid r =
          let w = kept r.pair r.reached in
          record {
            source = r.pair;
            holds = (btree_set_contains_iff pair_total pair_exact set r.pair).0 ((those r.pair).1 (w.1, r.holds));
            path = r.reached.path;
            walk = w.0;
            named = r.name;
          }

      found : (oid : Oid) → FindsSource (LinksTo web.back) (Contains set.keys) oid_of root oid
          → IsReachedAs m (root ∷ []) P oid
      found oid f = record {
        pair = f.source;
        reached = record { root = root; among = contains_head root []; path = f.path; walk = along root f.path f.source f.walk };
        holds = ((those f.source).0 ((btree_set_contains_iff pair_total pair_exact set f.source).1 f.holds)).1;
        name = f.named;
      }

      -- a mark is the least name
      least_marked : (oid : Oid) → mark_in marks root ≡ Some oid → IsLeast (IsReachedAs m (root ∷ []) P) oid
      least_marked oid e = record {
        holds = found oid (are.sound root oid e);
        least = λ other r below.
            mark_least (LinksTo web.back) (Contains set.keys) oid_of (mark_in marks) are.onward are.sourced root oid e other (finds other r) below;
      }

      -- and where there is none, there is no name
      none_marked : mark_in marks root ≡ None → HasNone (IsReachedAs m (root ∷ []) P)
      none_marked e oid r =
          no_mark (LinksTo web.back) (Contains set.keys) oid_of (mark_in marks) are.onward are.sourced root e oid (finds oid r)

    held : IsNamed m → HasNone (IsMissingName m (root ∷ [])) → HasNone (IsUnfitName m (root ∷ []))
        → (p : Root) → IsReached m (root ∷ []) p → IsHeld m p
    held named lacks bad p r =
        ⊎_elim
        (λ a. absurd (lacks p.oid (record { pair = p; reached = r; holds = a; name = refl })))
        (λ a. ⊎_elim
        (λ b. absurd (bad p.oid (record { pair = p; reached = r; holds = b; name = refl })))
        (λ b. record { fit = b; named = named p.oid (b.kind, b.bytes) b.there })
        a)
        (is.judged p (kept p r).1)

    module _ (named : IsNamed m) (missing unfit : Marks)
        (of_missing : AreMarks web.back web.missing.keys missing) (of_unfit : AreMarks web.back web.unfit.keys unfit) where
      answered : (a b : Option Oid) → mark_in missing root ≡ a → mark_in unfit root ≡ b
          → IsClosure m (root ∷ []) (answer_of a b)
      answered (Some oid) b e f = least_marked (IsMissing m) web.missing is.missing missing of_missing oid e
      answered None (Some oid) e f = (
        none_marked (IsMissing m) web.missing is.missing missing of_missing e,
        least_marked (IsUnfit m) web.unfit is.unfit unfit of_unfit oid f,
      )
      answered None None e f =
          held named (none_marked (IsMissing m) web.missing is.missing missing of_missing e)
          (none_marked (IsUnfit m) web.unfit is.unfit unfit of_unfit f)

      -- the closure of a root is told by its two marks
      pub closure_marked : IsClosure m (root ∷ []) (answer_of (mark_in missing root) (mark_in unfit root))
      closure_marked = answered (mark_in missing root) (mark_in unfit root) refl refl

-- the answer for a root of a list, from its two marks
pub closure_answered : {m : ObjectMap} {roots : List Root} {web : Web} {missing unfit : Marks} {a b : Option Oid} (i : ℕ) (d : Root) (answer : Closure)
    → i < length roots → IsNamed m → IsWeb m roots web → AreMarks web.back web.missing.keys missing
    → AreMarks web.back web.unfit.keys unfit → answer ≡ answer_of a b
    → a ≡ mark_in missing (get_or roots i d) → b ≡ mark_in unfit (get_or roots i d)
    → IsClosure m (get_or roots i d ∷ []) answer
closure_answered {m} {roots} {web} {missing} {unfit} {a} {b} i d answer l named is of_missing of_unfit e f k =
    let root = get_or roots i d in
    let same : answer ≡ answer_of (mark_in missing root) (mark_in unfit root) =
    e ∙ ap (λ (x : Option Oid). answer_of x b) f ∙ ap (answer_of (mark_in missing root)) k in
    subst (IsClosure m (root ∷ [])) (sym same)
    (closure_marked m roots web is root (contains_at roots i root (slice_get-get_or roots i d l)) named missing unfit of_missing of_unfit)
