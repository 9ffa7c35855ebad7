-- What is reached, closed or in a history stays as objects are added.
use Rattle.std.proofs.Common.{◌≡◌, List, [], ◌∷◌, ◌↔◌, sym, subst}
use Rattle.std.specs.Prelude.{Contains, map}
use Rattle.rad_base.proofs.Members.{contains_head, contains_one}
use Rattle.rad_base.proofs.Options.{one_value}
use Rattle.rad_base.specs.declared.names.Oid.{Oid}
use Rattle.git_object.specs.Links.{links}
use Rattle.commit_graph.specs.declared.root.Root.{Root}
use Rattle.commit_graph.specs.Objects.{Object, ObjectMap, Grows}
use Rattle.commit_graph.specs.Pairs.{IsFit, IsLink, as_commit, pair_of}
use Rattle.commit_graph.specs.Walks.{Reached, Walk}
use Rattle.commit_graph.specs.Closures.{IsClosed, IsClosedCommit, IsHeld, IsReached}
use Rattle.commit_graph.specs.Histories.{InHistory, IsParent}
use Rattle.commit_graph.specs.Chains.{HasParents, IsChain, IsOnlyParent}
use Rattle.commit_graph.proofs.Walked.{reached_along, reached_root, reached_stays, reached_step}

-- a walk by steps that are steps of others is one by those
pub walk_along : {X : Type 0} (Step Other : X → X → Type 0)
    → ((x y : X) → Step x y → Other x y) → (p : X) (path : List X) (q : X) → Walk Step p path q
    → Walk Other p path q
walk_along Step Other more p [] q w = w
walk_along Step Other more p (x ∷ path) q w = (more p x w.0, walk_along Step Other more x path q w.1)

module _ {old new : ObjectMap} (grows : Grows old new) where
  abbrev pub fit_grows : (p : Root) → IsFit old p → IsFit new p
  fit_grows p fit = record {
    kind = fit.kind;
    bytes = fit.bytes;
    there = grows p.oid _ fit.there;
    expected = fit.expected;
    formed = fit.formed;
  }

  pub link_grows : (p q : Root) → IsLink old p q → IsLink new p q
  link_grows p q l = record { fit = fit_grows p l.fit; link = l.link }

  -- the links of what was there are no others
  pub link_was : (p q : Root) → IsFit old p → IsLink new p q → IsLink old p q
  link_was p q fit l =
      let same : (l.fit.kind, l.fit.bytes) ≡ (fit.kind, fit.bytes) = one_value l.fit.there (grows p.oid _ fit.there) in
      record { fit = fit; link = subst (λ (o : Object). Contains (map pair_of (links o.0 o.1)) q) same l.link }

  held_grows : (p : Root) → IsHeld old p → IsHeld new p
  held_grows p held = record { fit = fit_grows p held.fit; named = held.named }

  -- what was reached is reached
  pub reached_grows : (roots : List Root) (p : Root) → IsReached old roots p → IsReached new roots p
  reached_grows roots p = reached_along link_grows p

  -- what was closed reaches nothing new
  pub reached_was : (roots : List Root) → IsClosed old roots → (p : Root) → IsReached new roots p
      → IsReached old roots p
  reached_was roots closed = reached_stays (IsReached old roots)
      (λ x c. reached_root x c)
      (λ x y r l. reached_step x y r (link_was x y (closed x r).fit l))

  -- and stays closed
  pub closed_grows : (roots : List Root) → IsClosed old roots → IsClosed new roots
  closed_grows roots closed = λ p r. held_grows p (closed p (reached_was roots closed p r))

  pub parent_grows : (p q : Root) → IsParent old p q → IsParent new p q
  parent_grows p q s = (link_grows p q s.0, s.1)

  -- what lay in a history lies in it
  pub history_grows : (a b : Oid) → InHistory old a b → InHistory new a b
  history_grows a b = reached_along parent_grows (as_commit a)

  -- and the history of what was closed has no others
  pub history_was : (a b : Oid) → IsClosedCommit old b → InHistory new a b → InHistory old a b
  history_was a b closed =
      reached_stays (λ (q : Root). Reached (IsParent old) (as_commit b ∷ []) q)
      (λ x c. reached_root x c)
      (λ x y h s. reached_step x y h (link_was x y (closed x (reached_along (λ p q t. t.0) x h)).fit s.0, s.1))
      (as_commit a)

  pub parents_grow : (oid : Oid) (parents : List Oid) → HasParents old oid parents
      → HasParents new oid parents
  parents_grow oid parents h = record { bytes = h.bytes; there = grows oid _ h.there; formed = h.formed; are = h.are }

  -- a chain stays one
  pub chain_grows : (commits : List Oid) (tip : Oid) → IsChain old commits tip
      → IsChain new commits tip
  chain_grows [] tip h = h
  chain_grows (root ∷ later) tip h = (
    parents_grow root [] h.0,
    walk_along (IsOnlyParent old) (IsOnlyParent new) (λ x y s. parents_grow y (x ∷ []) s) root later tip h.1,
  )

-- ---- closed for a list where closed for each

-- what is reached from one of the roots is reached from all of them
pub reached_of : {m : ObjectMap} {roots : List Root} (root : Root) → Contains roots root
    → (p : Root) → IsReached m (root ∷ []) p → IsReached m roots p
reached_of {m} {roots} root among p h = record {
  root = root;
  among = among;
  path = h.path;
  walk = subst (λ (x : Root). Walk (IsLink m) x h.path p) (sym (contains_one root h.root h.among)) h.walk;
}

-- and from one of them if from all
pub reached_one : {m : ObjectMap} {roots : List Root} (p : Root) (h : IsReached m roots p)
    → IsReached m (h.root ∷ []) p
reached_one {m} {roots} p h = record { root = h.root; among = contains_head h.root []; path = h.path; walk = h.walk }

-- closed for a list exactly where for each
pub closed_each : (m : ObjectMap) (roots : List Root)
    → IsClosed m roots ↔ ((root : Root) → Contains roots root → IsClosed m (root ∷ []))
closed_each m roots = (
  λ closed root among p h. closed p (reached_of root among p h),
  λ each p h. each h.root h.among p (reached_one p h),
)
