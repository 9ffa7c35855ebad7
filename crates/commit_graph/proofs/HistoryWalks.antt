-- A walk over parents finds the history, which has the histories of its commits.
use Rattle.std.proofs.Common.{◌≡◌, List, [], ◌∷◌, ◌++◌, Option, Some, refl, sym, ap, subst, ◌∙◌}
use Rattle.std.specs.Prelude.{Contains}
use Rattle.git_object.specs.declared.kind.Kind.{Kind}
use Rattle.git_object.specs.declared.kind.Kind.TheVariants.{Commit}
use Rattle.rad_base.specs.declared.names.Oid.{Oid}
use Rattle.rad_base.proofs.Members.{contains_one, contains_head}
use Rattle.commit_graph.specs.declared.root.Root.{Root}
use Rattle.commit_graph.specs.Objects.{ObjectMap}
use Rattle.commit_graph.specs.Pairs.{as_commit}
use Rattle.commit_graph.specs.Walks.{Walk, Reached}
use Rattle.commit_graph.specs.Histories.{IsParent, InHistory}
use Rattle.commit_graph.proofs.Walked.{reached_root, reached_stays, walk_append}
use Rattle.commit_graph.proofs.Spread.{Spread, spread_end}

pub same_commit : (q : Root) (oid : Oid) → q.oid ≡ oid → q.kind ≡ Some Commit → q ≡ as_commit oid
same_commit q oid e k = ap (λ (x : Oid). record { oid = x; kind = q.kind }) e ∙ ap (λ (x : Option Kind). record { oid = oid; kind = x }) k

-- a history has commits alone
pub all_commits : (m : ObjectMap) (new : Oid) (q : Root) → Reached (IsParent m) (as_commit new ∷ []) q
    → q.kind ≡ Some Commit
all_commits m new = reached_stays (λ (q : Root). q.kind ≡ Some Commit)
    (λ q c. ap (λ (x : Root). x.kind) (sym (contains_one (as_commit new) q c)))
    (λ p q h s. s.1)

-- a pair of this name was found
pub history_found : (m : ObjectMap) (old new : Oid) {done found : List Root} (q : Root)
    → Spread (IsParent m) (as_commit new ∷ []) done found → Contains found q → q.oid ≡ old
    → InHistory m old new
history_found m old new q h c e =
    let r = h.sound q c in
    subst (Reached (IsParent m) (as_commit new ∷ [])) (same_commit q old e (all_commits m new q r)) r

-- all was followed, and no pair of this name was found
pub history_none : (m : ObjectMap) (old new : Oid) {done found : List Root}
    → Spread (IsParent m) (as_commit new ∷ []) done found → done ≡ found
    → ((q : Root) → Contains done q → q.oid ≡ old → ⊥) → InHistory m old new → ⊥
history_none m old new {done} {found} h e other r =
    other (as_commit old) (subst (λ (xs : List Root). Contains xs (as_commit old)) (sym e) (spread_end h e (as_commit old) r)) refl

-- a commit lies in its own history
pub history_itself : (m : ObjectMap) (oid : Oid) → InHistory m oid oid
history_itself m oid = reached_root (as_commit oid) (contains_head (as_commit oid) [])

-- a history has those of its commits
pub history_along : (m : ObjectMap) (a b c : Oid) → InHistory m a b → InHistory m b c
    → InHistory m a c
history_along m a b c r s = record {
  root = s.root;
  among = s.among;
  path = s.path ++ r.path;
  walk = walk_append (IsParent m) s.root s.path (as_commit b) r.path (as_commit a) s.walk
      (subst (λ (x : Root). Walk (IsParent m) x r.path (as_commit a)) (sym (contains_one (as_commit b) r.root r.among)) r.walk);
}
