-- The history of a commit.
use Rattle.std.specs.Prelude.{◌≡◌, List, [], ◌∷◌, Contains, Some}
use Rattle.rad_base.specs.declared.names.Oid.{Oid}
use Rattle.git_object.specs.declared.kind.Kind.TheVariants.{Commit}
use Rattle.commit_graph.specs.declared.root.Root.{Root}
use Rattle.commit_graph.specs.Objects.{ObjectMap}
use Rattle.commit_graph.specs.Pairs.{IsLink, as_commit}
use Rattle.commit_graph.specs.Walks.{Reached}

-- q is a link of p to a commit; a commit's links to commits are its parents
abbrev pub IsParent : ObjectMap → Root → Root → Type 0
IsParent objects p q = IsLink objects p q × (q.kind ≡ Some Commit)

-- parent links alone lead from the commit new to old; a commit is in its own history
abbrev pub InHistory : ObjectMap → Oid → Oid → Type 0
InHistory objects old new = Reached (IsParent objects) (as_commit new ∷ []) (as_commit old)

-- each commit of the history is among these
abbrev pub CoversHistory : ObjectMap → Oid → List Oid → Type 0
CoversHistory objects new commits = (old : Oid) → InHistory objects old new → Contains commits old

-- the list of pairs has this commit
abbrev pub ListsCommit : List Root → Oid → Type 0
ListsCommit found oid = Contains found (as_commit oid)
