-- The commits of a remote, one after the other.
use Rattle.std.specs.Prelude.{if◌then◌else◌, List, [], ◌∷◌, Option, None, Some, Contains}
use Rattle.rad_base.specs.declared.names.Nid.{Nid}
use Rattle.rad_base.specs.declared.names.Oid.{Oid}
use Rattle.rad_base.specs.declared.names.Rid.{Rid}
use Rattle.rad_base.specs.Order.{commit_of}
use Rattle.commit_graph.specs.Objects.{ObjectMap}
use Rattle.repo_entries.specs.Items.{Item, claim, put, install, heard, missed, refused}
use Rattle.repo_slice.specs.Good.{Advances}
use Rattle.legal_history.specs.Replays.{is_same}

-- the commit, where there is one, before these
abbrev pub with_commit : Option Oid → List Oid → List Oid
with_commit None commits = commits
with_commit (Some commit) commits = commit ∷ commits

-- the commits that the installs of a repository give a node, in their order
abbrev pub commits_of : Rid → Nid → List Item → List Oid
commits_of rid node [] = []
commits_of rid node (claim of caller ∷ items) = commits_of rid node items
commits_of rid node (put of batch caller ∷ items) = commits_of rid node items
commits_of rid node (install of id remotes caller ∷ items) =
    if is_same rid of then with_commit (commit_of remotes node) (commits_of rid node items) else commits_of rid node items
commits_of rid node (heard message caller ∷ items) = commits_of rid node items
commits_of rid node (missed of left caller ∷ items) = commits_of rid node items
commits_of rid node (refused of why caller ∷ items) = commits_of rid node items

-- each commit advances from every earlier one
abbrev pub AdvanceAll : ObjectMap → List Oid → Type 0
AdvanceAll objects [] = Unit {0}
AdvanceAll objects (commit ∷ commits) = ((later : Oid) → Contains commits later → Advances objects commit later) × AdvanceAll objects commits
