-- Good slices, and remotes that advance.
use Rattle.std.specs.Prelude.{◌≡◌, ◌≤◌, ◌⊎◌, List, [], map, length, Contains, None, Some}
use Rattle.rad_base.specs.declared.names.Nid.{Nid}
use Rattle.rad_base.specs.declared.names.Oid.{Oid}
use Rattle.rad_base.specs.declared.names.Rid.{Rid}
use Rattle.commit_graph.specs.declared.root.Root.{Root}
use Rattle.commit_graph.specs.Objects.{ObjectMap}
use Rattle.commit_graph.specs.Closures.{IsClosed}
use Rattle.commit_graph.specs.Histories.{InHistory}
use Rattle.keyring.specs.Contents.{Contents}
use Rattle.identity_doc.specs.declared.doc.Doc.{Doc}
use Rattle.identity_doc.specs.IdentityChains.{HasIdentity}
use Rattle.signed_refs.specs.Lines.{Line}
use Rattle.signed_refs.specs.Signed.{Signed}
use Rattle.repo_slice.specs.declared.state.State.{State}
use Rattle.repo_slice.specs.Standing.{delegates_in}

-- what a line names, of any kind
abbrev pub line_root : Line → Root
line_root line = record { oid = line.1; kind = None }

-- what the lines name
abbrev pub line_roots : List Line → List Root
line_roots lines = map line_root lines

-- the node's commit says refs that the keyring accepts, and all that they reach is there and well formed
pub record IsSound (objects : ObjectMap) (keyring : Contents) (rid : Rid) (node : Nid) (commit : Oid) : Type 0 where
  pub refs : List Line
  pub signed : Signed objects keyring rid node commit refs
  pub closed : IsClosed objects (line_roots refs)

-- the identity commit has a chain, each remote is sound, enough delegates have one, and there are at most 1,024
pub record Stands (objects : ObjectMap) (keyring : Contents) (state : State) (id : Oid) : Type 0 where
  pub doc : Doc
  pub identity : HasIdentity objects keyring state.rid id doc
  pub sound : (node : Nid) (commit : Oid) → Contains state.remotes (node, commit) → IsSound objects keyring state.rid node commit
  pub enough : doc.threshold ≤ delegates_in state.remotes [] doc.delegates
  pub few : length state.remotes ≤ 1024

-- nothing stands yet, or all of it is good
abbrev pub IsGood : ObjectMap → Contents → State → Type 0
IsGood objects keyring state =
    ((state.id ≡ None) × (state.remotes ≡ [])) ⊎ ((id : Oid) × (state.id ≡ Some id) × Stands objects keyring state id)

-- the old commit lies in the history of the new one, and not the other way round
abbrev pub Advances : ObjectMap → Oid → Oid → Type 0
Advances objects old new = InHistory objects old new × (InHistory objects new old → ⊥)
