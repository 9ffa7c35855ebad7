-- What is shown, over objects that tell what they have.
use Rattle.std.specs.Prelude.{◌≡◌, ◌⊎◌, List, Some}
use Rattle.std.proofs.Common.{inl, inr}
use Rattle.rad_base.specs.declared.names.Nid.{Nid}
use Rattle.rad_base.specs.declared.names.Oid.{Oid}
use Rattle.rad_base.specs.declared.names.Rid.{Rid}
use Rattle.commit_graph.specs.Objects.{ObjectMap}
use Rattle.keyring.specs.Contents.{Contents}
use Rattle.fetch_wire.specs.declared.request.Request.{Request}
use Rattle.fetch_serve.specs.Good.{IsGood, Showing}
use Rattle.fetch_serve.specs.Replies.{rid_of}

-- objects, an identity commit and remotes
abbrev pub showing : ObjectMap → Oid → List (Nid × Oid) → Showing
showing objects id remotes = record { objects = objects; id = id; remotes = remotes }

-- what is shown is good as the repository that is asked for
abbrev pub IsGoodFor : Showing → Contents → Request → Type 0
IsGoodFor shown keyring request = (rid : Rid) → rid_of request ≡ Some rid → IsGood shown keyring rid

-- what was shown, as it was left behind its borrow
abbrev pub IfLeft : {A B C : Type 0} → A ⊎ (B ⊎ C) → (B → Type 0) → Type 0
IfLeft (inl nothing) P = Unit {0}
IfLeft (inr (inl left)) P = P left
IfLeft (inr (inr nothing)) P = Unit {0}
