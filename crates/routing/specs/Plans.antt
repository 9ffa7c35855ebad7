-- Which repository is fetched at which link.
use Rattle.std.specs.Prelude.{◌≡◌, ◌↔◌, ◌⊎◌, ◌++◌, ℕ, ◌+◌, ◌<◌, min, Bool, false, cond, List, [], ◌∷◌, Option, None, Some, option_map, IsTrue, Contains, slice_get}
use Rattle.std.specs.BTreeMap.{BTreeMap, get, is_at}
use Rattle.std.specs.Option.{option_or}
use Rattle.rad_base.specs.Order.{RisesBy, nid_cmp, rid_cmp}
use Rattle.rad_base.specs.declared.names.Nid.{Nid}
use Rattle.rad_base.specs.declared.names.Rid.{Rid}
use Rattle.routing.specs.RoutesOf.{has_route}
use Rattle.routing.specs.RulesFiles.{Said, allows}
use Rattle.routing.specs.declared.planned.Planned.{Planned}
use Rattle.routing.specs.declared.routes.Routes.{Routes}

-- the peer at a link has a repository
pub record Serves (peers : List (Option Nid)) (routes : Routes) (rid : Rid) (link : ℕ) : Type 0 where
  pub node : Nid
  pub peer : slice_get peers link ≡ Some (Some node)
  pub has : IsTrue (has_route routes rid node)

-- the rules allow it, and this is the first link at which the peer has it
pub record IsPlanned (peers : List (Option Nid)) (routes : Routes) (rules : Said) (planned : Planned) : Type 0 where
  pub allowed : IsTrue (allows rules planned.rid)
  pub serves : Serves peers routes planned.rid planned.link
  pub first : (before : ℕ) → before < planned.link → Serves peers routes planned.rid before → ⊥

-- the repositories that the rules allow and some peer has, rising, each at its first link
pub record IsPlan (peers : List (Option Nid)) (routes : Routes) (rules : Said) (plan : List Planned) : Type 0 where
  pub each : (planned : Planned) → Contains plan planned ↔ IsPlanned peers routes rules planned
  pub rising : RisesBy (λ planned. planned.rid) rid_cmp plan

-- whether this is the peer
abbrev pub is_peer : Option Nid → Nid → Bool
is_peer None node = false
is_peer (Some peer) node = is_at (nid_cmp node) peer

-- the first link of a peer
abbrev pub link_of : List (Option Nid) → Nid → Option ℕ
link_of [] node = None
link_of (peer ∷ peers) node = cond (is_peer peer node) (Some 0) (option_map (λ link. link + 1) (link_of peers node))

-- the link of a peer is there too, where it had none
abbrev pub AddsLink : Option Nid → ℕ → BTreeMap Nid ℕ → BTreeMap Nid ℕ → Type 0
AddsLink peer link old new = (node : Nid) → get nid_cmp new node
    ≡ option_or (get nid_cmp old node) (cond (is_peer peer node) (Some link) None)

-- the last is of the repository, and takes the lesser of its link and this
pub record Lessens (old : List Planned) (rid : Rid) (link : ℕ) (new : List Planned) : Type 0 where
  pub before : List Planned
  pub last : ℕ
  pub was : old ≡ before ++ record { rid = rid; link = last } ∷ []
  pub is : new ≡ before ++ record { rid = rid; link = min last link } ∷ []

-- the last, if there is one, is of another repository, and this one stands behind it
pub record Appends (old : List Planned) (rid : Rid) (link : ℕ) (new : List Planned) : Type 0 where
  pub other : (before : List Planned) (last : Planned) → old ≡ before ++ last ∷ [] → last.rid ≡ rid → ⊥
  pub is : new ≡ old ++ record { rid = rid; link = link } ∷ []

-- the repository is planned at the link, behind those below it
abbrev pub AddsPlanned : List Planned → Rid → ℕ → List Planned → Type 0
AddsPlanned old rid link new = Lessens old rid link new ⊎ Appends old rid link new
