-- What lines stand for, and the faults of identities.
use Rattle.std.proofs.Common.{◌≡◌, List, Some, sym, subst}
use Rattle.std.specs.Prelude.{◌↔◌}
use Rattle.rad_base.specs.declared.names.Nid.{Nid}
use Rattle.rad_base.specs.declared.names.Oid.{Oid}
use Rattle.rad_base.specs.declared.names.Rid.{Rid}
use Rattle.rad_base.specs.Order.{commit_of}
use Rattle.rad_base.proofs.Options.{one_value}
use Rattle.commit_graph.specs.declared.root.Root.{Root}
use Rattle.commit_graph.specs.Objects.{ObjectMap}
use Rattle.signed_refs.specs.Lines.{Line}
use Rattle.signed_refs.specs.Said.{Says}
use Rattle.signed_refs.proofs.Saying.{one_said}
use Rattle.fetch_wire.specs.declared.request.Request.{Request}
use Rattle.fetch_wire.specs.declared.request.Request.TheVariants as request
use Rattle.fetch_serve.specs.Good.{Showing, line_root}
use Rattle.fetch_serve.specs.Parts.{Adds}
use Rattle.fetch_serve.specs.Replies.{Among, Embeds, IsAskedRoot, IsLineOf, IsSigsRoot, IsThere, IsTipsRoot}
use Rattle.fetch_serve.specs.Showings.{showing}

-- what the refs name that a have says
pub lines_iff : (m : ObjectMap) (have : Oid) (refs : List Line) → (Embeds m have → ⊥) → Says m have refs → (r : Root)
    → Among refs (λ line x. IsThere m line.1 x) r ↔ IsLineOf m have r
lines_iff m have refs plain says r = (
  λ a. (plain, (refs, says, a)),
  λ h. subst (λ (xs : List Line). Among xs (λ line x. IsThere m line.1 x) r) (one_said m have h.1.0 refs h.1.1 says) h.1.2,
)

-- what the refs name that a node's remote says
pub tips_iff : (m : ObjectMap) (id : Oid) (remotes : List (Nid × Oid)) (node : Nid) (commit : Oid) (refs : List Line) → commit_of remotes node ≡ Some commit
    → Says m commit refs → (r : Root) → Among refs (λ line x. x ≡ line_root line) r ↔ IsTipsRoot (showing m id remotes) node r
tips_iff m id remotes node commit refs is says r = (
  λ a. (commit, is, (refs, says, a)),
  λ h.
      let same : h.0 ≡ commit = one_value h.1 is in
      let said : Says m commit h.2.0 = subst (λ (x : Oid). Says m x h.2.0) same h.2.1 in
      subst (λ (xs : List Line). Among xs (λ line x. x ≡ line_root line) r) (one_said m commit h.2.0 refs said says) h.2.2,
)

-- what a request for signed refs, or for tips, asks
pub asked_sigs : (shown : Showing) (r : Request) (rid : Rid) (haves : List Oid) (nodes : List Nid) (a b : List Root) → r ≡ request.Sigs rid haves nodes
    → Adds (Among nodes (IsSigsRoot shown)) a b → Adds (IsAskedRoot shown r) a b
asked_sigs shown r rid haves nodes a b is adds = subst (λ (x : Request). Adds (IsAskedRoot shown x) a b) (sym is) adds

pub asked_tips : (shown : Showing) (r : Request) (rid : Rid) (haves : List Oid) (nodes : List Nid) (a b : List Root) → r ≡ request.Tips rid haves nodes
    → Adds (Among nodes (IsTipsRoot shown)) a b → Adds (IsAskedRoot shown r) a b
asked_tips shown r rid haves nodes a b is adds = subst (λ (x : Request). Adds (IsAskedRoot shown x) a b) (sym is) adds
