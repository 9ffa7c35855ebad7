-- What a repository has and asks for, on what the entries make of it.
use Rattle.std.proofs.Common.{◌≡◌, List, Option, None, Some, inl, inr, refl, sym, subst, ◌∙◌}
use Rattle.std.specs.Prelude.{Contains, IfOk, Result, Ok, Err, ◌↔◌}
use Rattle.std.specs.BTreeMap.{get}
use Rattle.rad_base.specs.Order.{rid_cmp}
use Rattle.rad_base.specs.declared.names.Nid.{Nid}
use Rattle.rad_base.specs.declared.names.Oid.{Oid}
use Rattle.rad_base.specs.declared.names.Rid.{Rid}
use Rattle.rad_base.specs.declared.offer.Offer.{Offer}
use Rattle.rad_base.specs.declared.memory.NoMemory.{NoMemory}
use Rattle.rad_base.proofs.Members.{contains_nothing}
use Rattle.commit_graph.specs.Objects.{ObjectMap}
use Rattle.announcements.specs.Held.{kept_in}
use Rattle.announcements.specs.Tables.{IsTable}
use Rattle.announcements.specs.declared.table.Table.{Table}
use Rattle.keyring.specs.Contents.{Contents}
use Rattle.repo_entries.specs.Items.{Item}
use Rattle.repo_slice.specs.Good.{IsGood}
use Rattle.repo_slice.specs.Keeps.{IsNamedIn}
use Rattle.repo_slice.specs.Slices.{objects_of, state_of}
use Rattle.repo_slice.specs.Wanted.{IsWantedList}
use Rattle.repo_slice.specs.declared.scope.Scope.{Scope}
use Rattle.repo_slice.specs.declared.slice.Slice.{Slice}
use Rattle.repo_slice.specs.declared.state.State.{State}
use Rattle.repo_slice.specs.declared.wanting.Stage.{Stage}
use Rattle.legal_history.specs.Histories.{Legal}
use Rattle.legal_history.specs.Replays.{Standing, messages_in, nothing_stands, replay, replayed_state, state_in}
use Rattle.object_store.specs.Held.{IsNamedAt, IsNamedOf, IsWantedAt, held_in}
use Rattle.object_store.specs.Repositories.{StandsKnown}
use Rattle.object_store.specs.Stores.{StandsFor}
use Rattle.object_store.specs.declared.repository.Repository.{Repository}
use Rattle.object_store.specs.declared.store.Store.{Store}
use Rattle.object_store.proofs.Claiming.{each_still}
use Rattle.object_store.proofs.Installing.{stands_good}

no_name : (oid : Oid) → None ≡ Some oid → ⊥
no_name oid e = cc e

-- nothing names nothing
named_nothing : (rid : Rid) (oid : Oid) → IsNamedOf (state_in rid nothing_stands) oid → ⊥
named_nothing rid oid (inl id) = no_name oid id
named_nothing rid oid (inr at) = contains_nothing (at.0, oid) at.1

-- what is named by the repository is named by what the entries make of it
pub named_in : (o : Option Repository) (rid : Rid) (items : List Item) → StandsKnown o rid items → (oid : Oid) → IsNamedAt o oid ↔ IsNamedIn (held_in rid items) oid
named_in None rid items h oid = (λ n. absurd n, λ n. absurd (named_nothing rid oid (subst (λ (s : Standing). IsNamedOf (state_in rid s) oid) h.0 n)))
named_in (Some r) rid items h oid = (
  λ n. subst (λ (s : State). IsNamedOf s oid) h.state n,
  λ n. subst (λ (s : State). IsNamedOf s oid) (sym h.state) n,
)

-- all names are
pub names_in : (o : Option Repository) (rid : Rid) (items : List Item) (oids : List Oid) → StandsKnown o rid items → ((oid : Oid) → Contains oids oid ↔ IsNamedAt o oid)
    → (oid : Oid) → Contains oids oid ↔ IsNamedIn (held_in rid items) oid
names_in o rid items oids h names oid =
    let told = named_in o rid items h oid in
    (λ c. told.0 ((names oid).0 c), λ n. (names oid).1 (told.1 n))

-- what is asked for is so on what the entries make of the repository
pub wanted_on : (o : Option Repository) (rid : Rid) (keyring : Contents) (items : List Item) (offer : Offer) (scope : Scope) (stage : Stage) (nodes : List Nid) → Legal keyring items → StandsKnown o rid items
    → IsWantedAt o rid keyring offer scope stage nodes → IsWantedList (replay rid items).objects keyring (replayed_state rid items) offer scope stage nodes
wanted_on None rid keyring items offer scope stage nodes legal h w =
    subst (λ (s : Standing). IsWantedList s.objects keyring (state_in rid s) offer scope stage nodes) (sym h.0) w
wanted_on (Some r) rid keyring items offer scope stage nodes legal h w =
    subst (λ (objects : ObjectMap). IsWantedList objects keyring (replayed_state rid items) offer scope stage nodes) h.objects
    (subst (λ (state : State). IsWantedList (objects_of r.slice) keyring state offer scope stage nodes) h.state (w (stands_good r rid keyring items legal h)))

-- a store whose repositories stay stands for the same
pub stands_still : {D : Type 0} (old new : Store D) (rid : Rid) (items : List Item) → new.keyring ≡ old.keyring → new.table ≡ old.table → new.history.entries.items ≡ old.history.entries.items
    → ((q : Rid) → (q ≡ rid → ⊥) → get rid_cmp new.repositories q ≡ get rid_cmp old.repositories q) → get rid_cmp new.repositories rid ≡ get rid_cmp old.repositories rid
    → StandsFor old items → StandsFor new items
stands_still old new rid items k t e others same s = record {
  entries = e ∙ s.entries;
  each = each_still old.repositories new.repositories rid items s.each others same;
  table = subst (λ (table : Table). IsTable (messages_in items) (kept_in table)) (sym t) s.table;
  legal = subst (λ (keyring : Contents). Legal keyring items) (sym k) s.legal;
}

pub told_names : (o : Option Repository) (rid : Rid) (items : List Item) (result : Result (List Oid) NoMemory) → StandsKnown o rid items
    → IfOk result (λ oids. (oid : Oid) → Contains oids oid ↔ IsNamedAt o oid) → IfOk result (λ oids. (oid : Oid) → Contains oids oid ↔ IsNamedIn (held_in rid items) oid)
told_names o rid items (Ok oids) h names = names_in o rid items oids h names
told_names o rid items (Err why) h names = tt

-- what is asked for on an empty slice
pub wanted_none : (o : Option Repository) (rid : Rid) (keyring : Contents) (offer : Offer) (scope : Scope) (stage : Stage) (empty : Slice) (result : Result (List Nid) NoMemory) → None ≡ o
    → ((oid : Oid) → objects_of empty oid ≡ None) → state_of empty ≡ state_in rid nothing_stands
    → IfOk result (λ nodes. IsGood (objects_of empty) keyring (state_of empty) → IsWantedList (objects_of empty) keyring (state_of empty) offer scope stage nodes)
    → IfOk result (IsWantedAt o rid keyring offer scope stage)
wanted_none o rid keyring offer scope stage empty (Err why) none objects state told = tt
wanted_none o rid keyring offer scope stage empty (Ok nodes) none objects state told =
    let bare : objects_of empty ≡ nothing_stands.objects = (λ i oid. objects oid i) in
    let good : IsGood (objects_of empty) keyring (state_of empty) =
    subst (λ (s : State). IsGood (objects_of empty) keyring s) (sym state) (inl (refl, refl)) in
    subst (λ (r : Option Repository). IsWantedAt r rid keyring offer scope stage nodes) none
    (subst (λ (m : ObjectMap). IsWantedList m keyring (state_in rid nothing_stands) offer scope stage nodes) bare
    (subst (λ (s : State). IsWantedList (objects_of empty) keyring s offer scope stage nodes) state (told good)))
