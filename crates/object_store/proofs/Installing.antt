-- What an install makes of the repositories of a store.
use Rattle.std.proofs.Common.{◌≡◌, ℕ, ◌≤◌, List, [], ◌∷◌, ◌++◌, length, Option, None, Some, inl, inr, refl, sym, ap, subst, ◌∙◌, arith}
use Rattle.std.specs.BTreeMap.{BTreeMap, get}
use Rattle.rad_base.specs.Order.{IsRising, rid_cmp}
use Rattle.rad_base.specs.declared.names.Nid.{Nid}
use Rattle.rad_base.specs.declared.names.Oid.{Oid}
use Rattle.rad_base.specs.declared.names.Rid.{Rid}
use Rattle.commit_graph.specs.Objects.{ObjectMap}
use Rattle.keyring.specs.Contents.{Contents}
use Rattle.repo_entries.specs.Items.{Item, install}
use Rattle.repo_entries.specs.declared.entry.Entry.TheVariants.{Install}
use Rattle.repo_slice.specs.Good.{IsGood}
use Rattle.repo_slice.specs.Slices.{objects_of, state_of}
use Rattle.repo_slice.specs.Standing.{replaced}
use Rattle.repo_slice.proofs.Replacing.{one_replaced}
use Rattle.repo_slice.specs.Verdicts.{IsInstalled}
use Rattle.repo_slice.specs.declared.state.State.{State}
use Rattle.legal_history.specs.Histories.{Legal}
use Rattle.legal_history.specs.Replays.{Standing, replay, replayed_state, state_in}
use Rattle.legal_history.proofs.GoodStandings.{legal_is_good}
use Rattle.object_store.specs.Installs.{HasFew, HasStagedInstall, IsThere}
use Rattle.object_store.specs.Repositories.{IsAdmitted, IsSame, StandsAs, StandsKnown}
use Rattle.object_store.specs.declared.repository.Repository.{Repository}
use Rattle.object_store.proofs.Keys.{claimant_stays, replay_install, same_or_other}

-- an empty repository stands where nothing does
pub stands_known : (a b : Option Repository) (rid : Rid) (items : List Item) → IsThere rid a b → StandsKnown a rid items → StandsKnown b rid items
stands_known None (Some b) rid items k h = record {
  objects = k.0.objects ∙ sym (ap (λ (s : Standing). s.objects) h.0);
  state = k.0.state ∙ sym (ap (state_in rid) h.0);
  idle = k.0.idle;
  claimed = k.1 ∙ sym h.1;
}
stands_known None None rid items k h = absurd k
stands_known (Some a) b rid items k h = subst (λ (r : Option Repository). StandsKnown r rid items) (sym k) h

-- it is there then
pub known_there : (a b : Option Repository) (rid : Rid) → IsThere rid a b → b ≡ None → ⊥
known_there None (Some b) rid k none = cc none
known_there None None rid k none = k
known_there (Some a) b rid k none = cc (k, none)

pub each_known : (a b : BTreeMap Rid Repository) (rid : Rid) (items : List Item) → ((q : Rid) → StandsKnown (get rid_cmp a q) q items)
    → ((q : Rid) → (q ≡ rid → ⊥) → get rid_cmp b q ≡ get rid_cmp a q) → IsThere rid (get rid_cmp a rid) (get rid_cmp b rid)
    → (q : Rid) → StandsKnown (get rid_cmp b q) q items
each_known a b rid items h others known q = elim (same_or_other q rid) [
  | inl e ↦ subst (λ (x : Rid). StandsKnown (get rid_cmp b x) x items) (sym e) (stands_known (get rid_cmp a rid) (get rid_cmp b rid) rid items known (h rid))
  | inr (other, test) ↦ subst (λ (r : Option Repository). StandsKnown r q items) (sym (others q other)) (h q)
]

-- what is good has few remotes
pub few_in : (objects : ObjectMap) (keyring : Contents) (state : State) → IsGood objects keyring state → length state.remotes ≤ 1024
few_in objects keyring state (inl none) = omega (arith, ap length none.1)
few_in objects keyring state (inr stands) = stands.2.few

-- so has what stands for a legal history, and it is good
pub stands_good : (r : Repository) (rid : Rid) (keyring : Contents) (items : List Item) → Legal keyring items → StandsAs r rid items → IsGood (objects_of r.slice) keyring (state_of r.slice)
stands_good r rid keyring items legal h =
    subst (λ (objects : ObjectMap). IsGood objects keyring (state_of r.slice)) (sym h.objects)
    (subst (λ (state : State). IsGood (replay rid items).objects keyring state) (sym h.state) (legal_is_good keyring rid items legal).good)

pub stands_few : (o : Option Repository) (rid : Rid) (keyring : Contents) (items : List Item) → Legal keyring items → StandsKnown o rid items → HasFew o
stands_few None rid keyring items legal h = tt
stands_few (Some r) rid keyring items legal h = few_in (objects_of r.slice) keyring (state_of r.slice) (stands_good r rid keyring items legal h)

-- a repository in which an install was staged and admitted stands for that install more
pub stands_install : (a m b : Option Repository) (rid of : Rid) (items : List Item) (id : Oid) (remotes : List (Nid × Oid)) (caller : ℕ)
    → (a ≡ None → ⊥) → IsRising (replay rid items).remotes → IsRising remotes → IsSame a m → HasStagedInstall id remotes a m → IsAdmitted (Install of id remotes caller) m b
    → StandsKnown a rid items → StandsKnown b rid (items ++ install rid id remotes caller ∷ [])
stands_install None m b rid of items id remotes caller there rising up s staged admitted h = absurd (there refl)
stands_install (Some a) None b rid of items id remotes caller there rising up s staged admitted h = absurd s
stands_install (Some a) (Some m) None rid of items id remotes caller there rising up s staged admitted h = absurd admitted
stands_install (Some a) (Some m) (Some b) rid of items id remotes caller there rising up s staged admitted h =
    let now = replay_install rid items id remotes caller in
    let put : IsInstalled (replayed_state rid items) id remotes (state_of b.slice) =
    subst (λ (x : State). IsInstalled x id remotes (state_of b.slice)) (s.1 ∙ h.state) admitted.1 in
    let all : (state_of b.slice).remotes ≡ replaced (replay rid items).remotes remotes = one_replaced (replay rid items).remotes remotes (state_of b.slice).remotes rising up put.remotes in
    let state : state_of b.slice ≡ record { rid = rid; id = Some id; remotes = replaced (replay rid items).remotes remotes } =
    (λ i. record { rid = put.rid i; id = put.id i; remotes = all i }) in
    record {
      objects = admitted.0 ∙ staged.0 ∙ h.objects ∙ sym (ap (λ (x : Standing). x.objects) now);
      state = state ∙ sym (ap (state_in rid) now);
      idle = admitted.2;
      claimed = admitted.3 ∙ s.2 ∙ h.claimed ∙ sym (claimant_stays rid items (install rid id remotes caller) tt);
    }
