-- What calls make of the repositories of a store.
use Rattle.std.proofs.Common.{◌≡◌, ℕ, false, List, [], ◌∷◌, ◌++◌, Option, None, Some, inl, inr, refl, sym, ap, subst, ◌∙◌}
use Rattle.std.specs.BTreeMap.{BTreeMap, get}
use Rattle.std.specs.Option.{option_or}
use Rattle.rad_base.specs.Order.{rid_cmp}
use Rattle.rad_base.specs.declared.names.Rid.{Rid}
use Rattle.commit_graph.specs.InMemory.{objects_in}
use Rattle.commit_graph.specs.Objects.{Object, ObjectMap}
use Rattle.commit_graph.proofs.Named.{objects_behind}
use Rattle.repo_entries.specs.Items.{Item, missed, names_of, put}
use Rattle.repo_entries.specs.declared.entry.Entry.TheVariants.{Put}
use Rattle.repo_entries.specs.declared.entry.Left.{Left}
use Rattle.repo_slice.specs.declared.state.State.{State}
use Rattle.legal_history.specs.Replays.{Standing, claimant, replay, is_same, state_in, with_objects}
use Rattle.object_store.specs.Repositories.{HasStagedPut, IsAdmitted, IsIdle, IsSame, StandsKnown, claimant_at, own_rid}
use Rattle.object_store.specs.declared.repository.Repository.{Repository}
use Rattle.object_store.proofs.Keys.{claimant_stays, replay_missed, replay_put, same_or_other}

-- a repository stands for a history that makes the same of it
pub stands_so : (r : Option Repository) (rid : Rid) (old new : List Item) → replay rid new ≡ replay rid old → claimant rid new ≡ claimant rid old → StandsKnown r rid old → StandsKnown r rid new
stands_so None rid old new same claim h = (same ∙ h.0, claim ∙ h.1)
stands_so (Some r) rid old new same claim h = record {
  objects = h.objects ∙ sym (ap (λ (s : Standing). s.objects) same);
  state = h.state ∙ sym (ap (state_in rid) same);
  idle = h.idle;
  claimed = h.claimed ∙ sym claim;
}

-- a repository that is the same stands for the same
pub stands_same : (a b : Option Repository) (rid : Rid) (items : List Item) → IsSame a b → IsIdle b → StandsKnown a rid items → StandsKnown b rid items
stands_same None None rid items s idle h = h
stands_same (Some a) (Some b) rid items s idle h = record {
  objects = s.0 ∙ h.objects;
  state = s.1 ∙ h.state;
  idle = idle;
  claimed = s.2 ∙ h.claimed;
}
stands_same None (Some b) rid items s idle h = absurd s
stands_same (Some a) None rid items s idle h = absurd s

-- nothing is staged in what stands
pub stands_idle : (r : Option Repository) (rid : Rid) (items : List Item) → StandsKnown r rid items → IsIdle r
stands_idle None rid items h = tt
stands_idle (Some r) rid items h = h.idle

-- one is the same as a third where it is the same as a second
pub same_along : (a m b : Option Repository) → IsSame a m → IsSame m b → IsSame a b
same_along None None None s t = tt
same_along (Some a) (Some m) (Some b) s t = (t.0 ∙ s.0, t.1 ∙ s.1, t.2 ∙ s.2)
same_along None (Some m) b s t = absurd s
same_along (Some a) None b s t = absurd s
same_along None None (Some b) s t = absurd t
same_along (Some a) (Some m) None s t = absurd t

-- a repository that stands has its name
pub named : (r : Option Repository) (rid : Rid) (items : List Item) → StandsKnown r rid items → own_rid r rid ≡ rid
named None rid items h = refl
named (Some r) rid items h = ap (λ (s : State). s.rid) h.state

-- all stand where one is the same and the others stay
pub each_same : (a b : BTreeMap Rid Repository) (rid : Rid) (items : List Item) → ((q : Rid) → StandsKnown (get rid_cmp a q) q items)
    → ((q : Rid) → (q ≡ rid → ⊥) → get rid_cmp b q ≡ get rid_cmp a q) → IsSame (get rid_cmp a rid) (get rid_cmp b rid) → IsIdle (get rid_cmp b rid)
    → (q : Rid) → StandsKnown (get rid_cmp b q) q items
each_same a b rid items h others same idle q = elim (same_or_other q rid) [
  | inl e ↦ subst (λ (x : Rid). StandsKnown (get rid_cmp b x) x items) (sym e) (stands_same (get rid_cmp a rid) (get rid_cmp b rid) rid items same idle (h rid))
  | inr (other, test) ↦ subst (λ (r : Option Repository). StandsKnown r q items) (sym (others q other)) (h q)
]

-- with one entry more that makes nothing of any
pub each_missed : (b : BTreeMap Rid Repository) (items : List Item) (of : Option Rid) (left : Left) (caller : ℕ) → ((q : Rid) → StandsKnown (get rid_cmp b q) q items)
    → (q : Rid) → StandsKnown (get rid_cmp b q) q (items ++ missed of left caller ∷ [])
each_missed b items of left caller h q =
    stands_so (get rid_cmp b q) q items (items ++ missed of left caller ∷ []) (replay_missed q items of left caller) (claimant_stays q items (missed of left caller) tt) (h q)

-- all stand where one has grown and the others stay
pub each_grown : (a b : BTreeMap Rid Repository) (rid : Rid) (items : List Item) (item : Item) → ((q : Rid) → StandsKnown (get rid_cmp a q) q items)
    → ((q : Rid) → (q ≡ rid → ⊥) → get rid_cmp b q ≡ get rid_cmp a q)
    → ((q : Rid) → is_same q rid ≡ false → (replay q (items ++ item ∷ []) ≡ replay q items) × (claimant q (items ++ item ∷ []) ≡ claimant q items))
    → StandsKnown (get rid_cmp b rid) rid (items ++ item ∷ [])
    → (q : Rid) → StandsKnown (get rid_cmp b q) q (items ++ item ∷ [])
each_grown a b rid items item h others stays grown q = elim (same_or_other q rid) [
  | inl e ↦ subst (λ (x : Rid). StandsKnown (get rid_cmp b x) x (items ++ item ∷ [])) (sym e) grown
  | inr (other, test) ↦
      stands_so (get rid_cmp b q) q items (items ++ item ∷ []) (stays q test).0 (stays q test).1
      (subst (λ (r : Option Repository). StandsKnown r q items) (sym (others q other)) (h q))
]

-- the objects of a put, behind those that stand
put_along : (old batch : List Object) (objects : ObjectMap) → objects_in old ≡ objects → objects_in (old ++ batch) ≡ with_objects objects batch
put_along old batch objects e = λ i oid. (objects_behind old batch oid ∙ ap (λ (m : ObjectMap). option_or (m oid) (objects_in batch oid)) e) i

-- a repository in which a put was staged and admitted stands for that put more
pub stands_put : (a m b : Option Repository) (rid of : Rid) (items : List Item) (batch : List Object) (caller : ℕ)
    → (a ≡ None → ⊥) → IsSame a m → HasStagedPut batch a m → IsAdmitted (Put of (names_of batch) caller) m b → StandsKnown a rid items
    → StandsKnown b rid (items ++ put rid batch caller ∷ [])
stands_put None m b rid of items batch caller there s staged admitted h = absurd (there refl)
stands_put (Some a) None b rid of items batch caller there s staged admitted h = absurd s
stands_put (Some a) (Some m) None rid of items batch caller there s staged admitted h = absurd admitted
stands_put (Some a) (Some m) (Some b) rid of items batch caller there s staged admitted h =
    let now = replay_put rid items batch caller in
    record {
      objects = admitted.0 ∙ staged ∙ put_along a.slice.objects.objects batch (replay rid items).objects h.objects ∙ sym (ap (λ (x : Standing). x.objects) now);
      state = admitted.1 ∙ s.1 ∙ h.state ∙ sym (ap (state_in rid) now);
      idle = admitted.2;
      claimed = admitted.3 ∙ s.2 ∙ h.claimed ∙ sym (claimant_stays rid items (put rid batch caller) tt);
    }

-- who claimed a repository that stands for some entries
pub claimant_told : (r : Option Repository) (rid : Rid) (items : List Item) → StandsKnown r rid items → claimant_at r ≡ claimant rid items
claimant_told None rid items h = sym h.1
claimant_told (Some r) rid items h = h.claimed
