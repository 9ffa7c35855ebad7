-- The names of repositories, and what one entry more makes of each.
use Rattle.std.proofs.Common.{◌≡◌, ◌⊎◌, ℕ, Bool, true, false, if◌then◌else◌, List, [], ◌∷◌, ◌++◌, inl, inr, refl, sym, ap, ◌∙◌}
use Rattle.std.specs.Prelude.{Option}
use Rattle.std.specs.Cmp.{IsTotalOrder}
use Rattle.std.proofs.lemmas.Cmp.{nat_list_cmp_total, on_total}
use Rattle.std.proofs.lemmas.Map.Lookups.{CmpEqualImpliesEq}
use Rattle.rad_base.specs.Order.{rid_cmp}
use Rattle.rad_base.specs.declared.names.Nid.{Nid}
use Rattle.rad_base.specs.declared.names.Oid.{Oid}
use Rattle.rad_base.specs.declared.names.Rid.{Rid}
use Rattle.rad_base.proofs.NameOrder.{equal_from_is_eq, equals_itself, oid_exact}
use Rattle.commit_graph.specs.Objects.{Object}
use Rattle.gossip_wire.specs.declared.message.Message.{Message}
use Rattle.repo_entries.specs.Items.{Item, claim, heard, install, missed, put, refused}
use Rattle.repo_entries.specs.declared.entry.Left.{Left}
use Rattle.repo_entries.specs.declared.whole.Whole.{Whole}
use Rattle.legal_history.specs.Replays.{Standing, after_install, after_item, after_items, after_put, claimant, is_same, nothing_stands, replay}

-- the order of names is total
pub rid_total : IsTotalOrder rid_cmp
rid_total = on_total (λ r. r.0.0) nat_list_cmp_total

-- names that compare as equal are one
pub rid_exact : CmpEqualImpliesEq rid_cmp
rid_exact a b h = ap (λ (oid : Oid). record { 0 = oid }) (oid_exact a.0 b.0 h)

-- a name is another or it is not
pub same_or_other : (a b : Rid) → (a ≡ b) ⊎ ((a ≡ b → ⊥) × (is_same a b ≡ false))
same_or_other a b = chosen (is_same a b) refl
  where
    itself : a ≡ b → is_same a b ≡ true
    itself same = ap (λ (x : Rid). is_same a x) (sym same) ∙ equals_itself a.0.0

    chosen : (test : Bool) → is_same a b ≡ test → (a ≡ b) ⊎ ((a ≡ b → ⊥) × (is_same a b ≡ false))
    chosen true e = inl (rid_exact a b (equal_from_is_eq (rid_cmp a b) e))
    chosen false e = inr (λ same. let yes = itself same in cc, e)

-- a name is itself
pub is_itself : (a : Rid) → is_same a a ≡ true
is_itself a = equals_itself a.0.0

-- entries behind entries
pub after-append : (rid : Rid) (s : Standing) (these those : List Item) → after_items rid s (these ++ those) ≡ after_items rid (after_items rid s these) those
after-append rid s [] those = refl
after-append rid s (item ∷ items) those = after-append rid (after_item rid s item) items those

-- what an entry makes of its repository, and nothing of another
pub replay_put : (rid : Rid) (items : List Item) (batch : List Object) (caller : ℕ) → replay rid (items ++ put rid batch caller ∷ []) ≡ after_put batch (replay rid items)
replay_put rid items batch caller =
    after-append rid nothing_stands items (put rid batch caller ∷ []) ∙ ap (λ (b : Bool). if b then after_put batch (replay rid items) else replay rid items) (is_itself rid)

pub replay_put_other : (rid of : Rid) (items : List Item) (batch : List Object) (caller : ℕ) → is_same rid of ≡ false → replay rid (items ++ put of batch caller ∷ []) ≡ replay rid items
replay_put_other rid of items batch caller other =
    after-append rid nothing_stands items (put of batch caller ∷ []) ∙ ap (λ (b : Bool). if b then after_put batch (replay rid items) else replay rid items) other

pub replay_install : (rid : Rid) (items : List Item) (id : Oid) (remotes : List (Nid × Oid)) (caller : ℕ)
    → replay rid (items ++ install rid id remotes caller ∷ []) ≡ after_install id remotes (replay rid items)
replay_install rid items id remotes caller =
    after-append rid nothing_stands items (install rid id remotes caller ∷ [])
    ∙ ap (λ (b : Bool). if b then after_install id remotes (replay rid items) else replay rid items) (is_itself rid)

pub replay_install_other : (rid of : Rid) (items : List Item) (id : Oid) (remotes : List (Nid × Oid)) (caller : ℕ) → is_same rid of ≡ false
    → replay rid (items ++ install of id remotes caller ∷ []) ≡ replay rid items
replay_install_other rid of items id remotes caller other =
    after-append rid nothing_stands items (install of id remotes caller ∷ [])
    ∙ ap (λ (b : Bool). if b then after_install id remotes (replay rid items) else replay rid items) other

pub replay_claim : (rid of : Rid) (items : List Item) (caller : ℕ) → replay rid (items ++ claim of caller ∷ []) ≡ replay rid items
replay_claim rid of items caller = after-append rid nothing_stands items (claim of caller ∷ [])

pub replay_heard : (rid : Rid) (items : List Item) (message : Message) (caller : ℕ) → replay rid (items ++ heard message caller ∷ []) ≡ replay rid items
replay_heard rid items message caller = after-append rid nothing_stands items (heard message caller ∷ [])

pub replay_missed : (rid : Rid) (items : List Item) (of : Option Rid) (left : Left) (caller : ℕ) → replay rid (items ++ missed of left caller ∷ []) ≡ replay rid items
replay_missed rid items of left caller = after-append rid nothing_stands items (missed of left caller ∷ [])

pub replay_refused : (rid of : Rid) (items : List Item) (why : Whole) (caller : ℕ) → replay rid (items ++ refused of why caller ∷ []) ≡ replay rid items
replay_refused rid of items why caller = after-append rid nothing_stands items (refused of why caller ∷ [])

-- an entry is no claim
abbrev pub IsNoClaim : Item → Type 0
IsNoClaim (claim rid caller) = ⊥
IsNoClaim (put rid batch caller) = Unit {0}
IsNoClaim (install rid id remotes caller) = Unit {0}
IsNoClaim (heard message caller) = Unit {0}
IsNoClaim (missed of left caller) = Unit {0}
IsNoClaim (refused rid why caller) = Unit {0}

nobody : (rid : Rid) (item : Item) → IsNoClaim item → claimant rid (item ∷ []) ≡ 0
nobody rid (claim q c) free = absurd free
nobody rid (put q b c) free = refl
nobody rid (install q i r c) free = refl
nobody rid (heard m c) free = refl
nobody rid (missed q l c) free = refl
nobody rid (refused q w c) free = refl

-- it leaves who claimed what
pub claimant_stays : (rid : Rid) (items : List Item) (item : Item) → IsNoClaim item → claimant rid (items ++ item ∷ []) ≡ claimant rid items
claimant_stays rid [] item free = nobody rid item free
claimant_stays rid (claim q c ∷ items) item free = ap (λ (n : ℕ). if is_same rid q then c else n) (claimant_stays rid items item free)
claimant_stays rid (put q b c ∷ items) item free = claimant_stays rid items item free
claimant_stays rid (install q i r c ∷ items) item free = claimant_stays rid items item free
claimant_stays rid (heard m c ∷ items) item free = claimant_stays rid items item free
claimant_stays rid (missed q l c ∷ items) item free = claimant_stays rid items item free
claimant_stays rid (refused q w c ∷ items) item free = claimant_stays rid items item free
