-- Fields can be read in one way.
use Rattle.std.proofs.Common.{◌≡◌, ℕ, ◌+◌, ◌<◌, List, [], ◌∷◌, ◌++◌, get_or, drop, sym, ap, subst, ◌∙◌}
use Rattle.std.specs.List.{flat_map}
use Rattle.rad_base.specs.declared.names.Rid.{Rid}
use Rattle.rad_base.specs.Order.{IsAboveBy, rid_cmp}
use Rattle.rad_base.proofs.OneFront.{one_front, one_oid}
use Rattle.rad_base.proofs.Rising.{above_front, rises_more}
use Rattle.rad_base.proofs.Texts.{HasItems, OneInFront, items_more, next_item}
use Rattle.rad_base.specs.Lists.{AreItems}
use Rattle.gossip_wire.specs.Fields.{AreRising, IsAddress, IsRid, rid_text, sized}

-- the field in front is one
pub one_sized : (x y a b : List ℕ) → sized x ++ a ≡ sized y ++ b → (x ≡ y) × (a ≡ b)
one_sized x y a b e = one_front x y a b (ap (λ (l : List ℕ). get_or l 0 0) e) (ap (λ (l : List ℕ). drop 1 l) e)

-- where the field in front is not of this kind, none of it stands there
pub no_sized : (Is : List ℕ → Type 0) (bytes field rest : List ℕ) → bytes ≡ sized field ++ rest → (Is field → ⊥)
    → (x more : List ℕ) → Is x → bytes ≡ sized x ++ more → ⊥
no_sized Is bytes field rest h bad x more is e =
    bad (subst Is (sym (one_sized field x rest more (sym h ∙ e)).0) is)

pub one_address : OneInFront IsAddress sized
one_address x y a b hx hy e = one_sized x y a b e

pub one_rid : OneInFront IsRid rid_text
one_rid r s a b hr hs e =
    let one = one_oid r.0 s.0 a b hr hs e in
    ((λ i. record { 0 = one.0 i }), one.1)

-- so many names were read, each above the one before, and this is left
pub record HasRids (bytes : List ℕ) (n : ℕ) (rids : List Rid) (rest : List ℕ) : Type 0 where
  pub rising : AreRising rids
  pub items : HasItems IsRid rid_text bytes n rids rest

-- one more name was read
pub rids_more : (bytes : List ℕ) (n : ℕ) (rids : List Rid) (rest more : List ℕ) (rid : Rid) → HasRids bytes n rids rest → IsRid rid
    → IsAboveBy (λ x. x) rid_cmp rids rid → rest ≡ rid_text rid ++ more → HasRids bytes (n + 1) (rids ++ rid ∷ []) more
rids_more bytes n rids rest more rid h is above e = record {
  rising = rises_more (λ x. x) rid_cmp rids rid h.rising above;
  items = items_more IsRid rid_text bytes n rids rest more rid h.items is e;
}

-- where the name that stands next is not above those before it, the names do not rise
pub rids_not_rising : (bytes : List ℕ) (n count : ℕ) (rids : List Rid) (rest more : List ℕ) (rid : Rid) → HasRids bytes n rids rest → n < count
    → IsRid rid → rest ≡ rid_text rid ++ more → (IsAboveBy (λ x. x) rid_cmp rids rid → ⊥)
    → (all : List Rid) → AreRising all → AreItems IsRid rid_text bytes count all → ⊥
rids_not_rising bytes n count rids rest more rid h few is e below all rising are =
    let s = next_item IsRid rid_text one_rid bytes n count rids rest h.items few all are in
    let same = one_rid s.next rid (flat_map rid_text s.more) more s.is is (sym s.begins ∙ e) in
    below (subst (λ (r : Rid). IsAboveBy (λ x. x) rid_cmp rids r) same.0
    (above_front (λ x. x) rid_cmp rids s.next s.more (subst (λ (l : List Rid). AreRising l) s.whole rising)))
