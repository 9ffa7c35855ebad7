-- What a unit of a request brings: its bytes, its place, and the request that it completes.
use Rattle.std.proofs.Common.{◌≡◌, ℕ, zero, suc, ◌+◌, ◌-◌, ◌<◌, ◌≤◌, ◌==◌, nat_le, nat_lt, Bool, true, false, if◌then◌else◌, List, [], ◌∷◌, ◌++◌, length, slice_index, drop, refl, sym, ap, subst, ◌∙◌, arith, append_assoc, append-nil, length-append, length-drop}
use Rattle.std.specs.Prelude.{Option, None, Some, slice_range}
use Rattle.std.specs.List.{AllByRecursion, flat_map}
use Rattle.std.specs.Int.{from_be_bytes, to_be_bytes, w16}
use Rattle.std.specs.declared.cmp.Ordering.{Ordering}
use Rattle.std.proofs.lemmas.Bool.{eqb-false, eqb-true, ltb-false, leb-false, leb-true}
use Rattle.std.proofs.lemmas.Grind.{flat_map-append}
use Rattle.std.proofs.lemmas.List.{get_or-drop, take_all}
use Rattle.std.proofs.lemmas.Nat.{be_bytes_2}
use Rattle.hex.specs.Hex.{IsBytes}
use Rattle.rad_base.proofs.EachItem.{each_more}
use Rattle.rad_base.proofs.Rising.{above_by, rises_more}
use Rattle.rad_base.specs.Order.{RisesBy, nid_above, nid_cmp, oid_above, oid_cmp}
use Rattle.rad_base.specs.Sizes.{IsNid, IsOid}
use Rattle.rad_base.specs.declared.names.Nid.{Nid}
use Rattle.rad_base.specs.declared.names.Oid.{Oid}
use Rattle.rad_base.specs.declared.names.Rid.{Rid}
use Rattle.unit_reader.specs.Spelling.{only_text}
use Rattle.unit_reader.specs.Units.{Begins, Ends, Breaks}
use Rattle.fetch_wire.specs.Judging.{further}
use Rattle.fetch_wire.specs.RequestJudging.{Says, ahead, anew, ask_in, behind_haves, completes, judge_ask, judge_byte, judge_count, judge_first, judge_have, judge_haves, judge_nid, judge_node, judge_nodes, judge_oid, judge_repository, judge_step, units_at}
use Rattle.fetch_wire.specs.RequestReadings.{begun_by, request_begun}
use Rattle.fetch_wire.specs.Requests.{AreHaves, AreNodes, IsRequest, ask_byte, counted_text, haves_text, nid_text, nodes_text, oid_text, repository_text, request_text}
use Rattle.fetch_wire.specs.declared.request.Ask.{Ask}
use Rattle.fetch_wire.specs.declared.request.Ask.TheVariants as asks
use Rattle.fetch_wire.specs.declared.request.Request.{Request}
use Rattle.fetch_wire.specs.declared.request.Request.TheVariants as request
use Rattle.fetch_wire.specs.declared.request_units.RequestUnits.{RequestUnits}
use Rattle.fetch_wire.specs.declared.request_units.Step.{Step}
use Rattle.fetch_wire.specs.declared.request_units.Step.TheVariants as step
use Rattle.fetch_wire.proofs.OfferTexts.{cut, two_small}
use Rattle.fetch_wire.proofs.UnitTexts.{one_byte, two_bytes}

-- ---- what holds of a unit that stands next

-- a list of which so many items are left
pub record IsBegun {X : Type 0} (Is : X → Type 0) (order : X → X → Ordering) (limit left : ℕ) (items : List X) : Type 0 where
  pub some : 1 ≤ left
  pub few : length items + left ≤ limit
  pub each : AllByRecursion Is items
  pub rising : RisesBy (λ (x : X). x) order items

-- nodes are asked
abbrev pub AsksNodes : Ask → Type 0
AsksNodes asks.Begin = ⊥
AsksNodes asks.Sigs = Unit {0}
AsksNodes asks.Tips = Unit {0}

abbrev pub IsGoodStep : Step → Rid → List Oid → List Nid → Type 0
IsGoodStep step.First rid haves nodes = (haves ≡ []) × (nodes ≡ [])
IsGoodStep (step.Repository ask) rid haves nodes = (haves ≡ []) × (nodes ≡ [])
IsGoodStep (step.Have ask left) rid haves nodes = IsOid rid.0 × IsBegun IsOid oid_cmp 2048 left haves × (nodes ≡ [])
IsGoodStep (step.Count ask) rid haves nodes = IsOid rid.0 × AreHaves haves × AsksNodes ask × (nodes ≡ [])
IsGoodStep (step.Node ask left) rid haves nodes = IsOid rid.0 × AreHaves haves × AsksNodes ask × IsBegun IsNid nid_cmp 1024 left nodes

-- ---- what a unit brings

-- how the places move on
abbrev pub Moves : RequestUnits → List ℕ → Option Request → RequestUnits → Type 0
Moves s unit None t = t.request ≡ s.request
Moves s unit (Some r) t = (t.request ≡ t.place) × (request_begun t ≡ [])

-- the request that is complete is within its limits
abbrev pub IsWhole : Option Request → Type 0
IsWhole None = Unit {0}
IsWhole (Some r) = IsRequest r

pub record Brings (s : RequestUnits) (unit : List ℕ) (item : Option Request) (t : RequestUnits) : Type 0 where
  pub text : request_begun s ++ unit ≡ only_text request_text item ++ request_begun t
  pub good : IsGoodStep t.next t.rid t.haves t.nodes
  pub whole : IsWhole item
  pub place : t.place ≡ further s.place (length unit)
  pub moves : Moves s unit item t

-- the same of a verdict: and what is broken is so where the request begins
abbrev pub Told : RequestUnits → List ℕ → Says → Type 0
Told s unit Begins = Unit {0}
Told s unit (Ends item t) = Brings s unit item t
Told s unit (Breaks place) = place ≡ s.request

-- ---- tools

positive : (n : ℕ) → (n ≡ 0 → ⊥) → 1 ≤ n
positive zero none = absurd (none refl)
positive (suc n) none = omega arith

-- one item more in a counted list
text_more : {X : Type 0} (text : X → List ℕ) (front : List ℕ) (items : List X) (x : X) (unit : List ℕ) (n m : ℕ) → unit ≡ text x → n ≡ m
    → (front ++ counted_text text n items) ++ unit ≡ front ++ counted_text text m (items ++ x ∷ [])
text_more {X} text front items x unit n m is same =
    let all : flat_map text items ++ unit ≡ flat_map text (items ++ x ∷ []) =
    ap (λ (xs : List ℕ). flat_map text items ++ xs) (is ∙ sym (append-nil (text x))) ∙ sym (flat_map-append text items (x ∷ [])) in
    append_assoc front (counted_text text n items) unit
    ∙ ap (λ (xs : List ℕ). front ++ xs) (append_assoc (to_be_bytes w16 n) (flat_map text items) unit
    ∙ (ap (λ (xs : List ℕ). to_be_bytes w16 n ++ xs) all ∙ ap (λ (k : ℕ). to_be_bytes w16 k ++ flat_map text (items ++ x ∷ [])) same))

-- a number of two bytes, and these
count_is : (a b : ℕ) → a < 256 → b < 256 → a ∷ b ∷ [] ≡ to_be_bytes w16 (from_be_bytes w16 (a ∷ b ∷ []))
count_is a b fa fb = sym (be_bytes_2 (a ∷ b ∷ []) (from_be_bytes w16 (a ∷ b ∷ [])) refl (two_small a b fa fb) refl)

-- the two bytes behind 20
two_behind : (bytes : List ℕ) → length bytes ≡ 22 → drop 20 bytes ≡ slice_index bytes 20 ∷ slice_index bytes 21 ∷ []
two_behind bytes size =
    let left : length (drop 20 bytes) ≡ 2 = omega (arith, length-drop 20 bytes) in
    two_bytes (drop 20 bytes) left
    ∙ (ap (λ (x : ℕ). x ∷ slice_index (drop 20 bytes) 1 ∷ []) (get_or-drop 20 bytes 0 0)
    ∙ ap (λ (x : ℕ). slice_index bytes 20 ∷ x ∷ []) (get_or-drop 20 bytes 1 0))

-- ---- the first byte

ask_is : (b : ℕ) (ask : Ask) → ask_in b ≡ Some ask → b ≡ ask_byte ask
ask_is b ask e = by_tests (b == 1) (b == 2) (b == 3) refl refl refl e
  where
    same : (other : Ask) → Some other ≡ Some ask → other ≡ ask
    same other is = cc is

    by_tests : (x y z : Bool) → (b == 1) ≡ x → (b == 2) ≡ y → (b == 3) ≡ z
        → if◌then◌else◌ {A = Option Ask} x (Some asks.Begin) (if◌then◌else◌ {A = Option Ask} y (Some asks.Sigs) (if◌then◌else◌ {A = Option Ask} z (Some asks.Tips) None)) ≡ Some ask
        → b ≡ ask_byte ask
    by_tests true y z ex ey ez is = eqb-true b 1 ex ∙ ap ask_byte (same asks.Begin is)
    by_tests false true z ex ey ez is = eqb-true b 2 ey ∙ ap ask_byte (same asks.Sigs is)
    by_tests false false true ex ey ez is = eqb-true b 3 ez ∙ ap ask_byte (same asks.Tips is)
    by_tests false false false ex ey ez is = cc is

told_ask : (q p : ℕ) (rid : Rid) (b : ℕ) (found : Option Ask) → ask_in b ≡ found
    → Told (units_at q p step.First rid [] []) (b ∷ []) (judge_ask found (units_at q p step.First rid [] []))
told_ask q p rid b None e = refl
told_ask q p rid b (Some ask) e = record {
  text = ap (λ (x : ℕ). x ∷ []) (ask_is b ask e);
  good = (refl, refl);
  whole = tt;
  place = refl;
  moves = refl;
}

told_byte : (q p : ℕ) (rid : Rid) (b : ℕ) → Told (units_at q p step.First rid [] []) (b ∷ []) (judge_byte (units_at q p step.First rid [] []) b)
told_byte q p rid b = by_done (b == 4) refl
  where
    by_done : (x : Bool) → (b == 4) ≡ x
        → Told (units_at q p step.First rid [] []) (b ∷ [])
        (if◌then◌else◌ {A = Says} x (Ends (Some request.Done) (anew (units_at q p step.First rid [] []) 1)) (judge_ask (ask_in b) (units_at q p step.First rid [] [])))
    by_done true e = record {
      text = ap (λ (x : ℕ). x ∷ []) (eqb-true b 4 e);
      good = (refl, refl);
      whole = tt;
      place = refl;
      moves = (refl, refl);
    }
    by_done false e = told_ask q p rid b (ask_in b) refl

told_first : (q p : ℕ) (rid : Rid) (unit : List ℕ) → Told (units_at q p step.First rid [] []) unit (judge_first (units_at q p step.First rid [] []) unit)
told_first q p rid unit = by_size (length unit == 1) refl
  where
    by_size : (x : Bool) → (length unit == 1) ≡ x
        → Told (units_at q p step.First rid [] []) unit (if◌then◌else◌ {A = Says} x (judge_byte (units_at q p step.First rid [] []) (slice_index unit 0)) Begins)
    by_size true e =
        subst (λ (xs : List ℕ). Told (units_at q p step.First rid [] []) xs (judge_byte (units_at q p step.First rid [] []) (slice_index unit 0)))
        (sym (one_byte unit (eqb-true (length unit) 1 e))) (told_byte q p rid (slice_index unit 0))
    by_size false e = tt

-- ---- the end of a request

-- the haves are whole
told_behind : (ask : Ask) (q p : ℕ) (n m : Step) (old rid : Rid) (before haves : List Oid) (unit : List ℕ) (k : ℕ) → length unit ≡ k
    → begun_by n old before [] ++ unit ≡ haves_text ask rid haves → IsOid rid.0 → AreHaves haves
    → Told (units_at q p n old before []) unit (behind_haves ask (units_at q p m rid haves []) k)
told_behind asks.Begin q p n m old rid before haves unit k size text is are = record {
  text = text ∙ sym (append-nil (haves_text asks.Begin rid haves));
  good = (refl, refl);
  whole = (is, are);
  place = ap (λ (c : ℕ). further p c) (sym size);
  moves = (refl, refl);
}
told_behind asks.Sigs q p n m old rid before haves unit k size text is are = record {
  text = text;
  good = (is, are, tt, refl);
  whole = tt;
  place = ap (λ (c : ℕ). further p c) (sym size);
  moves = refl;
}
told_behind asks.Tips q p n m old rid before haves unit k size text is are = record {
  text = text;
  good = (is, are, tt, refl);
  whole = tt;
  place = ap (λ (c : ℕ). further p c) (sym size);
  moves = refl;
}

-- the nodes are whole
told_whole : (ask : Ask) (q p : ℕ) (n m : Step) (rid : Rid) (haves : List Oid) (before nodes : List Nid) (unit : List ℕ) (k : ℕ) → length unit ≡ k → AsksNodes ask
    → begun_by n rid haves before ++ unit ≡ nodes_text ask rid haves nodes → IsOid rid.0 → AreHaves haves → AreNodes nodes
    → Told (units_at q p n rid haves before) unit (completes ask (units_at q p m rid haves nodes) k)
told_whole asks.Begin q p n m rid haves before nodes unit k size asked text is are all = absurd asked
told_whole asks.Sigs q p n m rid haves before nodes unit k size asked text is are all = record {
  text = text ∙ sym (append-nil (nodes_text asks.Sigs rid haves nodes));
  good = (refl, refl);
  whole = (is, are, all);
  place = ap (λ (c : ℕ). further p c) (sym size);
  moves = (refl, refl);
}
told_whole asks.Tips q p n m rid haves before nodes unit k size asked text is are all = record {
  text = text ∙ sym (append-nil (nodes_text asks.Tips rid haves nodes));
  good = (refl, refl);
  whole = (is, are, all);
  place = ap (λ (c : ℕ). further p c) (sym size);
  moves = (refl, refl);
}

-- ---- the repository and the haves

told_haves : (ask : Ask) (q p : ℕ) (old rid : Rid) (unit : List ℕ) (count : ℕ) → length unit ≡ 22 → IsOid rid.0 → unit ≡ rid.0.0 ++ to_be_bytes w16 count
    → Told (units_at q p (step.Repository ask) old [] []) unit (judge_haves ask (units_at q p (step.Repository ask) rid [] []) count)
told_haves ask q p old rid unit count size is text = by_tests (nat_lt 2048 count) (count == 0) refl refl
  where
    by_tests : (a b : Bool) → nat_lt 2048 count ≡ a → (count == 0) ≡ b
        → Told (units_at q p (step.Repository ask) old [] []) unit
        (if◌then◌else◌ {A = Says} a (Breaks q) (if◌then◌else◌ {A = Says} b (behind_haves ask (units_at q p (step.Repository ask) rid [] []) 22)
        (Ends None (ahead (units_at q p (step.Repository ask) rid [] []) 22 (step.Have ask count)))))
    by_tests true b ea eb = refl
    by_tests false true ea eb =
        told_behind ask q p (step.Repository ask) (step.Repository ask) old rid [] [] unit 22 size
        (ap (λ (xs : List ℕ). ask_byte ask ∷ xs) (text ∙ ap (λ (n : ℕ). rid.0.0 ++ to_be_bytes w16 n) (eqb-true count 0 eb)))
        is (record { few = omega arith; each = tt; rising = tt })
    by_tests false false ea eb = record {
      text = let same : count ≡ 0 + count = omega arith in
          ap (λ (xs : List ℕ). ask_byte ask ∷ xs) (text ∙ ap (λ (n : ℕ). rid.0.0 ++ to_be_bytes w16 n) same);
      good = (
        is,
        record {
          some = positive count (eqb-false count 0 eb);
          few = let within = ltb-false 2048 count ea in omega arith;
          each = tt;
          rising = tt;
        },
        refl,
      );
      whole = tt;
      place = ap (λ (c : ℕ). further p c) (sym size);
      moves = refl;
    }

told_repository : (ask : Ask) (q p : ℕ) (old : Rid) (unit : List ℕ) → IsBytes unit
    → Told (units_at q p (step.Repository ask) old [] []) unit (judge_repository ask (units_at q p (step.Repository ask) old [] []) unit)
told_repository ask q p old unit fits = by_size (length unit == 22) refl
  where
    by_size : (x : Bool) → (length unit == 22) ≡ x
        → Told (units_at q p (step.Repository ask) old [] []) unit
        (if◌then◌else◌ {A = Says} x (judge_haves ask (units_at q p (step.Repository ask) (record { 0 = record { 0 = slice_range unit 0 20 } }) [] []) (from_be_bytes w16 (slice_index unit 20 ∷ slice_index unit 21 ∷ []))) Begins)
    by_size true e =
        let size : length unit ≡ 22 = eqb-true (length unit) 22 e in
        let front = cut 20 unit (omega arith) fits in
        told_haves ask q p old (record { 0 = record { 0 = slice_range unit 0 20 } }) unit (from_be_bytes w16 (slice_index unit 20 ∷ slice_index unit 21 ∷ [])) size front.whole
        (front.split ∙ ap (λ (xs : List ℕ). slice_range unit 0 20 ++ xs) (two_behind unit size ∙ count_is (slice_index unit 20) (slice_index unit 21) (fits 20) (fits 21)))
    by_size false e = tt

told_oid : (ask : Ask) (q p left : ℕ) (rid : Rid) (haves : List Oid) (unit : List ℕ) (oid : Oid) → IsOid rid.0 → IsBegun IsOid oid_cmp 2048 left haves → IsOid oid → unit ≡ oid.0 → length unit ≡ 20
    → Told (units_at q p (step.Have ask left) rid haves []) unit (judge_oid ask left (units_at q p (step.Have ask left) rid haves []) oid)
told_oid ask q p left rid haves unit oid is_rid good is text size = by_tests (oid_above haves oid) (nat_le left 1) refl refl
  where
    longer : length (haves ++ oid ∷ []) ≡ length haves + 1
    longer = length-append haves (oid ∷ [])

    rises : oid_above haves oid ≡ true → RisesBy (λ (x : Oid). x) oid_cmp (haves ++ oid ∷ [])
    rises e = rises_more (λ (x : Oid). x) oid_cmp haves oid good.rising (above_by (λ (x : Oid). x) oid_cmp haves oid e)

    by_tests : (a b : Bool) → oid_above haves oid ≡ a → nat_le left 1 ≡ b
        → Told (units_at q p (step.Have ask left) rid haves []) unit
        (if◌then◌else◌ {A = Says} a (if◌then◌else◌ {A = Says} b (behind_haves ask (units_at q p (step.Have ask left) rid (haves ++ oid ∷ []) []) 20)
        (Ends None (ahead (units_at q p (step.Have ask left) rid (haves ++ oid ∷ []) []) 20 (step.Have ask (left - 1))))) (Breaks q))
    by_tests true true ea eb =
        let one = leb-true left 1 eb in
        let some = good.some in
        let few = good.few in
        let more = longer in
        told_behind ask q p (step.Have ask left) (step.Have ask left) rid rid haves (haves ++ oid ∷ []) unit 20 size
        (text_more oid_text (repository_text ask rid) haves oid unit (length haves + left) (length (haves ++ oid ∷ [])) text (omega arith))
        is_rid (record { few = omega arith; each = each_more IsOid haves oid good.each is; rising = rises ea })
    by_tests true false ea eb =
        let one = leb-false left 1 eb in
        let few = good.few in
        let more = longer in
        record {
          text = text_more oid_text (repository_text ask rid) haves oid unit (length haves + left) (length (haves ++ oid ∷ []) + (left - 1)) text (omega arith);
          good = (is_rid, record { some = omega arith; few = omega arith; each = each_more IsOid haves oid good.each is; rising = rises ea }, refl);
          whole = tt;
          place = ap (λ (c : ℕ). further p c) (sym size);
          moves = refl;
        }
    by_tests false b ea eb = refl

told_have : (ask : Ask) (q p left : ℕ) (rid : Rid) (haves : List Oid) (unit : List ℕ) → IsOid rid.0 → IsBegun IsOid oid_cmp 2048 left haves → IsBytes unit
    → Told (units_at q p (step.Have ask left) rid haves []) unit (judge_have ask left (units_at q p (step.Have ask left) rid haves []) unit)
told_have ask q p left rid haves unit is good fits = by_size (length unit == 20) refl
  where
    by_size : (x : Bool) → (length unit == 20) ≡ x
        → Told (units_at q p (step.Have ask left) rid haves []) unit
        (if◌then◌else◌ {A = Says} x (judge_oid ask left (units_at q p (step.Have ask left) rid haves []) (record { 0 = slice_range unit 0 20 })) Begins)
    by_size true e =
        let size : length unit ≡ 20 = eqb-true (length unit) 20 e in
        let front = cut 20 unit (omega arith) fits in
        told_oid ask q p left rid haves unit (record { 0 = slice_range unit 0 20 }) is good front.whole (sym (take_all 20 unit (omega arith))) size
    by_size false e = tt

-- ---- the nodes

told_nodes : (ask : Ask) (q p : ℕ) (rid : Rid) (haves : List Oid) (unit : List ℕ) (count : ℕ) → length unit ≡ 2 → IsOid rid.0 → AreHaves haves → AsksNodes ask → unit ≡ to_be_bytes w16 count
    → Told (units_at q p (step.Count ask) rid haves []) unit (judge_nodes ask (units_at q p (step.Count ask) rid haves []) count)
told_nodes ask q p rid haves unit count size is are asked text = by_tests (nat_lt 1024 count) (count == 0) refl refl
  where
    by_tests : (a b : Bool) → nat_lt 1024 count ≡ a → (count == 0) ≡ b
        → Told (units_at q p (step.Count ask) rid haves []) unit
        (if◌then◌else◌ {A = Says} a (Breaks q) (if◌then◌else◌ {A = Says} b (completes ask (units_at q p (step.Count ask) rid haves []) 2)
        (Ends None (ahead (units_at q p (step.Count ask) rid haves []) 2 (step.Node ask count)))))
    by_tests true b ea eb = refl
    by_tests false true ea eb =
        told_whole ask q p (step.Count ask) (step.Count ask) rid haves [] [] unit 2 size asked
        (ap (λ (xs : List ℕ). haves_text ask rid haves ++ xs) (text ∙ ap (λ (n : ℕ). to_be_bytes w16 n) (eqb-true count 0 eb)))
        is are (record { few = omega arith; each = tt; rising = tt })
    by_tests false false ea eb = record {
      text = let same : count ≡ 0 + count = omega arith in
          ap (λ (xs : List ℕ). haves_text ask rid haves ++ xs) (text ∙ ap (λ (n : ℕ). to_be_bytes w16 n) same);
      good = (
        is,
        are,
        asked,
        record {
          some = positive count (eqb-false count 0 eb);
          few = let within = ltb-false 1024 count ea in omega arith;
          each = tt;
          rising = tt;
        },
      );
      whole = tt;
      place = ap (λ (c : ℕ). further p c) (sym size);
      moves = refl;
    }

told_count : (ask : Ask) (q p : ℕ) (rid : Rid) (haves : List Oid) (unit : List ℕ) → IsOid rid.0 → AreHaves haves → AsksNodes ask → IsBytes unit
    → Told (units_at q p (step.Count ask) rid haves []) unit (judge_count ask (units_at q p (step.Count ask) rid haves []) unit)
told_count ask q p rid haves unit is are asked fits = by_size (length unit == 2) refl
  where
    by_size : (x : Bool) → (length unit == 2) ≡ x
        → Told (units_at q p (step.Count ask) rid haves []) unit
        (if◌then◌else◌ {A = Says} x (judge_nodes ask (units_at q p (step.Count ask) rid haves []) (from_be_bytes w16 (slice_index unit 0 ∷ slice_index unit 1 ∷ []))) Begins)
    by_size true e =
        let size : length unit ≡ 2 = eqb-true (length unit) 2 e in
        told_nodes ask q p rid haves unit (from_be_bytes w16 (slice_index unit 0 ∷ slice_index unit 1 ∷ [])) size is are asked
        (two_bytes unit size ∙ count_is (slice_index unit 0) (slice_index unit 1) (fits 0) (fits 1))
    by_size false e = tt

told_nid : (ask : Ask) (q p left : ℕ) (rid : Rid) (haves : List Oid) (nodes : List Nid) (unit : List ℕ) (nid : Nid) → IsOid rid.0 → AreHaves haves → AsksNodes ask → IsBegun IsNid nid_cmp 1024 left nodes → IsNid nid → unit ≡ nid.0 → length unit ≡ 32
    → Told (units_at q p (step.Node ask left) rid haves nodes) unit (judge_nid ask left (units_at q p (step.Node ask left) rid haves nodes) nid)
told_nid ask q p left rid haves nodes unit nid is_rid are asked good is text size = by_tests (nid_above nodes nid) (nat_le left 1) refl refl
  where
    longer : length (nodes ++ nid ∷ []) ≡ length nodes + 1
    longer = length-append nodes (nid ∷ [])

    rises : nid_above nodes nid ≡ true → RisesBy (λ (x : Nid). x) nid_cmp (nodes ++ nid ∷ [])
    rises e = rises_more (λ (x : Nid). x) nid_cmp nodes nid good.rising (above_by (λ (x : Nid). x) nid_cmp nodes nid e)

    by_tests : (a b : Bool) → nid_above nodes nid ≡ a → nat_le left 1 ≡ b
        → Told (units_at q p (step.Node ask left) rid haves nodes) unit
        (if◌then◌else◌ {A = Says} a (if◌then◌else◌ {A = Says} b (completes ask (units_at q p (step.Node ask left) rid haves (nodes ++ nid ∷ [])) 32)
        (Ends None (ahead (units_at q p (step.Node ask left) rid haves (nodes ++ nid ∷ [])) 32 (step.Node ask (left - 1))))) (Breaks q))
    by_tests true true ea eb =
        let one = leb-true left 1 eb in
        let some = good.some in
        let few = good.few in
        let more = longer in
        told_whole ask q p (step.Node ask left) (step.Node ask left) rid haves nodes (nodes ++ nid ∷ []) unit 32 size asked
        (text_more nid_text (haves_text ask rid haves) nodes nid unit (length nodes + left) (length (nodes ++ nid ∷ [])) text (omega arith))
        is_rid are (record { few = omega arith; each = each_more IsNid nodes nid good.each is; rising = rises ea })
    by_tests true false ea eb =
        let one = leb-false left 1 eb in
        let few = good.few in
        let more = longer in
        record {
          text = text_more nid_text (haves_text ask rid haves) nodes nid unit (length nodes + left) (length (nodes ++ nid ∷ []) + (left - 1)) text (omega arith);
          good = (is_rid, are, asked, record { some = omega arith; few = omega arith; each = each_more IsNid nodes nid good.each is; rising = rises ea });
          whole = tt;
          place = ap (λ (c : ℕ). further p c) (sym size);
          moves = refl;
        }
    by_tests false b ea eb = refl

told_node : (ask : Ask) (q p left : ℕ) (rid : Rid) (haves : List Oid) (nodes : List Nid) (unit : List ℕ) → IsOid rid.0 → AreHaves haves → AsksNodes ask → IsBegun IsNid nid_cmp 1024 left nodes → IsBytes unit
    → Told (units_at q p (step.Node ask left) rid haves nodes) unit (judge_node ask left (units_at q p (step.Node ask left) rid haves nodes) unit)
told_node ask q p left rid haves nodes unit is are asked good fits = by_size (length unit == 32) refl
  where
    by_size : (x : Bool) → (length unit == 32) ≡ x
        → Told (units_at q p (step.Node ask left) rid haves nodes) unit
        (if◌then◌else◌ {A = Says} x (judge_nid ask left (units_at q p (step.Node ask left) rid haves nodes) (record { 0 = slice_range unit 0 32 })) Begins)
    by_size true e =
        let size : length unit ≡ 32 = eqb-true (length unit) 32 e in
        let front = cut 32 unit (omega arith) fits in
        told_nid ask q p left rid haves nodes unit (record { 0 = slice_range unit 0 32 }) is are asked good front.whole (sym (take_all 32 unit (omega arith))) size
    by_size false e = tt

-- ---- a unit of any step

-- a list that has nothing
without : (P : List Oid → List Nid → Type 0) (haves : List Oid) (nodes : List Nid) → haves ≡ [] → nodes ≡ [] → P [] [] → P haves nodes
without P haves nodes eh en is = subst (λ (ns : List Nid). P haves ns) (sym en) (subst (λ (hs : List Oid). P hs []) (sym eh) is)

pub told_step : (q p : ℕ) (n : Step) (rid : Rid) (haves : List Oid) (nodes : List Nid) (unit : List ℕ) → IsGoodStep n rid haves nodes → IsBytes unit
    → Told (units_at q p n rid haves nodes) unit (judge_step n (units_at q p n rid haves nodes) unit)
told_step q p step.First rid haves nodes unit good fits =
    without (λ hs ns. Told (units_at q p step.First rid hs ns) unit (judge_first (units_at q p step.First rid hs ns) unit)) haves nodes good.0 good.1 (told_first q p rid unit)
told_step q p (step.Repository ask) rid haves nodes unit good fits =
    without (λ hs ns. Told (units_at q p (step.Repository ask) rid hs ns) unit (judge_repository ask (units_at q p (step.Repository ask) rid hs ns) unit)) haves nodes good.0 good.1 (told_repository ask q p rid unit fits)
told_step q p (step.Have ask left) rid haves nodes unit good fits =
    subst (λ (ns : List Nid). Told (units_at q p (step.Have ask left) rid haves ns) unit (judge_have ask left (units_at q p (step.Have ask left) rid haves ns) unit)) (sym good.2)
    (told_have ask q p left rid haves unit good.0 good.1 fits)
told_step q p (step.Count ask) rid haves nodes unit good fits =
    subst (λ (ns : List Nid). Told (units_at q p (step.Count ask) rid haves ns) unit (judge_count ask (units_at q p (step.Count ask) rid haves ns) unit)) (sym good.3)
    (told_count ask q p rid haves unit good.0 good.1 good.2 fits)
told_step q p (step.Node ask left) rid haves nodes unit good fits = told_node ask q p left rid haves nodes unit good.0 good.1 good.2 good.3 fits
