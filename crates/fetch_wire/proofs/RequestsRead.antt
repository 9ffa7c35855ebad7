-- Requests that are spelled are read.
use Rattle.std.proofs.Common.{◌≡◌, ℕ, zero, suc, ◌-◌, ◌<◌, ◌≤◌, ◌==◌, nat_le, nat_lt, Bool, true, false, if◌then◌else◌, List, [], ◌∷◌, ◌++◌, length, slice_index, take, refl, sym, ap, subst, ◌∙◌, arith, append_assoc, append-nil, length-append}
use Rattle.std.specs.Prelude.{Option, None, Some, slice_range}
use Rattle.std.specs.List.{AllByRecursion, flat_map}
use Rattle.std.specs.Int.{byte_at, from_be_bytes, to_be_bytes, w16}
use Rattle.std.proofs.lemmas.Bool.{eqb-false, eqb-true, leb-true, ltb-true}
use Rattle.std.proofs.lemmas.List.{length-take-le, take_all}
use Rattle.std.proofs.lemmas.Nat.{from_be_bytes-to_be_bytes_2}
use Rattle.rad_base.proofs.OneFront.{one_front}
use Rattle.rad_base.proofs.Rising.{above_front, passes_by}
use Rattle.rad_base.specs.Order.{RisesBy, nid_above, nid_cmp, oid_above, oid_cmp}
use Rattle.rad_base.specs.Sizes.{IsNid, IsOid}
use Rattle.rad_base.specs.declared.names.Nid.{Nid}
use Rattle.rad_base.specs.declared.names.Oid.{Oid}
use Rattle.rad_base.specs.declared.names.Rid.{Rid}
use Rattle.unit_reader.specs.Units.{Begins, Ends, Breaks, FrontsBegin, At, Broken, Place, behind, only, reading, then_on}
use Rattle.unit_reader.proofs.Readings.{in_pieces, unit_read}
use Rattle.fetch_wire.specs.Judging.{further}
use Rattle.fetch_wire.specs.RequestJudging.{Says, behind_haves, completes, first_request, goes_on, judge_haves, judge_nid, judge_nodes, judge_oid, judge_request, units_at}
use Rattle.fetch_wire.specs.RequestReadings.{ReadsRequests, RequestsRead, read_from, requests_of}
use Rattle.fetch_wire.specs.Requests.{AreHaves, AreNodes, IsRequest, Requests, ask_byte, counted_text, haves_text, nid_text, nodes_text, oid_text, request_text}
use Rattle.fetch_wire.specs.declared.request.Ask.{Ask}
use Rattle.fetch_wire.specs.declared.request.Ask.TheVariants as asks
use Rattle.fetch_wire.specs.declared.request.Request.{Request}
use Rattle.fetch_wire.specs.declared.request.Request.TheVariants as request
use Rattle.fetch_wire.specs.declared.request_units.RequestUnits.{RequestUnits}
use Rattle.fetch_wire.specs.declared.request_units.Step.{Step}
use Rattle.fetch_wire.specs.declared.request_units.Step.TheVariants as step
use Rattle.fetch_wire.proofs.OffersRead.{byte_of, front_of}

-- fewer bytes than a unit has begin it, and as many are judged
short : (n m : ℕ) (v : Says) → n < m → (if n == m then v else Begins) ≡ Begins
short n m v less = by_test (n == m) refl
  where
    by_test : (b : Bool) → (n == m) ≡ b → (if b then v else Begins) ≡ Begins
    by_test true e = let same = eqb-true n m e in absurd (omega arith)
    by_test false e = refl

full : (n m : ℕ) (v : Says) → n ≡ m → (if n == m then v else Begins) ≡ v
full n m v e = by_test (n == m) refl
  where
    by_test : (b : Bool) → (n == m) ≡ b → (if b then v else Begins) ≡ v
    by_test true is = refl
    by_test false is = absurd (eqb-false n m is e)

-- a request begins here
abbrev begins_at : ℕ → Rid → RequestUnits
begins_at place rid = units_at place place step.First rid [] []

-- ---- the haves

-- the request that is complete behind the haves, and what stands there
abbrev item_behind : Ask → Rid → List Oid → Option Request
item_behind asks.Begin rid haves = Some (request.Begin rid haves)
item_behind asks.Sigs rid haves = None
item_behind asks.Tips rid haves = None

abbrev unit_behind : Ask → ℕ → ℕ → Rid → List Oid → RequestUnits
unit_behind asks.Begin q p rid haves = begins_at p rid
unit_behind asks.Sigs q p rid haves = units_at q p (step.Count asks.Sigs) rid haves []
unit_behind asks.Tips q p rid haves = units_at q p (step.Count asks.Tips) rid haves []

behind_is : (ask : Ask) (q p : ℕ) (n : Step) (rid : Rid) (haves : List Oid) (k : ℕ)
    → behind_haves ask (units_at q p n rid haves []) k ≡ Ends (item_behind ask rid haves) (unit_behind ask q (further p k) rid haves)
behind_is asks.Begin q p n rid haves k = refl
behind_is asks.Sigs q p n rid haves k = refl
behind_is asks.Tips q p n rid haves k = refl

-- these bytes are read as the haves that end a unit's request, or are followed by nodes
record ReadsHaves (ask : Ask) (q : ℕ) (s : RequestUnits) (text : List ℕ) (rid : Rid) (haves : List Oid) : Type 0 where
  place : ℕ
  on : (rest : List ℕ) → read_from s (text ++ rest) ≡ behind (only (item_behind ask rid haves)) (read_from (unit_behind ask q place rid haves) rest)

-- a have is taken when its 20 bytes are there
oid_fronts : (ask : Ask) (q p left : ℕ) (rid : Rid) (done : List Oid) (oid : Oid) → IsOid oid → FrontsBegin judge_request (units_at q p (step.Have ask left) rid done []) oid.0
unfolding judge_request
oid_fronts ask q p left rid done oid is k some within =
    let whole = is.size in
    let size : length (take k oid.0) ≡ k = length-take-le k oid.0 (omega arith) in
    short (length (take k oid.0)) 20 (judge_oid ask left (units_at q p (step.Have ask left) rid done []) (record { 0 = slice_range (take k oid.0) 0 20 })) (omega arith)

oid_judged : (ask : Ask) (q p left : ℕ) (rid : Rid) (done : List Oid) (oid : Oid) → IsOid oid
    → judge_request (units_at q p (step.Have ask left) rid done []) oid.0 ≡ judge_oid ask left (units_at q p (step.Have ask left) rid done []) oid
unfolding judge_request
oid_judged ask q p left rid done oid is =
    full (length oid.0) 20 (judge_oid ask left (units_at q p (step.Have ask left) rid done []) (record { 0 = slice_range oid.0 0 20 })) is.size
    ∙ ap (λ (xs : List ℕ). judge_oid ask left (units_at q p (step.Have ask left) rid done []) (record { 0 = xs })) (take_all 20 oid.0 (let size = is.size in omega arith))

oid_passes : (done : List Oid) (oid : Oid) (more : List Oid) → RisesBy (λ (x : Oid). x) oid_cmp (done ++ oid ∷ more) → oid_above done oid ≡ true
oid_passes done oid more rising = passes_by (λ (x : Oid). x) oid_cmp done oid (above_front (λ (x : Oid). x) oid_cmp done oid more rising)

last_oid : (ask : Ask) (q p : ℕ) (rid : Rid) (done : List Oid) (oid : Oid) → oid_above done oid ≡ true
    → judge_oid ask 1 (units_at q p (step.Have ask 1) rid done []) oid ≡ behind_haves ask (units_at q p (step.Have ask 1) rid (done ++ oid ∷ []) []) 20
last_oid ask q p rid done oid above = rw above refl

abbrev the_says : Says → Says
the_says v = v

more_oid : (ask : Ask) (q p left : ℕ) (rid : Rid) (done : List Oid) (oid : Oid) → oid_above done oid ≡ true
    → judge_oid ask (suc (suc left)) (units_at q p (step.Have ask (suc (suc left))) rid done []) oid
    ≡ Ends None (units_at q (further p 20) (step.Have ask (suc left)) rid (done ++ oid ∷ []) [])
more_oid ask q p left rid done oid above = rw above (by_test (nat_le (suc (suc left)) 1) refl)
  where
    by_test : (b : Bool) → nat_le (suc (suc left)) 1 ≡ b
        → if◌then◌else◌ {A = Says} b (behind_haves ask (units_at q p (step.Have ask (suc (suc left))) rid (done ++ oid ∷ []) []) 20)
        (Ends None (units_at q (further p 20) (step.Have ask (suc (suc left) - 1)) rid (done ++ oid ∷ []) []))
        ≡ Ends None (units_at q (further p 20) (step.Have ask (suc left)) rid (done ++ oid ∷ []) [])
    by_test true e = let small = leb-true (suc (suc left)) 1 e in absurd (omega arith)
    by_test false e =
        let one : suc (suc left) - 1 ≡ suc left = omega arith in
        ap (λ (n : ℕ). the_says (Ends None (units_at q (further p 20) (step.Have ask n) rid (done ++ oid ∷ []) []))) one

oids_read : (ask : Ask) (q : ℕ) (more : List Oid) (p : ℕ) (rid : Rid) (done : List Oid) (oid : Oid) → AllByRecursion IsOid (oid ∷ more) → RisesBy (λ (x : Oid). x) oid_cmp (done ++ oid ∷ more)
    → ReadsHaves ask q (units_at q p (step.Have ask (length (oid ∷ more))) rid done []) (flat_map oid_text (oid ∷ more)) rid (done ++ oid ∷ more)
oids_read ask q [] p rid done oid each rising = record {
  place = further p 20;
  on = λ rest.
      let s = units_at q p (step.Have ask 1) rid done [] in
      ap (λ (xs : List ℕ). read_from s xs) (ap (λ (xs : List ℕ). xs ++ rest) (append-nil oid.0))
      ∙ unit_read goes_on judge_request s (unit_behind ask q (further p 20) rid (done ++ oid ∷ [])) (item_behind ask rid (done ++ oid ∷ [])) oid.0 rest refl
      (let size = each.0.size in omega arith) (oid_fronts ask q p 1 rid done oid each.0)
      (oid_judged ask q p 1 rid done oid each.0 ∙ (last_oid ask q p rid done oid (oid_passes done oid [] rising) ∙ behind_is ask q p (step.Have ask 1) rid (done ++ oid ∷ []) 20));
}
oids_read ask q (next ∷ more) p rid done oid each rising =
    let left : ℕ = length more in
    let s = units_at q p (step.Have ask (suc (suc left))) rid done [] in
    let t = units_at q (further p 20) (step.Have ask (suc left)) rid (done ++ oid ∷ []) [] in
    let same : (done ++ oid ∷ []) ++ (next ∷ more) ≡ done ++ (oid ∷ next ∷ more) = append_assoc done (oid ∷ []) (next ∷ more) in
    let others = oids_read ask q more (further p 20) rid (done ++ oid ∷ []) next each.1 (subst (λ (xs : List Oid). RisesBy (λ (x : Oid). x) oid_cmp xs) (sym same) rising) in
    record {
      place = others.place;
      on = λ rest.
          ap (λ (xs : List ℕ). read_from s xs) (append_assoc oid.0 (flat_map oid_text (next ∷ more)) rest)
          ∙ (unit_read goes_on judge_request s t None oid.0 (flat_map oid_text (next ∷ more) ++ rest) refl
          (let size = each.0.size in omega arith) (oid_fronts ask q p (suc (suc left)) rid done oid each.0)
          (oid_judged ask q p (suc (suc left)) rid done oid each.0 ∙ more_oid ask q p left rid done oid (oid_passes done oid (next ∷ more) rising))
          ∙ (others.on rest ∙ ap (λ (hs : List Oid). behind (only (item_behind ask rid hs)) (read_from (unit_behind ask q others.place rid hs) rest)) same));
    }

-- the repository and the number of haves are judged when their 22 bytes are there
repository_size : (rid : Rid) (count : ℕ) → IsOid rid.0 → length (rid.0.0 ++ to_be_bytes w16 count) ≡ 22
repository_size rid count is = let size = is.size in omega (arith, length-append rid.0.0 (to_be_bytes w16 count))

repository_fronts : (ask : Ask) (q p : ℕ) (old rid : Rid) (count : ℕ) → IsOid rid.0 → FrontsBegin judge_request (units_at q p (step.Repository ask) old [] []) (rid.0.0 ++ to_be_bytes w16 count)
unfolding judge_request
repository_fronts ask q p old rid count is k some within =
    let unit : List ℕ = rid.0.0 ++ to_be_bytes w16 count in
    let whole = repository_size rid count is in
    let size : length (take k unit) ≡ k = length-take-le k unit (omega arith) in
    short (length (take k unit)) 22
    (judge_haves ask (units_at q p (step.Repository ask) (record { 0 = record { 0 = slice_range (take k unit) 0 20 } }) [] []) (from_be_bytes w16 (slice_index (take k unit) 20 ∷ slice_index (take k unit) 21 ∷ [])))
    (omega arith)

repository_judged : (ask : Ask) (q p : ℕ) (old rid : Rid) (count : ℕ) → IsOid rid.0 → count ≤ 2048
    → judge_request (units_at q p (step.Repository ask) old [] []) (rid.0.0 ++ to_be_bytes w16 count) ≡ judge_haves ask (units_at q p (step.Repository ask) rid [] []) count
unfolding judge_request
repository_judged ask q p old rid count is few =
    full (length (rid.0.0 ++ to_be_bytes w16 count)) 22
    (judge_haves ask (units_at q p (step.Repository ask) (record { 0 = record { 0 = slice_range (rid.0.0 ++ to_be_bytes w16 count) 0 20 } }) [] [])
    (from_be_bytes w16 (slice_index (rid.0.0 ++ to_be_bytes w16 count) 20 ∷ slice_index (rid.0.0 ++ to_be_bytes w16 count) 21 ∷ []))) (repository_size rid count is)
    ∙ (ap (λ (xs : List ℕ). judge_haves ask (units_at q p (step.Repository ask) (record { 0 = record { 0 = xs } }) [] [])
    (from_be_bytes w16 (slice_index (rid.0.0 ++ to_be_bytes w16 count) 20 ∷ slice_index (rid.0.0 ++ to_be_bytes w16 count) 21 ∷ []))) (front_of rid.0.0 (to_be_bytes w16 count) 20 is.size)
    ∙ (ap (λ (x : ℕ). judge_haves ask (units_at q p (step.Repository ask) rid [] []) (from_be_bytes w16 (x ∷ slice_index (rid.0.0 ++ to_be_bytes w16 count) 21 ∷ []))) (byte_of rid.0.0 (to_be_bytes w16 count) 20 0 is.size)
    ∙ (ap (λ (x : ℕ). judge_haves ask (units_at q p (step.Repository ask) rid [] []) (from_be_bytes w16 (byte_at 1 count ∷ x ∷ []))) (byte_of rid.0.0 (to_be_bytes w16 count) 20 1 is.size)
    ∙ ap (λ (m : ℕ). judge_haves ask (units_at q p (step.Repository ask) rid [] []) m) (from_be_bytes-to_be_bytes_2 count (omega arith)))))

-- a count within the limit that is not 0
haves_counted : (ask : Ask) (q p : ℕ) (rid : Rid) (count : ℕ) → count ≤ 2048 → 0 < count
    → judge_haves ask (units_at q p (step.Repository ask) rid [] []) count ≡ Ends None (units_at q (further p 22) (step.Have ask count) rid [] [])
haves_counted ask q p rid count few some = by_test (nat_lt 2048 count) (count == 0) refl refl
  where
    by_test : (a b : Bool) → nat_lt 2048 count ≡ a → (count == 0) ≡ b
        → (if a then Breaks q else if b then behind_haves ask (units_at q p (step.Repository ask) rid [] []) 22 else Ends None (units_at q (further p 22) (step.Have ask count) rid [] []))
        ≡ Ends None (units_at q (further p 22) (step.Have ask count) rid [] [])
    by_test true b ea eb = let above = ltb-true 2048 count ea in absurd (omega arith)
    by_test false true ea eb = let none = eqb-true count 0 eb in absurd (omega arith)
    by_test false false ea eb = refl

haves_read : (ask : Ask) (q p : ℕ) (old rid : Rid) (haves : List Oid) → IsOid rid.0 → AreHaves haves
    → ReadsHaves ask q (units_at q p (step.Repository ask) old [] []) (rid.0.0 ++ counted_text oid_text (length haves) haves) rid haves
haves_read ask q p old rid [] is are = record {
  place = further p 22;
  on = λ rest.
      unit_read goes_on judge_request (units_at q p (step.Repository ask) old [] []) (unit_behind ask q (further p 22) rid []) (item_behind ask rid [])
      (rid.0.0 ++ to_be_bytes w16 0) rest refl (let size = repository_size rid 0 is in omega arith) (repository_fronts ask q p old rid 0 is)
      (repository_judged ask q p old rid 0 is (omega arith) ∙ behind_is ask q p (step.Repository ask) rid [] 22);
}
haves_read ask q p old rid (oid ∷ more) is are =
    let s = units_at q p (step.Repository ask) old [] [] in
    let n : ℕ = length (oid ∷ more) in
    let oids : List ℕ = flat_map oid_text (oid ∷ more) in
    let some : 0 < n = omega arith in
    let few : n ≤ 2048 = are.few in
    let others = oids_read ask q more (further p 22) rid [] oid are.each are.rising in
    record {
      place = others.place;
      on = λ rest.
          ap (λ (xs : List ℕ). read_from s xs)
          (append_assoc rid.0.0 (to_be_bytes w16 n ++ oids) rest ∙ sym (append_assoc rid.0.0 (to_be_bytes w16 n) (oids ++ rest)))
          ∙ (unit_read goes_on judge_request s (units_at q (further p 22) (step.Have ask n) rid [] []) None (rid.0.0 ++ to_be_bytes w16 n) (oids ++ rest) refl
          (let size = repository_size rid n is in omega arith)
          (repository_fronts ask q p old rid n is) (repository_judged ask q p old rid n is few ∙ haves_counted ask q p rid n few some)
          ∙ others.on rest);
    }

-- ---- the nodes

abbrev request_with : Ask → Rid → List Oid → List Nid → Request
request_with asks.Begin rid haves nodes = request.Begin rid haves
request_with asks.Sigs rid haves nodes = request.Sigs rid haves nodes
request_with asks.Tips rid haves nodes = request.Tips rid haves nodes

with_is : (ask : Ask) (q p : ℕ) (n : Step) (rid : Rid) (haves : List Oid) (nodes : List Nid) (k : ℕ)
    → completes ask (units_at q p n rid haves nodes) k ≡ Ends (Some (request_with ask rid haves nodes)) (begins_at (further p k) rid)
with_is asks.Begin q p n rid haves nodes k = refl
with_is asks.Sigs q p n rid haves nodes k = refl
with_is asks.Tips q p n rid haves nodes k = refl

-- these bytes are read as the end of a request
record ReadsRequest (s : RequestUnits) (text : List ℕ) (r : Request) : Type 0 where
  place : ℕ
  rid : Rid
  on : (rest : List ℕ) → read_from s (text ++ rest) ≡ behind (r ∷ []) (read_from (begins_at place rid) rest)

nid_fronts : (ask : Ask) (q p left : ℕ) (rid : Rid) (haves : List Oid) (done : List Nid) (nid : Nid) → IsNid nid → FrontsBegin judge_request (units_at q p (step.Node ask left) rid haves done) nid.0
unfolding judge_request
nid_fronts ask q p left rid haves done nid is k some within =
    let whole = is.size in
    let size : length (take k nid.0) ≡ k = length-take-le k nid.0 (omega arith) in
    short (length (take k nid.0)) 32 (judge_nid ask left (units_at q p (step.Node ask left) rid haves done) (record { 0 = slice_range (take k nid.0) 0 32 })) (omega arith)

nid_judged : (ask : Ask) (q p left : ℕ) (rid : Rid) (haves : List Oid) (done : List Nid) (nid : Nid) → IsNid nid
    → judge_request (units_at q p (step.Node ask left) rid haves done) nid.0 ≡ judge_nid ask left (units_at q p (step.Node ask left) rid haves done) nid
unfolding judge_request
nid_judged ask q p left rid haves done nid is =
    full (length nid.0) 32 (judge_nid ask left (units_at q p (step.Node ask left) rid haves done) (record { 0 = slice_range nid.0 0 32 })) is.size
    ∙ ap (λ (xs : List ℕ). judge_nid ask left (units_at q p (step.Node ask left) rid haves done) (record { 0 = xs })) (take_all 32 nid.0 (let size = is.size in omega arith))

nid_passes : (done : List Nid) (nid : Nid) (more : List Nid) → RisesBy (λ (x : Nid). x) nid_cmp (done ++ nid ∷ more) → nid_above done nid ≡ true
nid_passes done nid more rising = passes_by (λ (x : Nid). x) nid_cmp done nid (above_front (λ (x : Nid). x) nid_cmp done nid more rising)

last_nid : (ask : Ask) (q p : ℕ) (rid : Rid) (haves : List Oid) (done : List Nid) (nid : Nid) → nid_above done nid ≡ true
    → judge_nid ask 1 (units_at q p (step.Node ask 1) rid haves done) nid ≡ completes ask (units_at q p (step.Node ask 1) rid haves (done ++ nid ∷ [])) 32
last_nid ask q p rid haves done nid above = rw above refl

more_nid : (ask : Ask) (q p left : ℕ) (rid : Rid) (haves : List Oid) (done : List Nid) (nid : Nid) → nid_above done nid ≡ true
    → judge_nid ask (suc (suc left)) (units_at q p (step.Node ask (suc (suc left))) rid haves done) nid
    ≡ Ends None (units_at q (further p 32) (step.Node ask (suc left)) rid haves (done ++ nid ∷ []))
more_nid ask q p left rid haves done nid above = rw above (by_test (nat_le (suc (suc left)) 1) refl)
  where
    by_test : (b : Bool) → nat_le (suc (suc left)) 1 ≡ b
        → if◌then◌else◌ {A = Says} b (completes ask (units_at q p (step.Node ask (suc (suc left))) rid haves (done ++ nid ∷ [])) 32)
        (Ends None (units_at q (further p 32) (step.Node ask (suc (suc left) - 1)) rid haves (done ++ nid ∷ [])))
        ≡ Ends None (units_at q (further p 32) (step.Node ask (suc left)) rid haves (done ++ nid ∷ []))
    by_test true e = let small = leb-true (suc (suc left)) 1 e in absurd (omega arith)
    by_test false e =
        let one : suc (suc left) - 1 ≡ suc left = omega arith in
        ap (λ (n : ℕ). the_says (Ends None (units_at q (further p 32) (step.Node ask n) rid haves (done ++ nid ∷ [])))) one

nids_read : (ask : Ask) (q : ℕ) (more : List Nid) (p : ℕ) (rid : Rid) (haves : List Oid) (done : List Nid) (nid : Nid) → AllByRecursion IsNid (nid ∷ more) → RisesBy (λ (x : Nid). x) nid_cmp (done ++ nid ∷ more)
    → ReadsRequest (units_at q p (step.Node ask (length (nid ∷ more))) rid haves done) (flat_map nid_text (nid ∷ more)) (request_with ask rid haves (done ++ nid ∷ more))
nids_read ask q [] p rid haves done nid each rising = record {
  place = further p 32;
  rid = rid;
  on = λ rest.
      let s = units_at q p (step.Node ask 1) rid haves done in
      ap (λ (xs : List ℕ). read_from s xs) (ap (λ (xs : List ℕ). xs ++ rest) (append-nil nid.0))
      ∙ unit_read goes_on judge_request s (begins_at (further p 32) rid) (Some (request_with ask rid haves (done ++ nid ∷ []))) nid.0 rest refl
      (let size = each.0.size in omega arith) (nid_fronts ask q p 1 rid haves done nid each.0)
      (nid_judged ask q p 1 rid haves done nid each.0 ∙ (last_nid ask q p rid haves done nid (nid_passes done nid [] rising) ∙ with_is ask q p (step.Node ask 1) rid haves (done ++ nid ∷ []) 32));
}
nids_read ask q (next ∷ more) p rid haves done nid each rising =
    let left : ℕ = length more in
    let s = units_at q p (step.Node ask (suc (suc left))) rid haves done in
    let t = units_at q (further p 32) (step.Node ask (suc left)) rid haves (done ++ nid ∷ []) in
    let same : (done ++ nid ∷ []) ++ (next ∷ more) ≡ done ++ (nid ∷ next ∷ more) = append_assoc done (nid ∷ []) (next ∷ more) in
    let others = nids_read ask q more (further p 32) rid haves (done ++ nid ∷ []) next each.1 (subst (λ (xs : List Nid). RisesBy (λ (x : Nid). x) nid_cmp xs) (sym same) rising) in
    record {
      place = others.place;
      rid = others.rid;
      on = λ rest.
          ap (λ (xs : List ℕ). read_from s xs) (append_assoc nid.0 (flat_map nid_text (next ∷ more)) rest)
          ∙ (unit_read goes_on judge_request s t None nid.0 (flat_map nid_text (next ∷ more) ++ rest) refl
          (let size = each.0.size in omega arith) (nid_fronts ask q p (suc (suc left)) rid haves done nid each.0)
          (nid_judged ask q p (suc (suc left)) rid haves done nid each.0 ∙ more_nid ask q p left rid haves done nid (nid_passes done nid (next ∷ more) rising))
          ∙ (others.on rest ∙ ap (λ (ns : List Nid). behind (request_with ask rid haves ns ∷ []) (read_from (begins_at others.place others.rid) rest)) same));
    }

-- the number of nodes is judged when its two bytes are there
count_fronts : (ask : Ask) (q p : ℕ) (rid : Rid) (haves : List Oid) (count : ℕ) → FrontsBegin judge_request (units_at q p (step.Count ask) rid haves []) (to_be_bytes w16 count)
unfolding judge_request
count_fronts ask q p rid haves count zero some within = absurd (omega arith)
count_fronts ask q p rid haves count (suc zero) some within = refl
count_fronts ask q p rid haves count (suc (suc k)) some within = absurd (omega arith)

count_judged : (ask : Ask) (q p : ℕ) (rid : Rid) (haves : List Oid) (count : ℕ) → count ≤ 1024
    → judge_request (units_at q p (step.Count ask) rid haves []) (to_be_bytes w16 count) ≡ judge_nodes ask (units_at q p (step.Count ask) rid haves []) count
unfolding judge_request
count_judged ask q p rid haves count few =
    ap (λ (m : ℕ). judge_nodes ask (units_at q p (step.Count ask) rid haves []) m) (from_be_bytes-to_be_bytes_2 count (omega arith))

nodes_counted : (ask : Ask) (q p : ℕ) (rid : Rid) (haves : List Oid) (count : ℕ) → count ≤ 1024 → 0 < count
    → judge_nodes ask (units_at q p (step.Count ask) rid haves []) count ≡ Ends None (units_at q (further p 2) (step.Node ask count) rid haves [])
nodes_counted ask q p rid haves count few some = by_test (nat_lt 1024 count) (count == 0) refl refl
  where
    by_test : (a b : Bool) → nat_lt 1024 count ≡ a → (count == 0) ≡ b
        → (if a then Breaks q else if b then completes ask (units_at q p (step.Count ask) rid haves []) 2 else Ends None (units_at q (further p 2) (step.Node ask count) rid haves []))
        ≡ Ends None (units_at q (further p 2) (step.Node ask count) rid haves [])
    by_test true b ea eb = let above = ltb-true 1024 count ea in absurd (omega arith)
    by_test false true ea eb = let none = eqb-true count 0 eb in absurd (omega arith)
    by_test false false ea eb = refl

nodes_read : (ask : Ask) (q p : ℕ) (rid : Rid) (haves : List Oid) (nodes : List Nid) → AreNodes nodes
    → ReadsRequest (units_at q p (step.Count ask) rid haves []) (counted_text nid_text (length nodes) nodes) (request_with ask rid haves nodes)
nodes_read ask q p rid haves [] are = record {
  place = further p 2;
  rid = rid;
  on = λ rest.
      unit_read goes_on judge_request (units_at q p (step.Count ask) rid haves []) (begins_at (further p 2) rid) (Some (request_with ask rid haves []))
      (to_be_bytes w16 0) rest refl (omega arith) (count_fronts ask q p rid haves 0)
      (count_judged ask q p rid haves 0 (omega arith) ∙ with_is ask q p (step.Count ask) rid haves [] 2);
}
nodes_read ask q p rid haves (nid ∷ more) are =
    let s = units_at q p (step.Count ask) rid haves [] in
    let n : ℕ = length (nid ∷ more) in
    let nids : List ℕ = flat_map nid_text (nid ∷ more) in
    let some : 0 < n = omega arith in
    let few : n ≤ 1024 = are.few in
    let others = nids_read ask q more (further p 2) rid haves [] nid are.each are.rising in
    record {
      place = others.place;
      rid = others.rid;
      on = λ rest.
          ap (λ (xs : List ℕ). read_from s xs) (append_assoc (to_be_bytes w16 n) nids rest)
          ∙ (unit_read goes_on judge_request s (units_at q (further p 2) (step.Node ask n) rid haves []) None (to_be_bytes w16 n) (nids ++ rest) refl (omega arith)
          (count_fronts ask q p rid haves n) (count_judged ask q p rid haves n few ∙ nodes_counted ask q p rid haves n few some)
          ∙ others.on rest);
    }

-- ---- a whole request

first_read : (ask : Ask) (p : ℕ) (old : Rid) (rest : List ℕ) → read_from (begins_at p old) (ask_byte ask ∷ rest) ≡ read_from (units_at p (further p 1) (step.Repository ask) old [] []) rest
unfolding judge_request
first_read asks.Begin p old rest = refl
first_read asks.Sigs p old rest = refl
first_read asks.Tips p old rest = refl

done_read : (p : ℕ) (old : Rid) (rest : List ℕ) → read_from (begins_at p old) (4 ∷ rest) ≡ behind (request.Done ∷ []) (read_from (begins_at (further p 1) old) rest)
unfolding judge_request
done_read p old rest = refl

sigs_read : (p : ℕ) (old rid : Rid) (haves : List Oid) (nodes : List Nid) → IsOid rid.0 → AreHaves haves → AreNodes nodes
    → ReadsRequest (begins_at p old) (nodes_text asks.Sigs rid haves nodes) (request.Sigs rid haves nodes)
sigs_read p old rid haves nodes is are all =
    let front = haves_read asks.Sigs p (further p 1) old rid haves is are in
    let back = nodes_read asks.Sigs p front.place rid haves nodes all in
    let list : List ℕ = counted_text nid_text (length nodes) nodes in
    record {
      place = back.place;
      rid = back.rid;
      on = λ rest.
          ap (λ (xs : List ℕ). read_from (begins_at p old) xs) (append_assoc (haves_text asks.Sigs rid haves) list rest)
          ∙ (first_read asks.Sigs p old ((rid.0.0 ++ counted_text oid_text (length haves) haves) ++ (list ++ rest))
          ∙ (front.on (list ++ rest) ∙ back.on rest));
    }

tips_read : (p : ℕ) (old rid : Rid) (haves : List Oid) (nodes : List Nid) → IsOid rid.0 → AreHaves haves → AreNodes nodes
    → ReadsRequest (begins_at p old) (nodes_text asks.Tips rid haves nodes) (request.Tips rid haves nodes)
tips_read p old rid haves nodes is are all =
    let front = haves_read asks.Tips p (further p 1) old rid haves is are in
    let back = nodes_read asks.Tips p front.place rid haves nodes all in
    let list : List ℕ = counted_text nid_text (length nodes) nodes in
    record {
      place = back.place;
      rid = back.rid;
      on = λ rest.
          ap (λ (xs : List ℕ). read_from (begins_at p old) xs) (append_assoc (haves_text asks.Tips rid haves) list rest)
          ∙ (first_read asks.Tips p old ((rid.0.0 ++ counted_text oid_text (length haves) haves) ++ (list ++ rest))
          ∙ (front.on (list ++ rest) ∙ back.on rest));
    }

request_read : (r : Request) (p : ℕ) (old : Rid) → IsRequest r → ReadsRequest (begins_at p old) (request_text r) r
request_read request.Done p old is = record { place = further p 1; rid = old; on = λ rest. done_read p old rest }
request_read (request.Begin rid haves) p old is =
    let front = haves_read asks.Begin p (further p 1) old rid haves is.0 is.1 in
    record {
      place = front.place;
      rid = rid;
      on = λ rest. first_read asks.Begin p old ((rid.0.0 ++ counted_text oid_text (length haves) haves) ++ rest) ∙ front.on rest;
    }
request_read (request.Sigs rid haves nodes) p old is = sigs_read p old rid haves nodes is.0 is.1 is.2
request_read (request.Tips rid haves nodes) p old is = tips_read p old rid haves nodes is.0 is.1 is.2

-- ---- requests

record ReadsAll (s : RequestUnits) (text : List ℕ) (requests : List Request) : Type 0 where
  place : ℕ
  rid : Rid
  on : (rest : List ℕ) → read_from s (text ++ rest) ≡ behind requests (read_from (begins_at place rid) rest)

all_read : (requests : List Request) (p : ℕ) (old : Rid) → AllByRecursion IsRequest requests → ReadsAll (begins_at p old) (flat_map request_text requests) requests
all_read [] p old each = record { place = p; rid = old; on = λ rest. refl }
all_read (r ∷ requests) p old each =
    let one = request_read r p old each.0 in
    let others = all_read requests one.place one.rid each.1 in
    record {
      place = others.place;
      rid = others.rid;
      on = λ rest.
          ap (λ (xs : List ℕ). read_from (begins_at p old) xs) (append_assoc (request_text r) (flat_map request_text requests) rest)
          ∙ (one.on (flat_map request_text requests ++ rest) ∙ ap (λ (x : RequestsRead). behind (r ∷ []) x) (others.on rest));
    }

pub requests_read : (bytes : List ℕ) (requests : List Request) (rest : List ℕ) → Requests bytes requests rest → ReadsRequests bytes requests rest
requests_read bytes requests rest is =
    let all = all_read requests 0 first_request.rid is.each in
    (begins_at all.place all.rid, (refl, refl, refl), ap (λ (xs : List ℕ). requests_of xs) is.text ∙ all.on rest)

-- one request stands in front
pub one_request : (a b : Request) (rest other : List ℕ) → IsRequest a → IsRequest b → request_text a ++ rest ≡ request_text b ++ other → (a ≡ b) × (rest ≡ other)
one_request a b rest other is_a is_b e =
    let x = request_read a 0 first_request.rid is_a in
    let y = request_read b 0 first_request.rid is_b in
    let same : behind (a ∷ []) (read_from (begins_at x.place x.rid) rest) ≡ behind (b ∷ []) (read_from (begins_at y.place y.rid) other) =
    sym (x.on rest) ∙ (ap (λ (xs : List ℕ). requests_of xs) e ∙ y.on other) in
    let items = ap (λ (r : RequestsRead). r.items) same in
    let here : a ≡ b = cc items in
    (here, (one_front (request_text a) (request_text b) rest other (ap (λ (r : Request). length (request_text r)) here) e).1)

-- a broken request stays, whatever follows
breaks_on : (r : RequestsRead) (more : List ℕ) (place : ℕ) → r.place ≡ Broken place
    → (then_on r (λ t keeps rest. reading goes_on judge_request t keeps (rest ++ more))).place ≡ Broken place
breaks_on r more place e = by_place r.items r.place e
  where
    by_place : (items : List Request) (p : Place RequestUnits ℕ) → p ≡ Broken place
        → (then_on (record { items = items; place = p }) (λ t keeps rest. reading goes_on judge_request t keeps (rest ++ more))).place ≡ Broken place
    by_place items (At t held rest) is = cc is
    by_place items (Broken other) is = is

pub broken_begins_none : (bytes more : List ℕ) (place : ℕ) (requests : List Request) → (requests_of bytes).place ≡ Broken place → Requests (bytes ++ more) requests [] → ⊥
broken_begins_none bytes more place requests broken is =
    let reads = requests_read (bytes ++ more) requests [] is in
    let stays = breaks_on (requests_of bytes) more place broken in
    let whole = in_pieces goes_on judge_request first_request [] bytes more in
    let ends : (requests_of (bytes ++ more)).place ≡ At reads.0 [] [] = ap (λ (r : RequestsRead). r.place) reads.2 in
    let breaks : (requests_of (bytes ++ more)).place ≡ Broken place = ap (λ (r : RequestsRead). r.place) whole ∙ stays in
    let both : At reads.0 [] [] ≡ Broken place = sym ends ∙ breaks in
    cc both
