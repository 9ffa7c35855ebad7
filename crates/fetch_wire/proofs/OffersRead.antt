-- The head of an identity section that is spelled is read.
use Rattle.std.proofs.Common.{◌≡◌, ℕ, zero, suc, ◌+◌, ◌-◌, ◌<◌, ◌≤◌, ◌==◌, nat_le, nat_lt, Bool, true, false, if◌then◌else◌, List, [], ◌∷◌, ◌++◌, length, slice_get, slice_index, take, drop, get_or, refl, sym, ap, subst, ◌∙◌, arith, append_assoc, append-nil, length-append}
use Rattle.std.specs.Prelude.{Option, None, Some, slice_range}
use Rattle.std.specs.declared.cmp.Ordering.{Ordering}
use Rattle.std.specs.declared.cmp.Ordering.TheVariants.{Less}
use Rattle.std.specs.Ordering.{is_lt}
use Rattle.std.specs.List.{AllByRecursion, flat_map}
use Rattle.std.specs.Int.{byte_at, from_be_bytes, to_be_bytes, w16}
use Rattle.std.proofs.lemmas.Bool.{eqb-false, eqb-true, leb-true, ltb-true}
use Rattle.std.proofs.lemmas.List.{get_or-append-add, length-take-le, take_all}
use Rattle.std.proofs.Math.Seq.{drop-append_seam, take-append_seam}
use Rattle.std.proofs.lemmas.Nat.{from_be_bytes-to_be_bytes_2}
use Rattle.rad_base.specs.Order.{IsRising, is_above, nid_cmp, passes_if_some}
use Rattle.rad_base.specs.Sizes.{IsNid, IsOid}
use Rattle.rad_base.specs.declared.names.Nid.{Nid}
use Rattle.rad_base.specs.declared.names.Oid.{Oid}
use Rattle.rad_base.specs.declared.offer.Offer.{Offer}
use Rattle.unit_reader.specs.Units.{Verdict, Begins, Ends, Breaks, FrontsBegin, Reading, behind, only, reading}
use Rattle.unit_reader.proofs.Readings.{unit_read}
use Rattle.fetch_wire.specs.Judging.{Said, break_at, further, is_over, judge, judge_count, judge_pair, offer_of, onto, with_id, with_remotes}
use Rattle.fetch_wire.specs.Sections.{IsOffer, offer_text}
use Rattle.rad_base.specs.RemoteTexts.{IsPair, pair_text}
use Rattle.fetch_wire.specs.declared.fault.Break.{Break}
use Rattle.fetch_wire.specs.declared.part.Part.{Part}
use Rattle.fetch_wire.specs.declared.part.Part.TheVariants as part
use Rattle.fetch_wire.specs.declared.part.Which.TheVariants as which
use Rattle.fetch_wire.specs.declared.units.Next.{Next}
use Rattle.fetch_wire.specs.declared.units.Next.TheVariants as next
use Rattle.fetch_wire.specs.declared.units.SectionUnits.{SectionUnits}
use Rattle.fetch_wire.proofs.SectionsRead.{ReadsOn, begins_short, judged_full, unit_at}

-- a key behind rising ones is above the last of them
above_of : (done : List (Nid × Oid)) (pair : Nid × Oid) (more : List (Nid × Oid)) → IsRising (done ++ pair ∷ more) → is_above done pair.0 ≡ true
above_of [] pair more rising = refl
above_of (a ∷ []) pair more rising = ap is_lt rising.0
above_of (a ∷ b ∷ rest) pair more rising =
    let last : length (a ∷ b ∷ rest) - 1 ≡ suc (length (b ∷ rest) - 1) = omega arith in
    subst (λ (k : ℕ). passes_if_some (λ (r : Nid × Oid). is_lt (nid_cmp r.0 pair.0)) (slice_get (a ∷ b ∷ rest) k) ≡ true) (sym last) (above_of (b ∷ rest) pair more rising.1)

-- the two parts of bytes of a known length
pub front_of : (a b : List ℕ) (n : ℕ) → length a ≡ n → take n (a ++ b) ≡ a
front_of a b n size = subst (λ (k : ℕ). take k (a ++ b) ≡ a) size (take-append_seam a b)

rest_of : (a b : List ℕ) (n : ℕ) → length a ≡ n → drop n (a ++ b) ≡ b
rest_of a b n size = subst (λ (k : ℕ). drop k (a ++ b) ≡ b) size (drop-append_seam a b)

pub byte_of : (a b : List ℕ) (n i : ℕ) → length a ≡ n → get_or (a ++ b) (n + i) 0 ≡ get_or b i 0
byte_of a b n i size = subst (λ (k : ℕ). get_or (a ++ b) (k + i) 0 ≡ get_or b i 0) size (get_or-append-add a b i 0)

-- the first unit of the head
abbrev first_text : Oid → ℕ → List ℕ
first_text id count = 73 ∷ (id.0 ++ to_be_bytes w16 count)

first_size : (id : Oid) (count : ℕ) → IsOid id → length (first_text id count) ≡ 23
first_size id count is = let size = is.size in omega (arith, length-append id.0 (to_be_bytes w16 count))

first_fronts : (p : ℕ) (old id : Oid) (count : ℕ) → IsOid id → FrontsBegin judge (unit_at p (next.Head which.Identity) old []) (first_text id count)
unfolding judge
first_fronts p old id count is zero some within = absurd (omega arith)
first_fronts p old id count is (suc k) some within =
    let whole = first_size id count is in
    let size : length (take (suc k) (first_text id count)) ≡ suc k = length-take-le (suc k) (first_text id count) (omega arith) in
    begins_short (length (take (suc k) (first_text id count))) 23
    (judge_count (unit_at p (next.Head which.Identity) old []) (record { 0 = slice_range (take (suc k) (first_text id count)) 1 21 })
    (from_be_bytes w16 (slice_index (take (suc k) (first_text id count)) 21 ∷ slice_index (take (suc k) (first_text id count)) 22 ∷ [])))
    (omega arith)

first_judged : (p : ℕ) (old id : Oid) (count : ℕ) → IsOid id → count ≤ 1024
    → judge (unit_at p (next.Head which.Identity) old []) (first_text id count) ≡ judge_count (unit_at p (next.Head which.Identity) old []) id count
unfolding judge
first_judged p old id count is few =
    judged_full (length (first_text id count)) 23
    (judge_count (unit_at p (next.Head which.Identity) old []) (record { 0 = slice_range (first_text id count) 1 21 })
    (from_be_bytes w16 (slice_index (first_text id count) 21 ∷ slice_index (first_text id count) 22 ∷ []))) (first_size id count is)
    ∙ (ap (λ (xs : List ℕ). judge_count (unit_at p (next.Head which.Identity) old []) (record { 0 = xs })
    (from_be_bytes w16 (slice_index (first_text id count) 21 ∷ slice_index (first_text id count) 22 ∷ []))) (front_of id.0 (to_be_bytes w16 count) 20 is.size)
    ∙ (ap (λ (x : ℕ). judge_count (unit_at p (next.Head which.Identity) old []) id (from_be_bytes w16 (x ∷ slice_index (first_text id count) 22 ∷ []))) (byte_of id.0 (to_be_bytes w16 count) 20 0 is.size)
    ∙ (ap (λ (x : ℕ). judge_count (unit_at p (next.Head which.Identity) old []) id (from_be_bytes w16 (byte_at 1 count ∷ x ∷ []))) (byte_of id.0 (to_be_bytes w16 count) 20 1 is.size)
    ∙ ap (λ (m : ℕ). judge_count (unit_at p (next.Head which.Identity) old []) id m) (from_be_bytes-to_be_bytes_2 count (omega arith)))))

-- a count within the limit, by whether it is 0
count_judged : (s : SectionUnits) (id : Oid) (count : ℕ) → count ≤ 1024 → 0 < count → judge_count s id count ≡ Ends None (unit_at (further s.place 23) (next.Remote count) id s.remotes)
count_judged s id count few some = by_test (nat_lt 1024 count) (count == 0) refl refl
  where
    by_test : (a b : Bool) → nat_lt 1024 count ≡ a → (count == 0) ≡ b
        → (if a then Breaks (break_at s 23) else if b then Ends (Some (offer_of (with_id s id) [])) (onto (with_id s id) 23 next.Part) else Ends None (onto (with_id s id) 23 (next.Remote count)))
        ≡ Ends None (unit_at (further s.place 23) (next.Remote count) id s.remotes)
    by_test true b ea eb = let above = ltb-true 1024 count ea in absurd (omega arith)
    by_test false true ea eb = let none = eqb-true count 0 eb in absurd (omega arith)
    by_test false false ea eb = refl

-- a remote is taken when its 52 bytes are there
pair_size : (pair : Nid × Oid) → IsPair pair → length (pair_text pair) ≡ 52
pair_size pair is = let a = is.0.size in let b = is.1.size in omega (arith, length-append pair.0.0 pair.1.0)

pair_fronts : (p left : ℕ) (id : Oid) (done : List (Nid × Oid)) (pair : Nid × Oid) → IsPair pair → FrontsBegin judge (unit_at p (next.Remote left) id done) (pair_text pair)
unfolding judge
pair_fronts p left id done pair is k some within =
    let whole = pair_size pair is in
    let size : length (take k (pair_text pair)) ≡ k = length-take-le k (pair_text pair) (omega arith) in
    begins_short (length (take k (pair_text pair))) 52
    (judge_pair (unit_at p (next.Remote left) id done) left (record { 0 = slice_range (take k (pair_text pair)) 0 32 }) (record { 0 = slice_range (take k (pair_text pair)) 32 52 }))
    (omega arith)

pair_judged : (p left : ℕ) (id : Oid) (done : List (Nid × Oid)) (pair : Nid × Oid) → IsPair pair
    → judge (unit_at p (next.Remote left) id done) (pair_text pair) ≡ judge_pair (unit_at p (next.Remote left) id done) left pair.0 pair.1
unfolding judge
pair_judged p left id done pair is =
    judged_full (length (pair_text pair)) 52
    (judge_pair (unit_at p (next.Remote left) id done) left (record { 0 = slice_range (pair_text pair) 0 32 }) (record { 0 = slice_range (pair_text pair) 32 52 })) (pair_size pair is)
    ∙ (ap (λ (xs : List ℕ). judge_pair (unit_at p (next.Remote left) id done) left (record { 0 = xs }) (record { 0 = slice_range (pair_text pair) 32 52 })) (front_of pair.0.0 pair.1.0 32 is.0.size)
    ∙ ap (λ (xs : List ℕ). judge_pair (unit_at p (next.Remote left) id done) left pair.0 (record { 0 = xs }))
    (ap (λ (xs : List ℕ). take 20 xs) (rest_of pair.0.0 pair.1.0 32 is.0.size) ∙ take_all 20 pair.1.0 (let size = is.1.size in omega arith)))

last_judged : (s : SectionUnits) (pair : Nid × Oid) → is_above s.remotes pair.0 ≡ true
    → judge_pair s 1 pair.0 pair.1 ≡ Ends (Some (offer_of s (s.remotes ++ pair ∷ []))) (unit_at (further s.place 52) next.Part s.id [])
last_judged s pair above = rw above refl

abbrev the_said : Said → Said
the_said v = v

more_judged : (s : SectionUnits) (left : ℕ) (pair : Nid × Oid) → is_above s.remotes pair.0 ≡ true
    → judge_pair s (suc (suc left)) pair.0 pair.1 ≡ Ends None (unit_at (further s.place 52) (next.Remote (suc left)) s.id (s.remotes ++ pair ∷ []))
more_judged s left pair above = rw above (by_test (nat_le (suc (suc left)) 1) refl)
  where
    by_test : (b : Bool) → nat_le (suc (suc left)) 1 ≡ b
        → if◌then◌else◌ {A = Said} b (Ends (Some (offer_of s (s.remotes ++ pair ∷ []))) (onto (with_remotes s []) 52 next.Part))
        (Ends None (onto (with_remotes s (s.remotes ++ pair ∷ [])) 52 (next.Remote (suc (suc left) - 1))))
        ≡ Ends None (unit_at (further s.place 52) (next.Remote (suc left)) s.id (s.remotes ++ pair ∷ []))
    by_test true e = let small = leb-true (suc (suc left)) 1 e in absurd (omega arith)
    by_test false e =
        let one : suc (suc left) - 1 ≡ suc left = omega arith in
        ap (λ (n : ℕ). the_said (Ends None (unit_at (further s.place 52) (next.Remote n) s.id (s.remotes ++ pair ∷ [])))) one

-- the bytes of the remotes that are left are read as the offer
pub record ReadsOffer (s : SectionUnits) (text : List ℕ) (remotes : List (Nid × Oid)) : Type 0 where
  pub place : ℕ
  pub on : (rest : List ℕ) → reading is_over judge s [] (text ++ rest) ≡ behind (offer_of s remotes ∷ []) (reading is_over judge (unit_at place next.Part s.id []) [] rest)

remotes_read : (more : List (Nid × Oid)) (p : ℕ) (id : Oid) (done : List (Nid × Oid)) (pair : Nid × Oid)
    → AllByRecursion IsPair (pair ∷ more) → IsRising (done ++ pair ∷ more)
    → ReadsOffer (unit_at p (next.Remote (length (pair ∷ more))) id done) (flat_map pair_text (pair ∷ more)) (done ++ pair ∷ more)
remotes_read [] p id done pair each rising = record {
  place = further p 52;
  on = λ rest.
      let s = unit_at p (next.Remote 1) id done in
      ap (λ (xs : List ℕ). reading is_over judge s [] xs) (ap (λ (xs : List ℕ). xs ++ rest) (append-nil (pair_text pair)))
      ∙ unit_read is_over judge s (unit_at (further p 52) next.Part id []) (Some (offer_of s (done ++ pair ∷ []))) (pair_text pair) rest refl
      (let size = pair_size pair each.0 in omega arith) (pair_fronts p 1 id done pair each.0)
      (pair_judged p 1 id done pair each.0 ∙ last_judged s pair (above_of done pair [] rising));
}
remotes_read (q ∷ more) p id done pair each rising =
    let left : ℕ = length more in
    let s = unit_at p (next.Remote (suc (suc left))) id done in
    let t = unit_at (further p 52) (next.Remote (suc left)) id (done ++ pair ∷ []) in
    let same : (done ++ pair ∷ []) ++ (q ∷ more) ≡ done ++ (pair ∷ q ∷ more) = append_assoc done (pair ∷ []) (q ∷ more) in
    let others = remotes_read more (further p 52) id (done ++ pair ∷ []) q each.1 (subst IsRising (sym same) rising) in
    record {
      place = others.place;
      on = λ rest.
          ap (λ (xs : List ℕ). reading is_over judge s [] xs) (append_assoc (pair_text pair) (flat_map pair_text (q ∷ more)) rest)
          ∙ (unit_read is_over judge s t None (pair_text pair) (flat_map pair_text (q ∷ more) ++ rest) refl
          (let size = pair_size pair each.0 in omega arith) (pair_fronts p (suc (suc left)) id done pair each.0)
          (pair_judged p (suc (suc left)) id done pair each.0 ∙ more_judged s left pair (above_of done pair (q ∷ more) rising))
          ∙ (others.on rest ∙ ap (λ (rs : List (Nid × Oid)). behind (part.Offer (record { id = id; remotes = rs }) ∷ []) (reading is_over judge (unit_at others.place next.Part id []) [] rest)) same));
    }

offer_with : (p : ℕ) (old id : Oid) (remotes : List (Nid × Oid)) → IsOid id → length remotes ≤ 1024 → AllByRecursion IsPair remotes → IsRising remotes
    → ReadsOn (unit_at p (next.Head which.Identity) old []) (offer_text (record { id = id; remotes = remotes })) (part.Offer (record { id = id; remotes = remotes })) next.Part
offer_with p old id [] is few each rising = record {
  place = further p 23;
  id = id;
  on = λ rest.
      unit_read is_over judge (unit_at p (next.Head which.Identity) old []) (unit_at (further p 23) next.Part id []) (Some (part.Offer (record { id = id; remotes = [] })))
      (first_text id 0) rest refl (omega arith) (first_fronts p old id 0 is) (first_judged p old id 0 is few);
}
offer_with p old id (pair ∷ more) is few each rising =
    let s = unit_at p (next.Head which.Identity) old [] in
    let n : ℕ = length (pair ∷ more) in
    let pairs : List ℕ = flat_map pair_text (pair ∷ more) in
    let some : 0 < n = omega arith in
    let others = remotes_read more (further p 23) id [] pair each rising in
    record {
      place = others.place;
      id = id;
      on = λ rest.
          ap (λ (xs : List ℕ). reading is_over judge s [] (73 ∷ xs))
          (append_assoc id.0 (to_be_bytes w16 n ++ pairs) rest ∙ sym (append_assoc id.0 (to_be_bytes w16 n) (pairs ++ rest)))
          ∙ (unit_read is_over judge s (unit_at (further p 23) (next.Remote n) id []) None (first_text id n) (pairs ++ rest) refl (omega arith)
          (first_fronts p old id n is) (first_judged p old id n is few ∙ count_judged s id n few some)
          ∙ others.on rest);
    }

-- the head is read
pub offer_read : (p : ℕ) (old : Oid) (offer : Offer) → IsOffer offer → ReadsOn (unit_at p (next.Head which.Identity) old []) (offer_text offer) (part.Offer offer) next.Part
offer_read p old offer is = offer_with p old offer.id offer.remotes is.id is.few is.each is.rising
