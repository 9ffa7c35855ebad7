-- What is read of requests is what their bytes spell.
use Rattle.std.proofs.Common.{◌≡◌, ℕ, ◌+◌, ◌-◌, ◌^◌, ◌≤◌, List, [], ◌∷◌, ◌++◌, length, refl, sym, ap, subst, ◌∙◌, arith, append_assoc, append-nil, length-append}
use Rattle.std.specs.Prelude.{Option, None, Some}
use Rattle.std.specs.List.{AllByRecursion, flat_map}
use Rattle.hex.specs.Hex.{IsBytes}
use Rattle.unit_reader.specs.Spelling.{BringsOn, SpellsPlace}
use Rattle.unit_reader.specs.Units.{Begins, Ends, Breaks, AllBegin, Place, At, Broken, next, only, reading}
use Rattle.unit_reader.proofs.Readings.{whole_begins}
use Rattle.unit_reader.proofs.Spelled.{fronts_one, spelled}
use Rattle.fetch_wire.specs.Judging.{further}
use Rattle.fetch_wire.specs.RequestJudging.{Says, first_request, goes_on, judge_request}
use Rattle.fetch_wire.specs.RequestReadings.{TellsRequests, request_begun, requests_of}
use Rattle.fetch_wire.specs.Requests.{IsRequest, request_text}
use Rattle.fetch_wire.specs.declared.request.Request.{Request}
use Rattle.fetch_wire.specs.declared.request_units.RequestUnits.{RequestUnits}
use Rattle.fetch_wire.proofs.RequestUnitTexts.{Brings, IsGoodStep, Told, told_step}
use Rattle.fetch_wire.proofs.SectionsSpelled.{both_fit}

abbrev IsGood : RequestUnits → Type 0
IsGood units = IsGoodStep units.next units.rid units.haves units.nodes

told : (s : RequestUnits) (unit : List ℕ) → IsGood s → IsBytes unit → Told s unit (judge_request s unit)
unfolding judge_request
told s unit good fits = told_step s.request s.place s.next s.rid s.haves s.nodes unit good fits

told_as : (s : RequestUnits) (unit : List ℕ) (v : Says) → IsGood s → IsBytes unit → judge_request s unit ≡ v → Told s unit v
told_as s unit v good fits is = subst (λ (w : Says). Told s unit w) is (told s unit good fits)

brings : BringsOn judge_request request_begun request_text IsBytes IsGood
brings s t unit item good fits some fronts is = let b = told_as s unit (Ends item t) good fits is in (b.text, b.good)

-- ---- places

further_twice : (p a b : ℕ) → further (further p a) b ≡ further p (a + b)
further_twice p a b = omega arith

-- the unit begins behind what stands of its request
record IsPlaced (s : RequestUnits) : Type 0 where
  within : s.request ≤ 2 ^ 64 - 1
  place : s.place ≡ further s.request (length (request_begun s))

-- where the next request begins
abbrev NextBegins : RequestUnits → Option Request → RequestUnits → Type 0
NextBegins s None t = t.request ≡ s.request
NextBegins s (Some r) t = t.request ≡ further s.request (length (request_text r))

moved : (s t : RequestUnits) (unit : List ℕ) (item : Option Request) → Brings s unit item t → IsPlaced s → IsPlaced t × NextBegins s item t
moved s t unit None b placed =
    let size : length (request_begun s) + length unit ≡ length (request_begun t) = sym (length-append (request_begun s) unit) ∙ ap length b.text in (
      record {
        within = subst (λ (n : ℕ). n ≤ 2 ^ 64 - 1) (sym b.moves) placed.within;
        place = b.place ∙ (ap (λ (n : ℕ). further n (length unit)) placed.place ∙ (further_twice s.request (length (request_begun s)) (length unit)
            ∙ (ap (λ (n : ℕ). further s.request n) size ∙ ap (λ (n : ℕ). further n (length (request_begun t))) (sym b.moves))));
      },
      b.moves,
    )
moved s t unit (Some r) b placed =
    let text : request_begun s ++ unit ≡ request_text r ++ [] = b.text ∙ ap (λ (xs : List ℕ). request_text r ++ xs) b.moves.1 in
    let size : length (request_begun s) + length unit ≡ length (request_text r) = sym (length-append (request_begun s) unit) ∙ ap length (text ∙ append-nil (request_text r)) in
    let here : t.place ≡ further s.request (length (request_text r)) =
    b.place ∙ (ap (λ (n : ℕ). further n (length unit)) placed.place ∙ (further_twice s.request (length (request_begun s)) (length unit) ∙ ap (λ (n : ℕ). further s.request n) size)) in
    let begins : t.request ≡ further s.request (length (request_text r)) = b.moves.0 ∙ here in
    let none : length (request_begun t) ≡ 0 = ap length b.moves.1 in
    let within : t.request ≤ 2 ^ 64 - 1 = omega arith in (
      record {
        within = within;
        place = let same = b.moves.0 in omega arith;
      },
      begins,
    )

-- ---- the whole reading

-- the requests are within their limits, and a broken one begins where they end
abbrev Holds : RequestUnits → List Request → Place RequestUnits ℕ → Type 0
Holds s items (At t held rest) = AllByRecursion IsRequest items × (rest ≡ [])
Holds s items (Broken place) = AllByRecursion IsRequest items × (place ≡ further s.request (length (flat_map request_text items)))

holds_behind : (s t : RequestUnits) (unit : List ℕ) (item : Option Request) (items : List Request) (p : Place RequestUnits ℕ) → Brings s unit item t → NextBegins s item t
    → Holds t items p → Holds s (only item ++ items) p
holds_behind s t unit None items (At u held rest) b begins holds = holds
holds_behind s t unit (Some r) items (At u held rest) b begins holds = ((b.whole, holds.0), holds.1)
holds_behind s t unit None items (Broken place) b begins holds =
    (holds.0, holds.1 ∙ ap (λ (n : ℕ). further n (length (flat_map request_text items))) begins)
holds_behind s t unit (Some r) items (Broken place) b begins holds =
    let rest : List ℕ = flat_map request_text items in (
      (b.whole, holds.0),
      holds.1 ∙ (ap (λ (n : ℕ). further n (length rest)) begins ∙ (further_twice s.request (length (request_text r)) (length rest)
          ∙ ap (λ (n : ℕ). further s.request n) (sym (length-append (request_text r) rest)))),
    )

holds_by : (s : RequestUnits) (held bytes : List ℕ) (b : ℕ) (v : Says) → IsGood s → IsPlaced s → IsBytes (held ++ b ∷ []) → judge_request s (held ++ b ∷ []) ≡ v
    → (v ≡ Begins → Holds s (reading goes_on judge_request s (held ++ b ∷ []) bytes).items (reading goes_on judge_request s (held ++ b ∷ []) bytes).place)
    → ((t : RequestUnits) → IsGood t → IsPlaced t → Holds t (reading goes_on judge_request t [] bytes).items (reading goes_on judge_request t [] bytes).place)
    → Holds s (next v s (held ++ b ∷ []) (λ t keeps. reading goes_on judge_request t keeps bytes)).items (next v s (held ++ b ∷ []) (λ t keeps. reading goes_on judge_request t keeps bytes)).place
holds_by s held bytes b Begins good placed fits e on anew = on refl
holds_by s held bytes b (Ends item t) good placed fits e on anew =
    let brought = told_as s (held ++ b ∷ []) (Ends item t) good fits e in
    let m = moved s t (held ++ b ∷ []) item brought placed in
    holds_behind s t (held ++ b ∷ []) item (reading goes_on judge_request t [] bytes).items (reading goes_on judge_request t [] bytes).place brought m.1 (anew t brought.good m.0)
holds_by s held bytes b (Breaks place) good placed fits e on anew =
    let is = told_as s (held ++ b ∷ []) (Breaks place) good fits e in
    let within = placed.within in
    (tt, is ∙ omega arith)

holds : (s : RequestUnits) (held bytes : List ℕ) → IsGood s → IsPlaced s → IsBytes (held ++ bytes) → AllBegin judge_request s held
    → Holds s (reading goes_on judge_request s held bytes).items (reading goes_on judge_request s held bytes).place
holds s held [] good placed fits begun = (tt, refl)
holds s held (b ∷ bytes) good placed fits begun =
    let longer : held ++ (b ∷ bytes) ≡ (held ++ b ∷ []) ++ bytes = sym (append_assoc held (b ∷ []) bytes) in
    let all : IsBytes ((held ++ b ∷ []) ++ bytes) = subst IsBytes longer fits in
    let both = both_fit (held ++ b ∷ []) bytes all in
    let fronts = fronts_one judge_request s held b begun in
    holds_by s held bytes b (judge_request s (held ++ b ∷ [])) good placed both.0 refl
    (λ is. holds s (held ++ b ∷ []) bytes good placed all (whole_begins judge_request s (held ++ b ∷ []) fronts is))
    (λ t next_good next_placed. holds t [] bytes next_good next_placed both.1 (λ k some within. absurd (omega arith)))

tells : (bytes : List ℕ) (items : List Request) (p : Place RequestUnits ℕ) → Holds first_request items p → SpellsPlace judge_request request_begun bytes (flat_map request_text items) p
    → TellsRequests bytes items p
tells bytes items (At t held rest) holds spells =
    let none : held ++ rest ≡ held = ap (λ (xs : List ℕ). held ++ xs) holds.1 ∙ append-nil held in
    (holds.0, holds.1, spells.0 ∙ ap (λ (xs : List ℕ). flat_map request_text items ++ (request_begun t ++ xs)) none)
tells bytes items (Broken place) holds spells = (holds.0, holds.1, spells)

-- what is read is spelled
pub requests_spelled : (bytes : List ℕ) → IsBytes bytes → TellsRequests bytes (requests_of bytes).items (requests_of bytes).place
requests_spelled bytes fits =
    tells bytes (requests_of bytes).items (requests_of bytes).place
    (holds first_request [] bytes (refl, refl) (record { within = omega arith; place = refl }) fits (λ k some within. absurd (omega arith)))
    (spelled goes_on judge_request request_begun request_text IsBytes IsGood both_fit brings first_request [] bytes (refl, refl) fits (λ k some within. absurd (omega arith)))
