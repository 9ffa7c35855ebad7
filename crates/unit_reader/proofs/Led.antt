-- What holds along a reading, from unit to unit.
use Rattle.std.proofs.Common.{◌≡◌, ℕ, ◌<◌, Bool, true, false, List, [], ◌∷◌, ◌++◌, length, refl, sym, subst, arith, append_assoc, inl, inr}
use Rattle.std.proofs.lemmas.List.{length-append}
use Rattle.std.specs.Prelude.{Option, ◌⊎◌}
use Rattle.unit_reader.proofs.Readings.{whole_begins}
use Rattle.unit_reader.proofs.Spelled.{fronts_one}
use Rattle.unit_reader.specs.Units.{Verdict, Begins, Ends, Breaks, Place, At, Broken, next, only, reading, AllBegin, FrontsBegin}

-- What holds of a state's reading holds where nothing is read, and where a unit is broken; and a unit
-- brings it on to the state behind it, from a good state to a good one.
pub record Leads {S I F : Type 0} (shut : S → Bool) (judge : S → List ℕ → Verdict S I F) (Holds : S → List I → Place S F → Type 0) (Allowed : List ℕ → Type 0) (Good : S → Type 0) : Type 0 where
  pub stops : (s : S) (held rest : List ℕ) → Good s → AllBegin judge s held → (rest ≡ []) ⊎ (shut s ≡ true) → Holds s [] (At s held rest)
  pub breaks : (s : S) (fault : F) → Good s → shut s ≡ false → Holds s [] (Broken fault)
  pub on : (s t : S) (unit : List ℕ) (item : Option I) (items : List I) (p : Place S F) → Good s → Allowed unit → 0 < length unit → FrontsBegin judge s unit → judge s unit ≡ Ends item t
      → (Good t → Holds t items p) → Holds s (only item ++ items) p × Good t

led_by : {S I F : Type 0} {shut : S → Bool} {judge : S → List ℕ → Verdict S I F} {Holds : S → List I → Place S F → Type 0} {Allowed : List ℕ → Type 0} {Good : S → Type 0} (leads : Leads shut judge Holds Allowed Good)
    (s : S) (held bytes : List ℕ) (b : ℕ) (v : Verdict S I F) → Good s → shut s ≡ false → Allowed (held ++ b ∷ []) → AllBegin judge s held → judge s (held ++ b ∷ []) ≡ v
    → (v ≡ Begins → Holds s (reading shut judge s (held ++ b ∷ []) bytes).items (reading shut judge s (held ++ b ∷ []) bytes).place)
    → ((t : S) → Good t → Holds t (reading shut judge t [] bytes).items (reading shut judge t [] bytes).place)
    → Holds s (next v s (held ++ b ∷ []) (λ t keeps. reading shut judge t keeps bytes)).items (next v s (held ++ b ∷ []) (λ t keeps. reading shut judge t keeps bytes)).place
led_by leads s held bytes b Begins good live allowed begun e on anew = on refl
led_by {S} {I} {F} {shut} {judge} leads s held bytes b (Ends item t) good live allowed begun e on anew =
    (leads.on s t (held ++ b ∷ []) item (reading shut judge t [] bytes).items (reading shut judge t [] bytes).place good allowed
    (omega (arith, length-append held (b ∷ []))) (fronts_one judge s held b begun) e (anew t)).0
led_by leads s held bytes b (Breaks fault) good live allowed begun e on anew = leads.breaks s fault good live

led_shut : {S I F : Type 0} {shut : S → Bool} {judge : S → List ℕ → Verdict S I F} {Holds : S → List I → Place S F → Type 0} {Allowed : List ℕ → Type 0} {Good : S → Type 0} (leads : Leads shut judge Holds Allowed Good)
    (s : S) (held bytes : List ℕ) (b : ℕ) (c : Bool) → Good s → shut s ≡ c → AllBegin judge s held
    → (c ≡ false → Holds s (next (judge s (held ++ b ∷ [])) s (held ++ b ∷ []) (λ t keeps. reading shut judge t keeps bytes)).items (next (judge s (held ++ b ∷ [])) s (held ++ b ∷ []) (λ t keeps. reading shut judge t keeps bytes)).place)
    → Holds s (reading shut judge s held (b ∷ bytes)).items (reading shut judge s held (b ∷ bytes)).place
led_shut leads s held bytes b true good is begun on = simp is (leads.stops s held (b ∷ bytes) good begun (inr is))
led_shut leads s held bytes b false good is begun on = simp is (on refl)

-- what leads from unit to unit holds of the whole reading
pub led : {S I F : Type 0} {shut : S → Bool} {judge : S → List ℕ → Verdict S I F} {Holds : S → List I → Place S F → Type 0} {Allowed : List ℕ → Type 0} {Good : S → Type 0} (leads : Leads shut judge Holds Allowed Good)
    → ((a b : List ℕ) → Allowed (a ++ b) → Allowed a × Allowed b)
    → (s : S) (held bytes : List ℕ) → Good s → Allowed (held ++ bytes) → AllBegin judge s held
    → Holds s (reading shut judge s held bytes).items (reading shut judge s held bytes).place
led leads parts s held [] good allowed begun = leads.stops s held [] good begun (inl refl)
led {S} {I} {F} {shut} {judge} {Holds} {Allowed} {Good} leads parts s held (b ∷ bytes) good allowed begun =
    let longer : held ++ (b ∷ bytes) ≡ (held ++ b ∷ []) ++ bytes = sym (append_assoc held (b ∷ []) bytes) in
    let all : Allowed ((held ++ b ∷ []) ++ bytes) = subst Allowed longer allowed in
    let both = parts (held ++ b ∷ []) bytes all in
    let fronts = fronts_one judge s held b begun in
    led_shut leads s held bytes b (shut s) good refl begun
    (λ live. led_by leads s held bytes b (judge s (held ++ b ∷ [])) good live both.0 begun refl
    (λ is. led leads parts s (held ++ b ∷ []) bytes good all (whole_begins judge s (held ++ b ∷ []) fronts is))
    (λ t next_good. led leads parts t [] bytes next_good both.1 (λ k some within. absurd (omega arith))))
