-- What is read, as the bytes that spell it.
use Rattle.std.proofs.Common.{◌≡◌, ℕ, Bool, true, false, List, [], ◌∷◌, ◌++◌, refl, sym, ap, subst, ◌∙◌, arith, append_assoc}
use Rattle.std.proofs.lemmas.List.{take-append-le, length-append}
use Rattle.std.specs.Prelude.{Option, None, Some}
use Rattle.std.specs.List.{flat_map}
use Rattle.unit_reader.specs.Spelling.{BringsOn, Spells, SpellsPlace, only_text}
use Rattle.unit_reader.proofs.Readings.{whole_begins}
use Rattle.unit_reader.specs.Units.{Verdict, Begins, Ends, Breaks, Place, Reading, At, Broken, behind, next, only, reading, AllBegin, FrontsBegin}

-- with a byte more, each front still begins a unit
pub fronts_one : {S I F : Type 0} (judge : S → List ℕ → Verdict S I F) (s : S) (held : List ℕ) (b : ℕ) → AllBegin judge s held → FrontsBegin judge s (held ++ b ∷ [])
fronts_one judge s held b all k some within =
    let size = length-append held (b ∷ []) in
    rw (take-append-le k held (b ∷ []) (omega arith)) (all k some (omega arith))

spelled_place : {S I F : Type 0} (judge : S → List ℕ → Verdict S I F) (text : S → List ℕ) (more items bytes whole : List ℕ) (p : Place S F)
    → whole ≡ more ++ bytes → SpellsPlace judge text bytes items p → SpellsPlace judge text whole (more ++ items) p
spelled_place judge text more items bytes whole (At t held rest) e spells =
    (e ∙ (ap (λ (xs : List ℕ). more ++ xs) spells.0 ∙ sym (append_assoc more items (text t ++ (held ++ rest)))), spells.1)
spelled_place judge text more items bytes whole (Broken fault) e spells =
    (spells.0, spells.1, spells.2, e ∙ (ap (λ (xs : List ℕ). more ++ xs) spells.3 ∙ sym (append_assoc more items (text spells.0 ++ (spells.1 ++ spells.2)))), spells.4, spells.5)

-- a reading after a unit
spelled_next : {S I F : Type 0} (judge : S → List ℕ → Verdict S I F) (text : S → List ℕ) (item_text : I → List ℕ) (s t : S) (unit bytes : List ℕ) (item : Option I) (r : Reading S I F)
    → text s ++ unit ≡ only_text item_text item ++ text t → Spells judge text item_text (text t ++ bytes) r
    → Spells judge text item_text (text s ++ (unit ++ bytes)) (behind (only item) r)
spelled_next judge text item_text s t unit bytes None r e spells =
    spelled_place judge text [] (flat_map item_text r.items) (text t ++ bytes) (text s ++ (unit ++ bytes)) r.place
    (sym (append_assoc (text s) unit bytes) ∙ ap (λ (xs : List ℕ). xs ++ bytes) e) spells
spelled_next judge text item_text s t unit bytes (Some item) r e spells =
    spelled_place judge text (item_text item) (flat_map item_text r.items) (text t ++ bytes) (text s ++ (unit ++ bytes)) r.place
    (sym (append_assoc (text s) unit bytes) ∙ (ap (λ (xs : List ℕ). xs ++ bytes) e ∙ append_assoc (item_text item) (text t) bytes)) spells

-- one byte more, by what it makes of the held bytes, where what follows is spelled
spelled_by : {S I F : Type 0} (shut : S → Bool) (judge : S → List ℕ → Verdict S I F) (text : S → List ℕ) (item_text : I → List ℕ) (Good : S → Type 0) (s : S) (held bytes : List ℕ) (b : ℕ) (v : Verdict S I F)
    → AllBegin judge s held → judge s (held ++ b ∷ []) ≡ v
    → ((t : S) (item : Option I) → v ≡ Ends item t → (text s ++ (held ++ b ∷ []) ≡ only_text item_text item ++ text t) × Good t)
    → (v ≡ Begins → Spells judge text item_text (text s ++ ((held ++ b ∷ []) ++ bytes)) (reading shut judge s (held ++ b ∷ []) bytes))
    → ((t : S) → Good t → Spells judge text item_text (text t ++ bytes) (reading shut judge t [] bytes))
    → Spells judge text item_text (text s ++ ((held ++ b ∷ []) ++ bytes)) (next v s (held ++ b ∷ []) (λ t keeps. reading shut judge t keeps bytes))
spelled_by shut judge text item_text Good s held bytes b Begins begun e brings on anew = on refl
spelled_by shut judge text item_text Good s held bytes b (Ends item t) begun e brings on anew =
    let brought = brings t item refl in
    spelled_next judge text item_text s t (held ++ b ∷ []) bytes item (reading shut judge t [] bytes) brought.0 (anew t brought.1)
spelled_by shut judge text item_text Good s held bytes b (Breaks fault) begun e brings on anew =
    (s, held ++ b ∷ [], bytes, refl, fronts_one judge s held b begun, e)

spelled_shut : {S I F : Type 0} (shut : S → Bool) (judge : S → List ℕ → Verdict S I F) (text : S → List ℕ) (item_text : I → List ℕ) (s : S) (held bytes : List ℕ) (b : ℕ) (c : Bool)
    → shut s ≡ c → AllBegin judge s held
    → Spells judge text item_text (text s ++ ((held ++ b ∷ []) ++ bytes)) (next (judge s (held ++ b ∷ [])) s (held ++ b ∷ []) (λ t keeps. reading shut judge t keeps bytes))
    → Spells judge text item_text (text s ++ (held ++ (b ∷ bytes))) (reading shut judge s held (b ∷ bytes))
spelled_shut shut judge text item_text s held bytes b true is begun on = simp is (refl, begun)
spelled_shut shut judge text item_text s held bytes b false is begun on =
    simp is (subst (λ (xs : List ℕ). Spells judge text item_text (text s ++ xs) (next (judge s (held ++ b ∷ [])) s (held ++ b ∷ []) (λ t keeps. reading shut judge t keeps bytes))) (append_assoc held (b ∷ []) bytes) on)

-- What is read is spelled by the bytes. Whatever the bytes have to be (as below 256) holds of each
-- part of them.
pub spelled : {S I F : Type 0} (shut : S → Bool) (judge : S → List ℕ → Verdict S I F) (text : S → List ℕ) (item_text : I → List ℕ) (Allowed : List ℕ → Type 0) (Good : S → Type 0)
    → ((a b : List ℕ) → Allowed (a ++ b) → Allowed a × Allowed b) → BringsOn judge text item_text Allowed Good
    → (s : S) (held bytes : List ℕ) → Good s → Allowed (held ++ bytes) → AllBegin judge s held
    → Spells judge text item_text (text s ++ (held ++ bytes)) (reading shut judge s held bytes)
spelled shut judge text item_text Allowed Good parts brings s held [] good allowed begun = (refl, begun)
spelled shut judge text item_text Allowed Good parts brings s held (b ∷ bytes) good allowed begun =
    let longer : held ++ (b ∷ bytes) ≡ (held ++ b ∷ []) ++ bytes = sym (append_assoc held (b ∷ []) bytes) in
    let all : Allowed ((held ++ b ∷ []) ++ bytes) = subst Allowed longer allowed in
    let both = parts (held ++ b ∷ []) bytes all in
    let fronts = fronts_one judge s held b begun in
    spelled_shut shut judge text item_text s held bytes b (shut s) refl begun
    (spelled_by shut judge text item_text Good s held bytes b (judge s (held ++ b ∷ [])) begun refl
    (λ t item is. brings s t (held ++ b ∷ []) item good both.0 (omega (arith, length-append held (b ∷ []))) fronts is)
    (λ is. spelled shut judge text item_text Allowed Good parts brings s (held ++ b ∷ []) bytes good all (whole_begins judge s (held ++ b ∷ []) fronts is))
    (λ t next_good. spelled shut judge text item_text Allowed Good parts brings t [] bytes next_good both.1 (λ k some within. absurd (omega arith))))
