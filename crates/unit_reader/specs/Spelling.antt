-- What is read, as the bytes that spell it.
use Rattle.std.specs.Prelude.{◌≡◌, ℕ, ◌<◌, List, [], ◌++◌, length, Option, None, Some}
use Rattle.std.specs.List.{flat_map}
use Rattle.unit_reader.specs.Units.{Verdict, Ends, Breaks, Place, Reading, At, Broken, AllBegin, FrontsBegin}

-- The bytes are the texts of the items, the text of the state where reading stopped, and what is
-- held there; or such a state's text and a broken unit.
abbrev pub SpellsPlace : {S I F : Type 0} → (S → List ℕ → Verdict S I F) → (S → List ℕ) → List ℕ → List ℕ → Place S F → Type 0
SpellsPlace judge text bytes items (At t held rest) = (bytes ≡ items ++ (text t ++ (held ++ rest))) × AllBegin judge t held
SpellsPlace {S} judge text bytes items (Broken fault) =
    (t : S) × (unit : List ℕ) × (rest : List ℕ) × (bytes ≡ items ++ (text t ++ (unit ++ rest))) × FrontsBegin judge t unit × (judge t unit ≡ Breaks fault)

abbrev pub Spells : {S I F : Type 0} → (S → List ℕ → Verdict S I F) → (S → List ℕ) → (I → List ℕ) → List ℕ → Reading S I F → Type 0
Spells judge text item_text bytes r = SpellsPlace judge text bytes (flat_map item_text r.items) r.place

-- the texts of the items that a unit completes
abbrev pub only_text : {I : Type 0} → (I → List ℕ) → Option I → List ℕ
only_text item_text None = []
only_text item_text (Some item) = item_text item

-- From a good state a unit brings the state's text on, and leads to a good state. An item's text is
-- that of its units.
abbrev pub BringsOn : {S I F : Type 0} → (S → List ℕ → Verdict S I F) → (S → List ℕ) → (I → List ℕ) → (List ℕ → Type 0) → (S → Type 0) → Type 0
BringsOn {S} {I} judge text item_text Allowed Good =
    (s t : S) (unit : List ℕ) (item : Option I) → Good s → Allowed unit → 0 < length unit → FrontsBegin judge s unit → judge s unit ≡ Ends item t
    → (text s ++ unit ≡ only_text item_text item ++ text t) × Good t
