-- Bytes that come in pieces, cut into units that stand one behind the other.
use Rattle.std.specs.Prelude.{◌≡◌, ℕ, ◌+◌, ◌<◌, ◌≤◌, Bool, true, if◌then◌else◌, List, [], ◌∷◌, ◌++◌, length, take, drop, ◌⊎◌, Option, None, Some, Result, Ok, Err}
use Rattle.unit_reader.specs.declared.units.Look.{Look}
use Rattle.unit_reader.specs.declared.units.Look.TheVariants as look
use Rattle.unit_reader.specs.declared.units.Stop.{Stop}
use Rattle.unit_reader.specs.declared.units.Stop.TheVariants as stop

-- What bytes say of the unit that stands in a state's place: they begin one; they are one, which
-- completes an item or none, and leads to the next state; or they are broken.
pub data Verdict (S I F : Type 0) : Type 0 where
  Begins : Verdict S I F
  Ends : Option I → S → Verdict S I F
  Breaks : F → Verdict S I F

-- where a reading stops: in a state, with bytes of the next unit and bytes that are not used, or
-- at a broken unit
pub data Place (S F : Type 0) : Type 0 where
  At : S → List ℕ → List ℕ → Place S F
  Broken : F → Place S F

-- what was read, and where reading stopped
pub record Reading (S I F : Type 0) : Type 0 where
  pub items : List I
  pub place : Place S F

-- with these items before
abbrev pub behind : {S I F : Type 0} → List I → Reading S I F → Reading S I F
behind items r = record { items = items ++ r.items; place = r.place }

-- the item, if there is one
abbrev pub only : {I : Type 0} → Option I → List I
only None = []
only (Some item) = item ∷ []

-- how reading goes on, where bytes have this verdict
abbrev pub next : {S I F : Type 0} → Verdict S I F → S → List ℕ → (S → List ℕ → Reading S I F) → Reading S I F
next Begins s held go = go s held
next (Ends item t) s held go = behind (only item) (go t [])
next (Breaks fault) s held go = record { items = []; place = Broken fault }

-- The reading of bytes from a state on, in which bytes of a unit are held. A state that is shut
-- uses no more.
abbrev pub reading : {S I F : Type 0} → (S → Bool) → (S → List ℕ → Verdict S I F) → S → List ℕ → List ℕ → Reading S I F
reading shut judge s held [] = record { items = []; place = At s held [] }
reading shut judge s held (b ∷ bytes) =
    if shut s
    then record { items = []; place = At s held (b ∷ bytes) }
    else next (judge s (held ++ b ∷ [])) s (held ++ b ∷ []) (λ t keeps. reading shut judge t keeps bytes)

-- what follows, read from where a reading stopped
abbrev pub then_on : {S I F : Type 0} → Reading S I F → (S → List ℕ → List ℕ → Reading S I F) → Reading S I F
then_on r go = elim r.place [
  | At s held rest ↦ behind r.items (go s held rest)
  | Broken fault ↦ r
]

-- the bytes, and each front of them that is not empty, begin a unit
abbrev pub AllBegin : {S I F : Type 0} → (S → List ℕ → Verdict S I F) → S → List ℕ → Type 0
AllBegin judge s held = (k : ℕ) → 0 < k → k ≤ length held → judge s (take k held) ≡ Begins

-- each front that is not empty and not the whole begins a unit
abbrev pub FrontsBegin : {S I F : Type 0} → (S → List ℕ → Verdict S I F) → S → List ℕ → Type 0
FrontsBegin judge s held = (k : ℕ) → 0 < k → k < length held → judge s (take k held) ≡ Begins

-- whatever follows, up to so many bytes, a unit is begun
abbrev pub BeginsBelow : {S I F : Type 0} → (S → List ℕ → Verdict S I F) → S → List ℕ → ℕ → Type 0
BeginsBelow judge s held n = (more : List ℕ) → 0 < length more → length held + length more < n → judge s (held ++ more) ≡ Begins

-- a look at the bytes answers their verdict
abbrev pub Looks : {S I F : Type 0} → (S → List ℕ → Verdict S I F) → S → List ℕ → S → List ℕ → Result (Look I) (Stop F) → Type 0
Looks judge s held t keeps (Ok look.Short) = (judge s held ≡ Begins) × (t ≡ s) × (keeps ≡ held)
Looks judge s held t keeps (Ok look.Unit) = (judge s held ≡ Ends None t) × (keeps ≡ [])
Looks judge s held t keeps (Ok (look.Whole item)) = (judge s held ≡ Ends (Some item) t) × (keeps ≡ [])
Looks judge s held t keeps (Err (stop.Broken fault)) = judge s held ≡ Breaks fault
Looks judge s held t keeps (Err stop.NoMemory) = Unit {0}

-- A turn used bytes of the piece, and gave an item or none. The rest is read from where it
-- stopped, and so is what ever follows the bytes that it used.
pub record Turned {S I F : Type 0} (shut : S → Bool) (judge : S → List ℕ → Verdict S I F) (s : S) (held piece : List ℕ) (t : S) (keeps : List ℕ) (used : ℕ) (item : Option I) : Type 0 where
  pub some : 0 < used
  pub within : used ≤ length piece
  pub whole : reading shut judge s held piece ≡ behind (only item) (reading shut judge t keeps (drop used piece))
  pub reads : (rest : List ℕ) → reading shut judge s held (take used piece ++ rest) ≡ behind (only item) (reading shut judge t keeps rest)

-- what a turn answers
abbrev pub Turns : {S I F : Type 0} → (S → Bool) → (S → List ℕ → Verdict S I F) → S → List ℕ → List ℕ → S → List ℕ → Result (ℕ × Option I) (Stop F) → Type 0
Turns shut judge s held piece t keeps (Ok r) = Turned shut judge s held piece t keeps r.0 r.1
Turns shut judge s held piece t keeps (Err (stop.Broken fault)) = reading shut judge s held piece ≡ record { items = []; place = Broken fault }
Turns shut judge s held piece t keeps (Err stop.NoMemory) = Unit {0}

-- So many bytes of the piece gave these items. The rest is read from where that stopped, and so is
-- what ever follows these bytes.
pub record ReadsUpTo {S I F : Type 0} (shut : S → Bool) (judge : S → List ℕ → Verdict S I F) (s : S) (held piece : List ℕ) (used : ℕ) (items : List I) (t : S) (keeps : List ℕ) : Type 0 where
  pub within : used ≤ length piece
  pub whole : reading shut judge s held piece ≡ behind items (reading shut judge t keeps (drop used piece))
  pub reads : (rest : List ℕ) → reading shut judge s held (take used piece ++ rest) ≡ behind items (reading shut judge t keeps rest)

-- The piece was read, all of it or as much as is used: what was read of it, whatever follows the bytes
-- that were used.
pub record WasFed {S I F : Type 0} (shut : S → Bool) (judge : S → List ℕ → Verdict S I F) (s : S) (held piece : List ℕ) (used : ℕ) (items : List I) (t : S) (keeps : List ℕ) : Type 0 where
  pub within : used ≤ length piece
  pub whole : reading shut judge s held piece ≡ record { items = items; place = At t keeps (drop used piece) }
  pub reads : (rest : List ℕ) → reading shut judge s held (take used piece ++ rest) ≡ behind items (reading shut judge t keeps rest)
  pub rest : (used ≡ length piece) ⊎ (shut t ≡ true)

-- what feeding a piece answers
abbrev pub Feeds : {S I F : Type 0} → (S → Bool) → (S → List ℕ → Verdict S I F) → S → List ℕ → List ℕ → S → List ℕ → List I → Result ℕ (Stop F) → Type 0
Feeds shut judge s held piece t keeps items (Ok used) = WasFed shut judge s held piece used items t keeps
Feeds shut judge s held piece t keeps items (Err (stop.Broken fault)) = reading shut judge s held piece ≡ record { items = items; place = Broken fault }
Feeds shut judge s held piece t keeps items (Err stop.NoMemory) = Unit {0}
