-- What bytes are: a journal of a list of bodies, no journal yet, or damaged at a place.
use Rattle.std.specs.Prelude.{◌≡◌, ◌≢◌, ◌⊎◌, ℕ, ◌+◌, ◌<◌, ◌≤◌, ◌^◌, List, ◌∷◌, ◌++◌, length}
use Rattle.std.specs.Prelude.{Option, None, Some, take, slice_index}
use Rattle.std.specs.Int.{to_be_bytes, w64}
use Rattle.ref_journal.specs.Frames.{AreBodies, IsBody, frame_of, gate_behind, header, records}

-- the bytes are the header and a record of each body, and the rest from this place on
pub record Begins (bodies : List (List ℕ)) (place : ℕ) (rest bytes : List ℕ) : Type 0 where
  pub fit : AreBodies bodies
  pub text : bytes ≡ (header ++ records bodies) ++ rest
  pub place_is : place ≡ gate_behind bodies

-- the bytes are a journal of these bodies, whose end gate stands at this place: what follows it is
-- unread
pub record IsJournal (bodies : List (List ℕ)) (end : ℕ) (bytes : List ℕ) : Type 0 where
  pub gate : ℕ
  pub unread : List ℕ
  pub closed : gate ≢ 1
  pub begins : Begins bodies end (gate ∷ unread) bytes

-- the bytes are a journal of these bodies up to this place, where the gate of one more stands: its
-- frame is whole, and the gate is any byte
pub record IsInDoubt (bodies : List (List ℕ)) (body : List ℕ) (end : ℕ) (bytes : List ℕ)
    : Type 0 where
  pub fits : IsBody body
  pub gate : ℕ
  pub unread : List ℕ
  pub begins : Begins bodies end (gate ∷ (frame_of body ++ unread)) bytes

-- the bytes are a journal of these bodies with this end, or the body in doubt stands there
abbrev pub IsLeft : List (List ℕ) → Option (List ℕ) → ℕ → List ℕ → Type 0
IsLeft bodies None end bytes = IsJournal bodies end bytes
IsLeft bodies (Some body) end bytes = IsInDoubt bodies body end bytes

-- no journal is made: there are fewer than 9 bytes, or the first is not 1
abbrev pub IsUnmade : List ℕ → Type 0
IsUnmade bytes = (length bytes < 9) ⊎ (slice_index bytes 0 ≢ 1)

-- the made mark is there, and another byte of the header differs
pub record HasOtherHeader (place : ℕ) (bytes : List ℕ) : Type 0 where
  pub size : 9 ≤ length bytes
  pub made : slice_index bytes 0 ≡ 1
  pub differs : take 8 bytes ≢ header
  pub place_is : place ≡ 0

-- the first eight bytes spell this length
pub record Spells (size : ℕ) (bytes : List ℕ) : Type 0 where
  pub fits : size < 2 ^ 64
  pub text : take 8 bytes ≡ to_be_bytes w64 size

-- these bytes behind an open gate begin with a length over the limit, or end before the next gate
abbrev pub IsBroken : List ℕ → Type 0
IsBroken rest =
    (length rest < 9)
    ⊎ ((size : ℕ) × Spells size rest × ((34000000 < size) ⊎ (length rest < 9 + size)))

-- the records are whole up to an open gate at this place, and what stands behind it is broken
pub record HasBrokenRecord (place : ℕ) (bytes : List ℕ) : Type 0 where
  pub bodies : List (List ℕ)
  pub rest : List ℕ
  pub begins : Begins bodies place (1 ∷ rest) bytes
  pub broken : IsBroken rest

-- a journal is made, and this is the least place at which the bytes are none
abbrev pub IsDamagedAt : ℕ → List ℕ → Type 0
IsDamagedAt place bytes = HasOtherHeader place bytes ⊎ HasBrokenRecord place bytes
