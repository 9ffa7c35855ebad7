-- What reading signed refs answers.
use Rattle.std.specs.Prelude.{◌≡◌, ℕ, ◌+◌, ◌<◌, List, [], ◌++◌, length, Result, Ok, Err}
use Rattle.signed_refs.specs.Lines.{IsAboveNames, IsRefLine, Line, SpellsRefs, SpellsTo, ref_line_text}
use Rattle.signed_refs.specs.declared.fault.RefsFault.{RefsFault}
use Rattle.signed_refs.specs.declared.fault.RefsFault.TheVariants.{BadLine, NoMemory, TooMany}

-- the line stands at the front, with its line feed, and may stand behind these
pub record Continues (before : List Line) (line : Line) (rest bytes : List ℕ) : Type 0 where
  pub good : IsRefLine line
  pub above : IsAboveNames before line.0
  pub text : bytes ≡ ref_line_text line ++ rest

-- bytes follow at whose front no line stands that may stand behind these
pub record Stops (before : List Line) (bytes : List ℕ) : Type 0 where
  pub more : bytes ≡ [] → ⊥
  pub none : (line : Line) (rest : List ℕ) → Continues before line rest bytes → ⊥

-- line n, from 1, is the first broken one
pub record BreaksRefsAt (n : ℕ) (bytes : List ℕ) : Type 0 where
  pub before : List Line
  pub rest : List ℕ
  pub spelled : SpellsTo before rest bytes
  pub stops : Stops before rest
  pub few : length before < 65536
  pub count : n ≡ length before + 1

-- bytes follow behind 65,536 good lines
pub record HasTooMany (bytes : List ℕ) : Type 0 where
  pub before : List Line
  pub rest : List ℕ
  pub spelled : SpellsTo before rest bytes
  pub more : rest ≡ [] → ⊥
  pub count : length before ≡ 65536

-- why signed refs are not read
abbrev pub ExplainsRefs : List ℕ → RefsFault → Type 0
ExplainsRefs bytes (BadLine n) = BreaksRefsAt n bytes
ExplainsRefs bytes TooMany = HasTooMany bytes
ExplainsRefs bytes NoMemory = Unit {0}

-- what reading answers
abbrev pub ReadsRefs : List ℕ → Result (List Line) RefsFault → Type 0
ReadsRefs bytes (Ok lines) = SpellsRefs lines bytes
ReadsRefs bytes (Err fault) = ExplainsRefs bytes fault
