-- Files and what they say, and the first broken line.
use Rattle.std.specs.Prelude.{◌≡◌, ℕ, ◌+◌, List, [], ◌++◌, length, Result, MatchResult, ◌⊎◌}
use Rattle.keyring.specs.Contents.{Contents, contents_of}
use Rattle.keyring.specs.Lines.{AreLines, BeginsWithLine, KeyringLine, MayFollow, file_text}
use Rattle.keyring.specs.declared.fault.KeyFault.{KeyFault}
use Rattle.keyring.specs.declared.fault.KeyFault.TheVariants.{BadLine, NoMemory}

-- the file is lines of the grammar, and the keyring says what they say
pub record Keys (bytes : List ℕ) (keyring : Contents) : Type 0 where
  pub lines : List KeyringLine
  pub good : AreLines lines
  pub text : bytes ≡ file_text lines
  pub says : keyring ≡ contents_of lines

-- bytes follow, and they begin with no line that may stand behind these
pub record Breaks (before : List KeyringLine) (rest : List ℕ) : Type 0 where
  pub more : rest ≡ [] → ⊥
  pub broken : (line : KeyringLine) (behind : List ℕ)
      → BeginsWithLine line behind rest → MayFollow before line → ⊥

-- line n, counted from 1, is the first that breaks the grammar
pub record BreaksKeyringAt (n : ℕ) (bytes : List ℕ) : Type 0 where
  pub before : List KeyringLine
  pub rest : List ℕ
  pub good : AreLines before
  pub text : bytes ≡ file_text before ++ rest
  pub breaks : Breaks before rest
  pub count : n ≡ length before + 1

-- why a file was not read: this line is the first broken one, or memory was refused
abbrev pub ExplainsKeyring : List ℕ → KeyFault → Type 0
ExplainsKeyring bytes (BadLine n) = BreaksKeyringAt n bytes
ExplainsKeyring bytes NoMemory = Unit {0}

-- this line is named as broken, unless memory was refused
abbrev pub RefusedAt : {T : Type 0} → ℕ → Result T KeyFault → Type 0
RefusedAt n result =
    MatchResult result (λ _. ⊥) (λ fault. (fault ≡ BadLine n) ⊎ (fault ≡ NoMemory))
