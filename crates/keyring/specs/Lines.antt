-- The grammar of a keyring file: its lines, and what they say.
use Rattle.std.specs.Prelude.{◌≡◌, ℕ, ◌≤◌, List, [], ◌∷◌, ◌++◌, length, codes}
use Rattle.std.specs.List.{All, Contains}
use Rattle.hex.specs.Hex.{IsBytes, encode_lower}
use Rattle.rad_base.specs.declared.names.Nid.{Nid}
use Rattle.rad_base.specs.Sizes.{IsNid}
use Rattle.keyring.specs.declared.accept.Accept.{Accept}
use Rattle.keyring.specs.Accepts.{IsAccept}

-- a name with its key, a signature that holds, or a message of this node's own
pub data KeyringLine : Type 0 where
  named : List ℕ → Nid → KeyringLine
  accepted : Accept → KeyringLine
  owned : List ℕ → KeyringLine

-- 1 to 128 bytes, from `!` to `~`
pub record IsText (text : List ℕ) : Type 0 where
  pub some : 1 ≤ length text
  pub short : length text ≤ 128
  pub printed : All (λ byte. (33 ≤ byte) × (byte ≤ 126)) text

-- 1 to 65,535 bytes
pub record IsMessage (message : List ℕ) : Type 0 where
  pub some : 1 ≤ length message
  pub short : length message ≤ 65535
  pub fits : IsBytes message

-- each part of the line has its form
abbrev pub IsKeyringLine : KeyringLine → Type 0
IsKeyringLine (named text key) = IsText text × IsNid key
IsKeyringLine (accepted accept) = IsAccept accept
IsKeyringLine (owned message) = IsMessage message

-- a line as the file has it, without its line feed
abbrev pub keyring_line_text : KeyringLine → List ℕ
keyring_line_text (named text key) = codes "name " ++ text ++ codes " " ++ encode_lower key.0
keyring_line_text (accepted accept) =
    codes "accept " ++ encode_lower accept.key.0 ++ codes " "
    ++ encode_lower accept.digest.0 ++ codes " " ++ encode_lower accept.sig.0
keyring_line_text (owned message) = codes "own " ++ encode_lower message

-- the bytes begin with this line and its line feed, and the rest follows
pub record BeginsWithLine (line : KeyringLine) (rest bytes : List ℕ) : Type 0 where
  pub good : IsKeyringLine line
  pub text : bytes ≡ keyring_line_text line ++ 10 ∷ rest

-- the lines of a file, each ended by a line feed
abbrev pub file_text : List KeyringLine → List ℕ
file_text [] = []
file_text (line ∷ lines) = keyring_line_text line ++ 10 ∷ file_text lines

-- the names with their keys, in the order of the lines
abbrev pub names_in : List KeyringLine → List (List ℕ × Nid)
names_in [] = []
names_in (named text key ∷ lines) = (text, key) ∷ names_in lines
names_in (accepted accept ∷ lines) = names_in lines
names_in (owned message ∷ lines) = names_in lines

-- the signatures that hold, in the order of the lines
abbrev pub accepts_in : List KeyringLine → List Accept
accepts_in [] = []
accepts_in (named text key ∷ lines) = accepts_in lines
accepts_in (accepted accept ∷ lines) = accept ∷ accepts_in lines
accepts_in (owned message ∷ lines) = accepts_in lines

-- the own messages, in the order of the lines
abbrev pub owned_in : List KeyringLine → List (List ℕ)
owned_in [] = []
owned_in (named text key ∷ lines) = owned_in lines
owned_in (accepted accept ∷ lines) = owned_in lines
owned_in (owned message ∷ lines) = message ∷ owned_in lines

-- no line before names the text that this line names, if it names one
abbrev pub MayFollow : List KeyringLine → KeyringLine → Type 0
MayFollow before (named text key) = (other : Nid) → Contains before (named text other) → ⊥
MayFollow before (accepted accept) = Unit {0}
MayFollow before (owned message) = Unit {0}

-- each line has its form and may follow those before it
abbrev pub AreLinesBehind : List KeyringLine → List KeyringLine → Type 0
AreLinesBehind before [] = Unit {0}
AreLinesBehind before (line ∷ lines) =
    IsKeyringLine line × MayFollow before line × AreLinesBehind (before ++ line ∷ []) lines

-- lines that make a file
abbrev pub AreLines : List KeyringLine → Type 0
AreLines lines = AreLinesBehind [] lines
