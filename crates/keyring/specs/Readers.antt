-- What the readers of lines answer.
use Rattle.std.specs.Prelude.{◌≡◌, ℕ, ◌+◌, ◌%◌, ◌≤◌, List, [], ◌∷◌, ◌++◌, length, map, Vec}
use Rattle.std.specs.declared.alloc.Global.{Global}
use Rattle.std.specs.List.{AllPass}
use Rattle.rad_base.specs.declared.names.Nid.{Nid}
use Rattle.rad_base.specs.Hexadecimal.{is_lower_hex_digit}
use Rattle.keyring.specs.Contents.{Contents, contents_of}
use Rattle.keyring.specs.Lines.{AreLines, KeyringLine, MayFollow, accepted, file_text, named, owned}
use Rattle.keyring.specs.declared.line.Entry.{Entry}
use Rattle.keyring.specs.declared.line.Entry.TheVariants.{Accepted, Named, Owned}

-- a line as the program has it
abbrev pub seen : Entry → KeyringLine
seen (Named text key) = named text.items key
seen (Accepted accept) = accepted accept
seen (Owned message) = owned message.items

-- names by the bytes of their texts
abbrev pub by_text : List (Vec ℕ Global × Nid) → List (List ℕ × Nid)
by_text names = map (λ name. (name.0.items, name.1)) names

-- digits that spell a message
pub record IsSpelling (digits : List ℕ) : Type 0 where
  pub some : 2 ≤ length digits
  pub short : length digits ≤ 131070
  pub even : length digits % 2 ≡ 0
  pub lower : AllPass is_lower_hex_digit digits

-- the new keyring says what the old one does, and what a line says that may follow
pub record Adds (line : KeyringLine) (old new : Contents) : Type 0 where
  pub follows : (before : List KeyringLine) → old ≡ contents_of before → MayFollow before line
  pub says : (before : List KeyringLine) → old ≡ contents_of before → new ≡ contents_of (before ++ line ∷ [])

-- the line may not follow lines that say what the keyring says
abbrev pub MayNotAdd : KeyringLine → Contents → Type 0
MayNotAdd line keyring = (before : List KeyringLine) → keyring ≡ contents_of before → MayFollow before line → ⊥

-- lines were read that the keyring holds, and the rest follows; the next has this number
pub record HasRead (bytes rest : List ℕ) (number : ℕ) (keyring : Contents) : Type 0 where
  pub lines : List KeyringLine
  pub good : AreLines lines
  pub text : bytes ≡ file_text lines ++ rest
  pub count : number ≡ length lines + 1
  pub says : keyring ≡ contents_of lines
