-- What holds of keyring files and keyrings by their definitions alone.
use Rattle.std.specs.Prelude.{◌≡◌, ◌↔◌, ℕ, List, Contains, Some}
use Rattle.rad_base.specs.declared.names.Nid.{Nid}
use Rattle.rad_base.specs.Sizes.{IsNid}
use Rattle.keyring.specs.Contents.{contents_of, key_of}
use Rattle.keyring.specs.Lines.{AreLines, KeyringLine, named}
use Rattle.keyring.specs.Texts.{direct_text}

-- a text that spells no key by itself stands for a key exactly where one of the lines says so
abbrev pub LinesNameKeys : Type 0
LinesNameKeys = (lines : List KeyringLine) (text : List ℕ) (key : Nid) → AreLines lines
    → ((other : Nid) → IsNid other → text ≡ direct_text other → ⊥)
    → (key_of (contents_of lines) text ≡ Some key) ↔ Contains lines (named text key)
