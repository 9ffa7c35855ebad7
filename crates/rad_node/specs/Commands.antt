-- The words of each command.
use Rattle.std.specs.Prelude.{◌≡◌, ◌≢◌, ◌≤◌, ℕ, List, [], ◌∷◌, String, length, codes, decimal}
use Rattle.std.specs.List.{All}
use Rattle.std.specs.String.{string_bytes}
use Rattle.rad_node.specs.declared.command.Command.{Command}
use Rattle.rad_node.specs.declared.command.Command.TheVariants.{Init, Import, Show, Heads, Audit, Frames, Gen}

-- so many paths, none of them empty
pub record ArePaths {A : Type 0} (count : ℕ) (paths : List (String A)) : Type 0 where
  pub all : length paths ≡ count
  pub some : All (λ path. string_bytes path ≢ []) paths

-- the first word of a command
abbrev pub name_of : Command → List ℕ
name_of Init = codes "init"
name_of Import = codes "import"
name_of Show = codes "show"
name_of Heads = codes "heads"
name_of Audit = codes "audit"
name_of Frames = codes "frames"
name_of (Gen commits) = codes "gen"

-- the word is this number of commits, from 1 to 100,000 in decimal
pub record IsCommitCount (word : List ℕ) (count : ℕ) : Type 0 where
  pub some : 1 ≤ count
  pub few : count ≤ 100000
  pub text : word ≡ decimal count

-- a path, not empty, and a number of commits
abbrev pub IsPathAndCount : {A : Type 0} → List (String A) → ℕ → Type 0
IsPathAndCount [] count = ⊥
IsPathAndCount (path ∷ []) count = ⊥
IsPathAndCount (path ∷ word ∷ []) count = (string_bytes path ≢ []) × IsCommitCount (string_bytes word) count
IsPathAndCount (path ∷ word ∷ other ∷ more) count = ⊥

-- what stands behind the name of a command: paths of the store, the keyring file and the bundle; or the
-- path of a file of frames; or the path of the store and a number of commits
abbrev pub HasWords : {A : Type 0} → Command → List (String A) → Type 0
HasWords Init words = ArePaths 1 words
HasWords Import words = ArePaths 3 words
HasWords Show words = ArePaths 2 words
HasWords Heads words = ArePaths 2 words
HasWords Audit words = ArePaths 2 words
HasWords Frames words = ArePaths 1 words
HasWords (Gen commits) words = IsPathAndCount words commits

-- the words are this command
abbrev pub Says : {A : Type 0} → List (String A) → Command → Type 0
Says [] command = ⊥
Says (name ∷ words) command = (string_bytes name ≡ name_of command) × HasWords command words

-- the number of commits is from 1 to 100,000
abbrev pub IsInRange : Command → Type 0
IsInRange Init = Unit {0}
IsInRange Import = Unit {0}
IsInRange Show = Unit {0}
IsInRange Heads = Unit {0}
IsInRange Audit = Unit {0}
IsInRange Frames = Unit {0}
IsInRange (Gen commits) = (1 ≤ commits) × (commits ≤ 100000)

-- the words are no command
abbrev pub IsNoCommand : {A : Type 0} → List (String A) → Type 0
IsNoCommand words = (command : Command) → Says words command → ⊥
