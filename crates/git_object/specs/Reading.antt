-- What bytes say, read from the front. What spells a value is read as that value.
use Rattle.std.specs.Prelude.{ℕ, zero, suc, ◌==◌, if◌then◌else◌, nat_eq, nat_le, List, [], ◌∷◌, ◌++◌, length, take, drop, codes, Option, None, Some, Result, Ok, Err}
use Rattle.std.specs.Option.{option_or}
use Rattle.std.specs.Cmp.Lexicographic.{pointwise}
use Rattle.hex.specs.Hex.{decode_sized, encode_lower}
use Rattle.hex.specs.declared.error.FromHexError.{FromHexError}
use Rattle.rad_base.specs.declared.names.Oid.{Oid}
use Rattle.git_object.specs.Grammar.{Commit, Entry, Tag, mode_text, parents_text, type_line}
use Rattle.git_object.specs.declared.kind.Kind.{Kind}
use Rattle.git_object.specs.declared.kind.Kind.TheVariants as kinds
use Rattle.git_object.specs.declared.mode.Mode.{Mode}
use Rattle.git_object.specs.declared.mode.Mode.TheVariants.{File, Executable, GroupFile, Symlink, Directory, Gitlink}

-- the second step, where the first one read something
infixl 10 ◌>>=◌
abbrev pub ◌>>=◌ : {A B : Type 0} → Option A → (A → Option B) → Option B
(Some x) >>= f = f x
None >>= f = None

-- what stands behind a word
abbrev pub behind : List ℕ → List ℕ → Option (List ℕ)
behind [] bytes = Some bytes
behind (w ∷ word) [] = None
behind (w ∷ word) (b ∷ bytes) = if b == w then behind word bytes else None

-- the first of some values whose text stands at the front
abbrev pub first_among : {A : Type 0} → (A → List ℕ) → List A → List ℕ → Option (A × List ℕ)
first_among text [] bytes = None
first_among text (x ∷ xs) bytes = option_or (behind (text x) bytes >>= λ rest. Some (x, rest)) (first_among text xs bytes)

-- what was read, and more from what stands behind it
abbrev pub then_more : {A : Type 0} → Option (A × List ℕ) → (List ℕ → List A) → List A
then_more None more = []
then_more (Some r) more = r.0 ∷ more r.1

-- the values that stand at the front one behind the other, at most n
abbrev pub items_within : {A : Type 0} → (List ℕ → Option (A × List ℕ)) → ℕ → List ℕ → List A
items_within front zero bytes = []
items_within front (suc n) bytes = then_more (front bytes) (λ rest. items_within front n rest)

-- the values that stand at the front one behind the other
abbrev pub items_in : {A : Type 0} → (List ℕ → Option (A × List ℕ)) → List ℕ → List A
items_in front bytes = items_within front (length bytes) bytes

-- a mode's text and the space behind it
abbrev pub mode_front : List ℕ → Option (Mode × List ℕ)
mode_front bytes =
    first_among (λ mode. mode_text mode ++ codes " ")
    (File ∷ Executable ∷ GroupFile ∷ Symlink ∷ Directory ∷ Gitlink ∷ []) bytes

-- the bytes before the first NUL, none of them `/`
abbrev pub before_nul : List ℕ → Option (List ℕ × List ℕ)
before_nul [] = None
before_nul (b ∷ bytes) =
    if b == 0 then Some ([], bytes)
    else if b == 47 then None
    else (before_nul bytes >>= λ r. Some (b ∷ r.0, r.1))

-- the same, at least one
abbrev pub name_front : List ℕ → Option (List ℕ × List ℕ)
name_front bytes = before_nul bytes >>= λ r. if nat_le 1 (length r.0) then Some r else None

-- the first 20 bytes
abbrev pub oid_front : List ℕ → Option (Oid × List ℕ)
oid_front bytes = if nat_le 20 (length bytes) then Some (record { 0 = take 20 bytes }, drop 20 bytes) else None

-- an entry of a tree
unfoldable pub entry_front : List ℕ → Option (Entry × List ℕ)
entry_front bytes = do
  m ← mode_front bytes
  n ← name_front m.1
  o ← oid_front n.1
  Some (record { mode = m.0; name = n.0; oid = o.0 }, o.1)

-- the entries of a tree
unfoldable pub entries_in : List ℕ → List Entry
entries_in bytes = items_in entry_front bytes

-- the bytes that were read from a text of digits, where these are its lower case digits
abbrev pub if_lower : List ℕ → Result (List ℕ) FromHexError → Option (List ℕ)
if_lower text (Ok bytes) = if pointwise nat_eq (encode_lower bytes) text then Some bytes else None
if_lower text (Err e) = None

-- a name in 40 digits
abbrev pub oid_text_front : List ℕ → Option (Oid × List ℕ)
oid_text_front bytes =
    if_lower (take 40 bytes) (decode_sized (take 40 bytes) 20) >>= λ raw. Some (record { 0 = raw }, drop 40 bytes)

-- a line of a word and a name
unfoldable pub line_front : List ℕ → List ℕ → Option (Oid × List ℕ)
line_front word bytes = do
  digits ← behind word bytes
  o ← oid_text_front digits
  rest ← behind (10 ∷ []) o.1
  Some (o.0, rest)

-- the parents at the front
unfoldable pub parents_in : List ℕ → List Oid
parents_in bytes = items_in (line_front (codes "parent ")) bytes

-- the commit of a tree whose parents and rest these bytes are
abbrev pub commit_from : Oid → List ℕ → Commit
commit_from tree bytes =
    record { tree = tree; parents = parents_in bytes; rest = drop (length (parents_text (parents_in bytes))) bytes }

-- a commit
unfoldable pub commit_in : List ℕ → Option Commit
commit_in bytes = do
  t ← line_front (codes "tree ") bytes
  Some (commit_from t.0 t.1)

-- a line of a kind
abbrev pub type_front : List ℕ → Option (Kind × List ℕ)
type_front bytes = first_among type_line (kinds.Blob ∷ kinds.Tree ∷ kinds.Commit ∷ kinds.Tag ∷ []) bytes

-- a tag
unfoldable pub tag_in : List ℕ → Option Tag
tag_in bytes = do
  o ← line_front (codes "object ") bytes
  k ← type_front o.1
  Some (record { object = o.0; kind = k.0; rest = k.1 })
