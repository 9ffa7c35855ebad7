-- Identity documents: what a JSON value says of who may speak for a repository and who sees it.
use Rattle.std.specs.Prelude.{◌≡◌, ℕ, ◌≤◌, ◌&&◌, nat_le, if◌then◌else◌, Bool, List, [], ◌∷◌, ◌++◌, length, map, codes, Contains, ◌⊎◌, Option, Some, None, option_map, option_and_then, ok_or, Result, Ok, Err}
use Rattle.std.specs.List.{list_any}
use Rattle.std.specs.Str.{bytes_eq}
use Rattle.serde_json.specs.Data.{Data, object, Items, no_items, item, Num}
use Rattle.serde_json.specs.Find.{get, as_array, as_number, as_object, as_str, as_u64}
use Rattle.rad_base.specs.Lists.{AllDiffer}
use Rattle.rad_base.specs.declared.names.Nid.{Nid}
use Rattle.keyring.specs.Contents.{Contents, key_of}
use Rattle.ref_name.specs.Rules.{KeepsRules}
use Rattle.identity_doc.specs.declared.doc.Doc.{Doc}
use Rattle.identity_doc.specs.declared.visibility.Visibility.{Visibility}
use Rattle.identity_doc.specs.declared.visibility.Visibility.TheVariants.{Public, Private}
use Rattle.identity_doc.specs.declared.fault.DocFault.{DocFault}
use Rattle.identity_doc.specs.declared.fault.DocFault.TheVariants.{NoField, BadCount, BadDelegate, Twice, BadThreshold, BadVisibility}
use Rattle.identity_doc.specs.declared.fault.Field.TheVariants.{Delegates, Threshold, Payload}

-- the next check, where this one passes
infixl 10 ◌>>=◌
abbrev pub ◌>>=◌ : {A B : Type 0} → Result A DocFault → (A → Result B DocFault) → Result B DocFault
(Ok x) >>= check = check x
(Err fault) >>= check = Err fault

-- the elements of an array, in order
abbrev pub elements : Items → List Data
elements no_items = []
elements (item d ds) = d ∷ elements ds

-- the elements of the array that a value has under a name
abbrev pub array_at : List ℕ → Data → Option (List Data)
array_at name value = option_map elements (option_and_then as_array (get name value))

-- the key for which an element stands: that of its text
abbrev pub key_in : Contents → Data → Option Nid
key_in keyring element = option_and_then (key_of keyring) (as_str element)

-- whether a key is one of these
abbrev pub is_among : List Nid → Nid → Bool
is_among keys key = list_any (λ other. bytes_eq other.0 key.0) keys

-- 1. the array of the delegates
abbrev pub delegate_elements : Data → Result (List Data) DocFault
delegate_elements value = ok_or (array_at (codes "delegates") value) (NoField Delegates)

-- 2. it has 1 to 255 elements
abbrev pub counted_elements : List Data → Result (List Data) DocFault
counted_elements ds = if nat_le 1 (length ds) && nat_le (length ds) 255 then Ok ds else Err (BadCount (length ds))

-- the key of the next element, which is none of those before
abbrev pub next_key : List Nid → Option Nid → Result Nid DocFault
next_key before None = Err (BadDelegate (length before))
next_key before (Some key) = if is_among before key then Err (Twice (length before)) else Ok key

-- these keys and those of the elements behind them, up to the first element that fails
abbrev pub keys_behind : List Nid → List (Option Nid) → Result (List Nid) DocFault
keys_behind before [] = Ok before
keys_behind before (next ∷ rest) = next_key before next >>= λ key. keys_behind (before ++ key ∷ []) rest

-- 3. each element has a key, which no element before it has
abbrev pub element_keys : Contents → List Data → Result (List Nid) DocFault
element_keys keyring ds = keys_behind [] (map (key_in keyring) ds)

-- 4. the number that is the threshold
abbrev pub threshold_number : Data → Result Num DocFault
threshold_number value = ok_or (option_and_then as_number (get (codes "threshold") value)) (NoField Threshold)

-- a number from 1 to n
abbrev pub within : ℕ → ℕ → Option ℕ
within n number = if nat_le 1 number && nat_le number n then Some number else None

-- 5. it is an integer from 1 to the number of delegates
abbrev pub threshold_within : ℕ → Num → Result ℕ DocFault
threshold_within n number = ok_or (option_and_then (within n) (as_u64 number)) BadThreshold

-- the value, if it is an object
abbrev pub object_in : Data → Option Data
object_in value = option_map object (as_object value)

-- 6. the object that is the payload
abbrev pub payload_object : Data → Result Data DocFault
payload_object value = ok_or (option_and_then object_in (get (codes "payload") value)) (NoField Payload)

-- all of the keys, if none is missing
abbrev pub all_of : List (Option Nid) → Option (List Nid)
all_of [] = Some []
all_of (None ∷ keys) = None
all_of (Some key ∷ keys) = option_map (λ rest. key ∷ rest) (all_of keys)

-- those whom a private repository allows: none where nothing is said
abbrev pub allowed : Contents → Option Data → Option (List Nid)
allowed keyring None = Some []
allowed keyring (Some value) =
    option_and_then (λ ds. all_of (map (key_in keyring) (elements ds))) (as_array value)

-- the visibility of this type
abbrev pub of_type : Contents → Data → List ℕ → Option Visibility
of_type keyring value type =
    if bytes_eq type (codes "public") then Some Public
    else if bytes_eq type (codes "private") then option_map Private (allowed keyring (get (codes "allow") value))
    else None

-- the visibility that is said, public where nothing is
abbrev pub said_visibility : Contents → Option Data → Option Visibility
said_visibility keyring None = Some Public
said_visibility keyring (Some value) =
    option_and_then (of_type keyring value) (option_and_then as_str (get (codes "type") value))

-- 7. it is absent, or public, or private with keys that are allowed
abbrev pub visibility_of : Contents → Data → Result Visibility DocFault
visibility_of keyring value = ok_or (said_visibility keyring (get (codes "visibility") value)) BadVisibility

-- what the checks read
pub record Checked : Type 0 where
  pub delegates : List Nid
  pub threshold : ℕ
  pub payload : Data
  pub visibility : Visibility

-- what the seven checks read, or the first of them that fails
abbrev pub checked : Data → Contents → Result Checked DocFault
checked value keyring = do
  all ← delegate_elements value
  some ← counted_elements all
  delegates ← element_keys keyring some
  number ← threshold_number value
  threshold ← threshold_within (length delegates) number
  payload ← payload_object value
  visibility ← visibility_of keyring value
  Ok (record {
    delegates = delegates;
    threshold = threshold;
    payload = payload;
    visibility = visibility;
  })

-- the text that a payload has for the default branch
abbrev pub branch_text : Data → Option (List ℕ)
branch_text payload =
    option_and_then as_str
    (option_and_then (get (codes "defaultBranch")) (get (codes "xyz.radicle.project") payload))

-- the default branch of a payload: its text, where Git allows the name of the branch, and else none
abbrev pub IsBranch : Data → Option (List ℕ) → Type 0
IsBranch payload None = (name : List ℕ) → branch_text payload ≡ Some name → KeepsRules (codes "refs/heads/" ++ name) → ⊥
IsBranch payload (Some name) = (branch_text payload ≡ Some name) × KeepsRules (codes "refs/heads/" ++ name)

-- the value passes the seven checks, and it is this document
pub record IsDocument (value : Data) (keyring : Contents) (doc : Doc) : Type 0 where
  pub payload : Data
  pub passes : checked value keyring ≡ Ok (record {
    delegates = doc.delegates;
    threshold = doc.threshold;
    payload = payload;
    visibility = doc.visibility;
  })
  pub branch : IsBranch payload doc.default_branch

-- 1 to 255 different delegates, and a threshold that they can reach
pub record CanDecide (doc : Doc) : Type 0 where
  pub differ : AllDiffer doc.delegates
  pub few : length doc.delegates ≤ 255
  pub low : 1 ≤ doc.threshold
  pub high : doc.threshold ≤ length doc.delegates

-- this check is the first that the value fails
abbrev pub IsRefused : Data → Contents → DocFault → Type 0
IsRefused value keyring fault = checked value keyring ≡ Err fault

-- the visibility lets a node see the repository, be it a delegate or not
abbrev pub IsOpenTo : Visibility → Nid → Type 0
IsOpenTo Public asker = Unit {0}
IsOpenTo (Private nids) asker = Contains nids asker

-- a node sees the repository: it is public, or the node is a delegate or allowed
abbrev pub Sees : Doc → Nid → Type 0
Sees doc asker = Contains doc.delegates asker ⊎ IsOpenTo doc.visibility asker
