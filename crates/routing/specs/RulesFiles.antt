-- Rules files: which repositories are taken, and whose remotes of them.
use Rattle.std.specs.Prelude.{◌≡◌, ◌⊎◌, ℕ, ◌<◌, ◌≤◌, if◌then◌else◌, Bool, true, false, List, [], ◌∷◌, length, codes, Contains, Option, Some, None, option_map, option_and_then, IsSome}
use Rattle.std.specs.BTreeMap.{is_at}
use Rattle.std.specs.List.{AllByRecursion}
use Rattle.std.specs.Map.{lookup}
use Rattle.std.specs.Option.{option_map_or}
use Rattle.std.specs.Str.{bytes_eq}
use Rattle.hex.specs.Hex.{encode_lower}
use Rattle.serde_json.specs.Data.{Data, Items, Members, no_members, member}
use Rattle.serde_json.specs.Find.{as_array, as_object, as_str, get}
use Rattle.rad_base.specs.Order.{RisesBy, rid_cmp}
use Rattle.rad_base.specs.Sizes.{IsNid, IsOid}
use Rattle.rad_base.specs.declared.names.Nid.{Nid}
use Rattle.rad_base.specs.declared.names.Rid.{Rid}
use Rattle.identity_doc.specs.Documents.{elements}
use Rattle.identity_doc.specs.Texts.{IsJson, IsNoJson}
use Rattle.repo_slice.specs.declared.scope.Scope.{Scope}
use Rattle.repo_slice.specs.declared.scope.Scope.TheVariants as scopes
use Rattle.routing.specs.declared.rule.Policy.{Policy}
use Rattle.routing.specs.declared.rule.Policy.TheVariants.{Allow, Block}
use Rattle.routing.specs.declared.rule.Reach.{Reach}
use Rattle.routing.specs.declared.rule.Reach.TheVariants.{All, Followed}
use Rattle.routing.specs.declared.rule.Rule.{Rule}
use Rattle.routing.specs.declared.rules_fault.Reason.{Reason}
use Rattle.routing.specs.declared.rules_fault.Reason.TheVariants as reason
use Rattle.routing.specs.declared.rules_fault.RulesFault.{RulesFault}
use Rattle.routing.specs.declared.rules_fault.RulesFault.TheVariants.{BadRules, NoMemory}

-- what rules say: what holds of the repositories that are not named, what of those that are, and
-- who is followed
pub record Said : Type 0 where
  pub policy : Policy
  pub reach : Reach
  pub repos : List (Rid × Rule)
  pub follow : List Nid

-- the policy of this word
abbrev pub policy_of : List ℕ → Option Policy
policy_of text =
    if bytes_eq text (codes "allow") then Some Allow
    else if bytes_eq text (codes "block") then Some Block else None

-- the scope of this word
abbrev pub reach_of : List ℕ → Option Reach
reach_of text =
    if bytes_eq text (codes "all") then Some All
    else if bytes_eq text (codes "followed") then Some Followed else None

-- what the text of a member says; where there is no member, what stands for it
abbrev pub said_or : {X : Type 0} → X → (List ℕ → Option X) → Option Data → Option X
said_or absent word None = Some absent
said_or absent word (Some value) = option_and_then word (as_str value)

-- the policy that a value has under this name
abbrev pub policy_at : List ℕ → Policy → Data → Option Policy
policy_at name absent value = said_or absent policy_of (get name value)

-- the scope that a value has
abbrev pub reach_at : Reach → Data → Option Reach
reach_at absent value = said_or absent reach_of (get (codes "scope") value)

-- the rule of a member of `repos`: an object, whose policy is allow and whose scope is the file's
-- where it has none
abbrev pub rule_in : Reach → Data → Option Rule
rule_in file value =
    option_and_then (λ _. option_and_then (λ policy.
    option_map (λ reach. record { policy = policy; reach = reach }) (reach_at file value))
    (policy_at (codes "policy") Allow value)) (as_object value)

-- the names and the values of members, in order
abbrev pub pairs : Members → List (List ℕ × Data)
pairs no_members = []
pairs (member name value more) = (name, value) ∷ pairs more

-- the member is this repository with its rule
pub record IsRepo (file : Reach) (m : List ℕ × Data) (repo : Rid × Rule) : Type 0 where
  pub rid : IsOid repo.0.0
  pub name : m.0 ≡ encode_lower repo.0.0.0
  pub rule : rule_in file m.1 ≡ Some repo.1

-- the member is one of these
abbrev pub IsOneOf : Reach → List (Rid × Rule) → List ℕ × Data → Type 0
IsOneOf file repos m = (repo : Rid × Rule) × IsRepo file m repo × Contains repos repo

-- the members are these repositories with their rules, rising
pub record AreRepos (file : Reach) (ms : List (List ℕ × Data)) (repos : List (Rid × Rule)) : Type 0 where
  pub each : AllByRecursion (IsOneOf file repos) ms
  pub only : (repo : Rid × Rule) → Contains repos repo
      → (m : List ℕ × Data) × Contains ms m × IsRepo file m repo
  pub rising : RisesBy (λ repo. repo.0) rid_cmp repos

-- the same of `repos`, which has none where it is absent
abbrev pub HasRepos : Reach → Option Data → List (Rid × Rule) → Type 0
HasRepos file None repos = repos ≡ []
HasRepos file (Some value) repos =
    (ms : Members) × (as_object value ≡ Some ms) × AreRepos file (pairs ms) repos

-- the elements are the texts of these keys, in order
abbrev pub AreKeys : List Data → List Nid → Type 0
AreKeys [] [] = Unit {0}
AreKeys [] (nid ∷ nids) = ⊥
AreKeys (d ∷ ds) [] = ⊥
AreKeys (d ∷ ds) (nid ∷ nids) = (IsNid nid × (as_str d ≡ Some (encode_lower nid.0))) × AreKeys ds nids

-- the same of `follow`, which has none where it is absent
abbrev pub HasKeys : Option Data → List Nid → Type 0
HasKeys None nids = nids ≡ []
HasKeys (Some value) nids = (items : Items) × (as_array value ≡ Some items) × AreKeys (elements items) nids

-- the value is an object, and its members say this
pub record AreRules (value : Data) (said : Said) : Type 0 where
  pub object : IsSome (as_object value)
  pub policy : policy_at (codes "default") Block value ≡ Some said.policy
  pub reach : reach_at All value ≡ Some said.reach
  pub repos : HasRepos said.reach (get (codes "repos") value) said.repos
  pub follow : HasKeys (get (codes "follow") value) said.follow

-- the bytes are the JSON of a value that says this, and no more than 16,777,216
pub record IsRulesFile (bytes : List ℕ) (said : Said) : Type 0 where
  pub short : length bytes ≤ 16777216
  pub value : Data
  pub json : IsJson bytes value
  pub says : AreRules value said

-- the value is an object of which this is the first member that is wrong
abbrev pub FailsAt : Data → Reason → Type 0
FailsAt value reason.TooLong = ⊥
FailsAt value reason.NotJson = as_object value ≡ None
FailsAt value reason.BadDefault = IsSome (as_object value) × (policy_at (codes "default") Block value ≡ None)
FailsAt value reason.BadScope = IsSome (as_object value) × IsSome (policy_at (codes "default") Block value)
    × (reach_at All value ≡ None)
FailsAt value reason.BadRepos = IsSome (as_object value) × IsSome (policy_at (codes "default") Block value)
    × (reach : Reach) × (reach_at All value ≡ Some reach)
    × ((repos : List (Rid × Rule)) → HasRepos reach (get (codes "repos") value) repos → ⊥)
FailsAt value reason.BadFollow = IsSome (as_object value) × IsSome (policy_at (codes "default") Block value)
    × (reach : Reach) × (reach_at All value ≡ Some reach)
    × (repos : List (Rid × Rule)) × HasRepos reach (get (codes "repos") value) repos
    × ((nids : List Nid) → HasKeys (get (codes "follow") value) nids → ⊥)

-- the bytes are the JSON of a value of which this is the first thing that is wrong
pub record HasBadValue (bytes : List ℕ) (why : Reason) : Type 0 where
  pub value : Data
  pub json : IsJson bytes value
  pub fails : FailsAt value why

-- why bytes are no rules: they are too many, or no JSON, or their value is wrong
abbrev pub IsBadFile : List ℕ → Reason → Type 0
IsBadFile bytes reason.TooLong = 16777216 < length bytes
IsBadFile bytes reason.NotJson = (length bytes ≤ 16777216) × (IsNoJson bytes ⊎ HasBadValue bytes reason.NotJson)
IsBadFile bytes why = (length bytes ≤ 16777216) × HasBadValue bytes why

-- why no rules were read
abbrev pub ExplainsRules : List ℕ → RulesFault → Type 0
ExplainsRules bytes (BadRules why) = IsBadFile bytes why
ExplainsRules bytes NoMemory = Unit {0}

-- why an object is no rules
abbrev pub FailsWith : Data → RulesFault → Type 0
FailsWith value (BadRules why) = FailsAt value why
FailsWith value NoMemory = Unit {0}

-- why no object was read
abbrev pub ExplainsValue : List ℕ → RulesFault → Type 0
ExplainsValue bytes (BadRules reason.NotJson) = IsNoJson bytes ⊎ HasBadValue bytes reason.NotJson
ExplainsValue bytes (BadRules why) = ⊥
ExplainsValue bytes NoMemory = Unit {0}

-- the rule of a repository: that which it has, or else that of all others
abbrev pub rule_for : Said → Rid → Rule
rule_for said rid =
    option_map_or (λ rule. rule) (lookup (is_at (rid_cmp rid)) said.repos)
    (record { policy = said.policy; reach = said.reach })

-- whether this policy allows
abbrev pub is_allow : Policy → Bool
is_allow Allow = true
is_allow Block = false

-- whether a repository is taken
abbrev pub allows : Said → Rid → Bool
allows said rid = is_allow (rule_for said rid).policy

-- whose remotes a scope of this reach wants
abbrev pub scope_by : Reach → List Nid → Scope
scope_by All follow = scopes.All
scope_by Followed follow = scopes.Followed follow

-- whose remotes of a repository are wanted
abbrev pub scope_for : Said → Rid → Scope
scope_for said rid = scope_by (rule_for said rid).reach said.follow
