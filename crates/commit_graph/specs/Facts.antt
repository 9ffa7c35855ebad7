-- What is known of a name that was looked up, and what the test of a pair comes to.
use Rattle.std.specs.Prelude.{◌≡◌, ℕ, ◌+◌, ◌⊎◌, true, false, cond, List, [], Option, Some, None}
use Rattle.std.specs.BTreeMap.{get, is_at}
use Rattle.std.specs.BTreeSet.{BTreeSet, contains}
use Rattle.rad_base.specs.declared.names.Oid.{Oid}
use Rattle.rad_base.specs.Order.{oid_cmp}
use Rattle.git_object.specs.declared.kind.Kind.{Kind}
use Rattle.git_object.specs.declared.link.LinkTo.{LinkTo}
use Rattle.git_object.specs.Links.{IsWellFormed}
use Rattle.commit_graph.specs.declared.root.Root.{Root}
use Rattle.commit_graph.specs.declared.look.Looked.{Looked}
use Rattle.commit_graph.specs.declared.look.Looked.TheVariants as looked
use Rattle.commit_graph.specs.declared.facts.Fact.{Fact}
use Rattle.commit_graph.specs.declared.facts.Fact.TheVariants.{Missing, Malformed, Taken, Waiting}
use Rattle.commit_graph.specs.declared.facts.Facts.{Facts}
use Rattle.commit_graph.specs.Objects.{ObjectMap}
use Rattle.commit_graph.specs.Pairs.{Accepts}
use Rattle.commit_graph.specs.Beyond.{links_in}

-- the name has an object, which is malformed
pub record IsMalformed (objects : ObjectMap) (oid : Oid) : Type 0 where
  pub kind : Kind
  pub bytes : List ℕ
  pub there : objects oid ≡ Some (kind, bytes)
  pub formed : IsWellFormed kind bytes → ⊥

-- the name has an object of this kind, which is well formed
pub record IsFormed (objects : ObjectMap) (oid : Oid) (kind : Kind) : Type 0 where
  pub bytes : List ℕ
  pub there : objects oid ≡ Some (kind, bytes)
  pub formed : IsWellFormed kind bytes

-- the fact is true of the name
abbrev pub IsFact : ObjectMap → Oid → Fact → Type 0
IsFact objects oid Missing = objects oid ≡ None
IsFact objects oid Malformed = IsMalformed objects oid
IsFact objects oid (Taken kind) = IsFormed objects oid kind
IsFact objects oid (Waiting kind found) = IsFormed objects oid kind × (found.items ≡ links_in (objects oid))

-- the same of a name whose links were not taken yet
abbrev pub IsRead : ObjectMap → Oid → Fact → Type 0
IsRead objects oid Missing = objects oid ≡ None
IsRead objects oid Malformed = IsMalformed objects oid
IsRead objects oid (Taken kind) = ⊥
IsRead objects oid (Waiting kind found) = IsFormed objects oid kind × (found.items ≡ links_in (objects oid))

-- what is known of a name
abbrev pub fact_in : Facts → Oid → Option Fact
fact_in facts oid = get oid_cmp facts.by_name oid

-- the pair has an object, of the expected kind
pub record IsAccepted (objects : ObjectMap) (p : Root) : Type 0 where
  pub kind : Kind
  pub bytes : List ℕ
  pub there : objects p.oid ≡ Some (kind, bytes)
  pub expected : Accepts p.kind kind

-- the pair is fit, and these links are followed from it
abbrev pub IsFitWith : Looked → List LinkTo → Type 0
IsFitWith looked.Missing found = ⊥
IsFitWith looked.Unfit found = ⊥
IsFitWith (looked.Fit links) found = links.now ≡ found

-- a pair whose name has an object of this kind is fit with these links, which are taken, or unfit
abbrev pub Takes : Root → Kind → List LinkTo → Fact → Fact → Looked → Type 0
Takes p kind found old new shown =
    (Accepts p.kind kind × IsFitWith shown found × (new ≡ Taken kind))
    ⊎ ((Accepts p.kind kind → ⊥) × (shown ≡ looked.Unfit) × (new ≡ old))

-- what a pair shows by the fact of its name, and the fact that is then known
abbrev pub ShowsFact : Root → Fact → Fact → Looked → Type 0
ShowsFact p Missing new shown = (shown ≡ looked.Missing) × (new ≡ Missing)
ShowsFact p Malformed new shown = (shown ≡ looked.Unfit) × (new ≡ Malformed)
ShowsFact p (Taken kind) new shown = Takes p kind [] (Taken kind) new shown
ShowsFact p (Waiting kind found) new shown = Takes p kind found.items (Waiting kind found) new shown

-- the fact of a name was known, or it was looked up in one step
abbrev pub IsLearned : ObjectMap → Oid → Option Fact → Fact → ℕ → ℕ → Type 0
IsLearned objects oid known fact before after =
    ((known ≡ Some fact) × (after ≡ before)) ⊎ ((known ≡ None) × IsRead objects oid fact × (after ≡ before + 1))

-- a pair was tested by the fact of its name
pub record IsTestedNew (objects : ObjectMap) (p : Root) (old new : Facts) (shown : Looked) (before after : ℕ) : Type 0 where
  pub fact : Fact
  pub then_fact : Fact
  pub learned : IsLearned objects p.oid (fact_in old p.oid) fact before after
  pub shows : ShowsFact p fact then_fact shown
  pub facts : (other : Oid) → fact_in new other ≡ cond (is_at (oid_cmp p.oid) other) (Some then_fact) (fact_in old other)

-- a pair of a known name was tested by the kind of its object
pub record IsTestedKnown (objects : ObjectMap) (known : BTreeSet Oid) (p : Root) (old new : Facts) (shown : Looked) (before after : ℕ) : Type 0 where
  pub known_name : contains oid_cmp known p.oid ≡ true
  pub shows : (IsAccepted objects p × IsFitWith shown []) ⊎ ((IsAccepted objects p → ⊥) × (shown ≡ looked.Unfit))
  pub same : new ≡ old
  pub cost : after ≡ before + 1

-- what the test of a pair comes to, which is one step
abbrev pub IsTested : ObjectMap → BTreeSet Oid → Root → Facts → Facts → Looked → ℕ → ℕ → Type 0
IsTested objects known p old new shown before after =
    IsTestedKnown objects known p old new shown before after
    ⊎ ((contains oid_cmp known p.oid ≡ false) × IsTestedNew objects p old new shown (before + 1) after)
