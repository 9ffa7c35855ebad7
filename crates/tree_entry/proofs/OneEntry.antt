-- A tree has at most one entry of a name that links to objects of a kind.
use Rattle.std.proofs.Common.{◌≡◌, ℕ, List, [], ◌∷◌, Option, Some, None, refl, sym, ap, subst, ◌∙◌, ⊎_elim}
use Rattle.std.specs.Prelude.{Contains}
use Rattle.std.specs.Ordering.{nat_cmp}
use Rattle.std.specs.Cmp.Lexicographic.{slice_cmp}
use Rattle.std.specs.declared.cmp.Ordering.TheVariants.{Less}
use Rattle.std.proofs.lemmas.Cmp.{nat_list_cmp_total}
use Rattle.rad_base.specs.declared.names.Oid.{Oid}
use Rattle.git_object.specs.Grammar.{Commit, Entry, IsRisingFrom, order_key, slash_of}
use Rattle.git_object.specs.Links.{kind_of}
use Rattle.git_object.specs.declared.kind.Kind.{Kind}
use Rattle.git_object.specs.declared.kind.Kind.TheVariants as kinds
use Rattle.git_object.specs.declared.mode.Mode.{Mode}
use Rattle.git_object.specs.declared.mode.Mode.TheVariants.{File, Executable, GroupFile, Symlink, Directory, Gitlink}
use Rattle.git_object.proofs.Commits.{one_commit}
use Rattle.rad_base.proofs.Options.{some_is}
use Rattle.git_object.proofs.TreeTexts.{one_tree}
use Rattle.commit_graph.specs.Objects.{Object, ObjectMap}
use Rattle.rad_base.proofs.NameOrder.{not_below_itself}
use Rattle.rad_base.proofs.Members.{contains_nothing, contains_cases}
use Rattle.tree_entry.specs.Entries.{HasCommit, HasCommitEntry, HasEntry, IsEntryIn}
use Rattle.tree_entry.specs.Embedded.{HasEmbedded}

-- the slash behind the name of what links to a tree
abbrev slash_by : Option Kind → List ℕ
slash_by None = []
slash_by (Some kinds.Blob) = []
slash_by (Some kinds.Tree) = 47 ∷ []
slash_by (Some kinds.Commit) = []
slash_by (Some kinds.Tag) = []

slash_is : (mode : Mode) → slash_of mode ≡ slash_by (kind_of mode)
slash_is File = refl
slash_is Executable = refl
slash_is GroupFile = refl
slash_is Symlink = refl
slash_is Directory = refl
slash_is Gitlink = refl

-- entries of one name and kind have one key
one_key : (e f : Entry) → e.name ≡ f.name → kind_of e.mode ≡ kind_of f.mode → order_key e ≡ order_key f
one_key e f name kind = rw (name, slash_is e.mode, slash_is f.mode, kind) refl

-- a key is below those of all later entries
below_later : (e : Entry) (entries : List Entry) (f : Entry) → IsRisingFrom (Some (order_key e)) entries → Contains entries f
    → slice_cmp nat_cmp (order_key e) (order_key f) ≡ Less
below_later e [] f rising h = absurd (contains_nothing f h)
below_later e (x ∷ entries) f rising h =
    ⊎_elim
    (λ first. subst (λ (y : Entry). slice_cmp nat_cmp (order_key e) (order_key y) ≡ Less) first rising.0)
    (λ later. nat_list_cmp_total.trans (order_key e) (order_key x) (order_key f) rising.0 (below_later x entries f rising.1 later))
    (contains_cases x entries f h)

-- an entry has not the key of a later one
not_later : (e : Entry) (entries : List Entry) (f : Entry) → IsRisingFrom (Some (order_key e)) entries → Contains entries f
    → order_key e ≡ order_key f → ⊥
not_later e entries f rising h same =
    not_below_itself (order_key f) (subst (λ (key : List ℕ). slice_cmp nat_cmp key (order_key f) ≡ Less) same (below_later e entries f rising h))

-- entries of one key are one
one_of_key : (before : Option (List ℕ)) (entries : List Entry) (e f : Entry) → IsRisingFrom before entries → Contains entries e → Contains entries f
    → order_key e ≡ order_key f → e ≡ f
one_of_key before [] e f rising h k same = absurd (contains_nothing e h)
one_of_key before (x ∷ entries) e f rising h k same =
    ⊎_elim
    (λ first. ⊎_elim
    (λ other. sym first ∙ other)
    (λ later. absurd (not_later x entries f rising.1 later (ap order_key first ∙ same)))
    (contains_cases x entries f k))
    (λ behind. ⊎_elim
    (λ other. absurd (not_later x entries e rising.1 behind (ap order_key other ∙ sym same)))
    (λ later. one_of_key (Some (order_key x)) entries e f rising.1 behind later same)
    (contains_cases x entries f k))
    (contains_cases x entries e h)

-- the bytes of a tree have one such entry
pub one_entry_in : (bytes : List ℕ) (kind : Kind) (name : List ℕ) (a b : Oid) → IsEntryIn bytes kind name a → IsEntryIn bytes kind name b → a ≡ b
one_entry_in bytes kind name a b h k =
    let entries = one_tree h.entries k.entries bytes h.spells k.spells in
    let among = subst (λ (es : List Entry). Contains es k.is.entry) (sym entries) k.is.among in
    let key = one_key h.is.entry k.is.entry (h.is.named ∙ sym k.is.named) (h.is.linked ∙ sym k.is.linked) in
    let entry = one_of_key None h.entries h.is.entry k.is.entry h.spells.rising h.is.among among key in
    sym h.is.is ∙ ap (λ (e : Entry). e.oid) entry ∙ k.is.is

-- an object has one content
pub one_content : (o : Option Object) (kind : Kind) (a b : List ℕ) → o ≡ Some (kind, a) → o ≡ Some (kind, b) → a ≡ b
one_content o kind a b h k = ap (λ (object : Object). object.1) (some_is (kind, a) (kind, b) (sym h ∙ k))

-- a tree has one such entry
pub one_entry : (objects : ObjectMap) (tree : Oid) (kind : Kind) (name : List ℕ) (a b : Oid) → HasEntry objects tree kind name a → HasEntry objects tree kind name b → a ≡ b
one_entry objects tree kind name a b h k =
    let bytes = one_content (objects tree) kinds.Tree h.bytes k.bytes h.there k.there in
    one_entry_in h.bytes kind name a b h.is (subst (λ (l : List ℕ). IsEntryIn l kind name b) (sym bytes) k.is)

-- a name has one commit
pub one_commit_of : (objects : ObjectMap) (oid : Oid) (a b : Commit) → HasCommit objects oid a → HasCommit objects oid b → a ≡ b
one_commit_of objects oid a b h k =
    let bytes = one_content (objects oid) kinds.Commit h.bytes k.bytes h.there k.there in
    one_commit a b h.bytes h.spells (rw bytes k.spells)

-- the tree of a commit has one such entry
pub one_commit_entry : (objects : ObjectMap) (oid : Oid) (kind : Kind) (name : List ℕ) (a b : Oid) → HasCommitEntry objects oid kind name a → HasCommitEntry objects oid kind name b → a ≡ b
one_commit_entry objects oid kind name a b h k =
    let commit = one_commit_of objects oid h.commit k.commit h.has k.has in
    one_entry objects h.commit.tree kind name a b h.entry
    (subst (λ (c : Commit). HasEntry objects c.tree kind name b) (sym commit) k.entry)

-- a commit embeds one blob of a name
pub one_embedded : (objects : ObjectMap) (oid : Oid) (name : List ℕ) (a b : Oid) → HasEmbedded objects oid name a → HasEmbedded objects oid name b → a ≡ b
one_embedded objects oid name a b h k =
    let embeds = one_commit_entry objects oid kinds.Tree _ h.embeds k.embeds h.directory k.directory in
    one_entry objects h.embeds kinds.Blob name a b h.entry
    (subst (λ (o : Oid). HasEntry objects o kinds.Blob name b) (sym embeds) k.entry)
