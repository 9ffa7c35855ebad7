-- What the values of the program stand for.
use Rattle.std.specs.Prelude.{◌≡◌, ◌++◌, ℕ, List, Option, None, Some}
use Rattle.rad_base.specs.declared.names.Oid.{Oid}
use Rattle.rad_base.specs.Order.{IsBelow}
use Rattle.git_object.specs.Grammar.{Commit, Entry, IsEntry, Tag, entry_text, order_key}
use Rattle.git_object.specs.Reading.{entries_in, parents_in}
use Rattle.git_object.specs.declared.entry.TreeEntry.{TreeEntry}
use Rattle.git_object.specs.declared.tree.TreeEntries.{TreeEntries}
use Rattle.git_object.specs.declared.commit.Parents.{Parents}
use Rattle.git_object.specs.declared.commit.CommitParts.{CommitParts}
use Rattle.git_object.specs.declared.named_entry.NamedEntry.{NamedEntry}
use Rattle.git_object.specs.declared.tag.TagParts.{TagParts}

-- an entry, without where its name lies
abbrev pub tree_entry_of : TreeEntry → Entry
tree_entry_of entry = record { mode = entry.mode; name = entry.name.now; oid = entry.oid }

-- an entry that owns its name
abbrev pub entry_named : NamedEntry → Entry
entry_named entry = record { mode = entry.mode; name = entry.name; oid = entry.oid }

-- the entries that an iterator has left
abbrev pub tree_entries_of : TreeEntries → List Entry
tree_entries_of entries = entries_in entries.rest.now

-- the parents that an iterator has left
abbrev pub parents_of : Parents → List Oid
parents_of parents = parents_in parents.rest.now

-- the commit of some parts
abbrev pub commit_of_parts : CommitParts → Commit
commit_of_parts parts = record { tree = parts.tree; parents = parents_of parts.parents; rest = parts.rest.now }

-- the tag of some parts
abbrev pub tag_of : TagParts → Tag
tag_of parts = record { object = parts.object; kind = parts.kind; rest = parts.rest.now }

-- the key of the entry before, where there is one
abbrev pub last_key : Option TreeEntry → Option (List ℕ)
last_key None = None
last_key (Some entry) = Some (order_key (tree_entry_of entry))

-- an entry stands in front of a rest, and may come behind a key
pub record FollowsFrom (last : Option (List ℕ)) (bytes : List ℕ) (entry : TreeEntry) (rest : List ℕ) : Type 0 where
  pub is : IsEntry (tree_entry_of entry)
  pub text : bytes ≡ entry_text (tree_entry_of entry) ++ rest
  pub above : IsBelow last (order_key (tree_entry_of entry))
