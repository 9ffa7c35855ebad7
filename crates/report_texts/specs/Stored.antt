-- The words of what a store has.
use Rattle.std.specs.Prelude.{ℕ, List, [], ◌++◌, codes, decimal, Option, Some, None}
use Rattle.std.specs.List.{flat_map}
use Rattle.rad_base.specs.declared.names.Nid.{Nid}
use Rattle.rad_base.specs.declared.names.Oid.{Oid}
use Rattle.rad_base.specs.declared.names.Rid.{Rid}
use Rattle.canonical_head.specs.declared.answer.Head.{Head}
use Rattle.report_texts.specs.declared.shown.ShownRemote.{ShownRemote}
use Rattle.report_texts.specs.declared.counts.Counts.{Counts}
use Rattle.report_texts.specs.declared.counts.Generated.{Generated}
use Rattle.report_texts.specs.Texts.{oid_text, rid_text, nid_text, oid_line, number_line, number_text, head_text, head_line}

-- a new store
abbrev pub made_text : List ℕ
made_text = codes "made\n"

-- the identity of a repository, if it has one
abbrev pub identity_line : Option Oid → List ℕ
identity_line None = codes "id none\n"
identity_line (Some oid) = oid_line (codes "id ") oid

-- the first lines of a repository
abbrev pub repository_lines : Rid → Option Oid → List ℕ
repository_lines rid id = oid_line (codes "repo ") rid.0 ++ identity_line id

-- a remote of a repository
abbrev pub shown_line : ShownRemote → List ℕ
shown_line remote =
    codes "remote " ++ nid_text remote.node ++ codes " " ++ oid_text remote.commit ++ codes " "
    ++ decimal remote.lines ++ codes "\n"

-- the remotes of a repository
abbrev pub shown_lines : List ShownRemote → List ℕ
shown_lines remotes = flat_map shown_line remotes

-- what is shown of a repository
pub record ShownRepository : Type 0 where
  pub rid : Rid
  pub id : Option Oid
  pub remotes : List ShownRemote

abbrev pub repository_text : ShownRepository → List ℕ
repository_text one = repository_lines one.rid one.id ++ shown_lines one.remotes

-- some repositories, in order
abbrev pub show_text : List ShownRepository → List ℕ
show_text shown = flat_map repository_text shown

-- a repository and its head
abbrev pub head_of_line : Rid → Head → List ℕ
head_of_line rid found = rid_text rid ++ codes " " ++ head_text found ++ codes "\n"

-- some repositories with their heads, in order
abbrev pub heads_text : List (Rid × Head) → List ℕ
heads_text lines = flat_map (λ line. head_of_line line.0 line.1) lines

-- the counts of a store
abbrev pub audit_text : Counts → List ℕ
audit_text counts =
    number_text (codes "entries ") counts.entries ++ number_text (codes " repositories ") counts.repositories
    ++ number_text (codes " remotes ") counts.remotes ++ number_text (codes " objects ") counts.objects
    ++ number_line (codes " announcements ") counts.announcements

-- the head of a repository, if it has an identity
abbrev pub generated_head : Option Head → List ℕ
generated_head None = []
generated_head (Some found) = head_line found

-- a generated repository
abbrev pub generated_text : Generated → Option Head → List ℕ
generated_text counts found =
    number_line (codes "commits ") counts.commits ++ number_line (codes "objects ") counts.objects
    ++ number_line (codes "entries ") counts.entries ++ generated_head found
