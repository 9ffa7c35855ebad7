-- The words of a job: a text is a list of lines, and a line ends with a line feed. Names are in lower case hexadecimal,
-- numbers in decimal, and one space stands between words.
use Rattle.std.specs.Prelude.{ℕ, List, [], ◌++◌, codes, decimal, Option, Some, None}
use Rattle.std.specs.List.{flat_map}
use Rattle.hex.specs.Hex.{encode_lower}
use Rattle.rad_base.specs.Order.{commit_of}
use Rattle.rad_base.specs.declared.names.Nid.{Nid}
use Rattle.rad_base.specs.declared.names.Oid.{Oid}
use Rattle.rad_base.specs.declared.names.Rid.{Rid}
use Rattle.commit_graph.specs.declared.fault.Changed.{Changed}
use Rattle.canonical_head.specs.declared.answer.Head.{Head}
use Rattle.canonical_head.specs.declared.answer.Head.TheVariants as head
use Rattle.repo_entries.specs.declared.whole.Whole.{Whole}
use Rattle.repo_entries.specs.declared.whole.Whole.TheVariants as whole
use Rattle.repo_slice.specs.declared.outcomes.Outcome.{Outcome}
use Rattle.repo_slice.specs.declared.outcomes.Outcome.TheVariants as outcome
use Rattle.repo_slice.specs.declared.verdict.IdOutcome.{IdOutcome}
use Rattle.repo_slice.specs.declared.verdict.IdOutcome.TheVariants as identity
use Rattle.repo_slice.specs.declared.verdict.Judged.{Judged}
use Rattle.fetch_stages.specs.declared.job_end.JobEnd.{JobEnd}
use Rattle.fetch_stages.specs.declared.job_end.JobEnd.TheVariants as ends

abbrev pub oid_text : Oid → List ℕ
oid_text oid = encode_lower oid.0

abbrev pub rid_text : Rid → List ℕ
rid_text rid = encode_lower rid.0.0

abbrev pub nid_text : Nid → List ℕ
nid_text nid = encode_lower nid.0

-- a word and a number
abbrev pub number_text : List ℕ → ℕ → List ℕ
number_text word number = word ++ decimal number

-- a line of a word and a name
abbrev pub oid_line : List ℕ → Oid → List ℕ
oid_line word oid = word ++ oid_text oid ++ codes "\n"

-- a line of a word and a number
abbrev pub number_line : List ℕ → ℕ → List ℕ
number_line word number = number_text word number ++ codes "\n"

-- a canonical head
abbrev pub head_text : Head → List ℕ
head_text (head.At oid) = codes "at " ++ oid_text oid
head_text head.NoQuorum = codes "none"
head_text (head.Diverging one other) = codes "diverging " ++ oid_text one ++ codes " " ++ oid_text other
head_text head.NoBranch = codes "no-branch"

-- what became of an identity
abbrev pub id_outcome_text : IdOutcome → List ℕ
id_outcome_text identity.First = codes "first"
id_outcome_text identity.Same = codes "same"
id_outcome_text identity.Stale = codes "stale"
id_outcome_text identity.Advanced = codes "advanced"

-- a remote that advances, and the commit that it advances to
abbrev pub advanced_text : Option Oid → List ℕ
advanced_text None = codes "advanced"
advanced_text (Some oid) = codes "advanced " ++ oid_text oid

-- what became of a remote, by the commit that it advances to
abbrev pub outcome_text : Outcome → Option Oid → List ℕ
outcome_text outcome.OutOfScope commit = codes "out-of-scope"
outcome_text outcome.Same commit = codes "same"
outcome_text outcome.Stale commit = codes "stale"
outcome_text (outcome.Missing oid) commit = codes "missing " ++ oid_text oid
outcome_text (outcome.BadObject oid) commit = codes "bad-object " ++ oid_text oid
outcome_text outcome.BadSigrefs commit = codes "bad-sigrefs"
outcome_text outcome.NotAccepted commit = codes "not-accepted"
outcome_text outcome.Grafted commit = codes "grafted"
outcome_text outcome.Forked commit = codes "forked"
outcome_text (outcome.Incomplete oid) commit = codes "incomplete " ++ oid_text oid
outcome_text outcome.Crowded commit = codes "crowded"
outcome_text outcome.Advanced commit = advanced_text commit

-- so many delegates have a remote, where so many are needed
abbrev pub few_text : ℕ → ℕ → List ℕ
few_text have need = number_text (codes "too-few-delegates ") have ++ number_text (codes " ") need

-- why an offer was refused whole
abbrev pub whole_text : Whole → List ℕ
whole_text whole.IdForked = codes "id-forked"
whole_text (whole.IdFault why) = codes "id-fault"
whole_text (whole.TooFewDelegates have need) = few_text have need

-- how a job ended
abbrev pub end_text : JobEnd → List ℕ
end_text (ends.Done judged found) = codes "done"
end_text (ends.Refused why) = whole_text why
end_text ends.TooLong = codes "too-long"
end_text ends.DiskFault = codes "disk-fault"
end_text ends.Full = codes "full"
end_text (ends.Changed change) = number_text (codes "changed ") change.place
end_text ends.NoMemory = codes "no-memory"

-- the first line of a job's block
abbrev pub job_line : Rid → JobEnd → List ℕ
job_line rid end = codes "job " ++ rid_text rid ++ codes " " ++ end_text end ++ codes "\n"

-- what became of the identity, and the next one
abbrev pub id_line : IdOutcome → Oid → List ℕ
id_line became next = codes "id " ++ id_outcome_text became ++ codes " " ++ oid_text next ++ codes "\n"

-- what became of a remote
abbrev pub outcome_line : Nid → Outcome → Option Oid → List ℕ
outcome_line node became commit =
    codes "remote " ++ nid_text node ++ codes " " ++ outcome_text became commit ++ codes "\n"

-- what became of a remote, with its commit among the advanced ones
abbrev pub remote_line : List (Nid × Oid) → Nid × Outcome → List ℕ
remote_line advanced remote = outcome_line remote.0 remote.1 (commit_of advanced remote.0)

-- a line for each offered remote
abbrev pub remote_lines : List (Nid × Oid) → List (Nid × Outcome) → List ℕ
remote_lines advanced remotes = flat_map (remote_line advanced) remotes

abbrev pub head_line : Head → List ℕ
head_line found = codes "head " ++ head_text found ++ codes "\n"

-- the lines of an offer that was judged, behind the first
abbrev pub done_lines : Judged → Head → List ℕ
done_lines judged found =
    id_line judged.id_outcome judged.next_id ++ remote_lines judged.advanced judged.outcomes ++ head_line found

-- the lines behind the first
abbrev pub end_lines : JobEnd → List ℕ
end_lines (ends.Done judged found) = done_lines judged found
end_lines other = []

-- the block of a job
abbrev pub job_text : Rid → JobEnd → List ℕ
job_text rid end = job_line rid end ++ end_lines end
