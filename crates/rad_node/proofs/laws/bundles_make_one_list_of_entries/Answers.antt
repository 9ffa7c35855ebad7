use Rattle.rad_node.proofs.Entries.{one_entries, some_entries}
use Rattle.rad_node.proofs.laws.bundles_make_one_list_of_entries.Goals as goal

pub returns-clause-some : goal.returns-clause-some
returns-clause-some c = some_entries

pub returns-clause-one : goal.returns-clause-one
returns-clause-one c = one_entries
