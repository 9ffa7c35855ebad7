use Rattle.tree_entry.proofs.Growing.{commit_entry_grows, commit_grows, embedded_grows, entry_grows, root_grows}
use Rattle.tree_entry.proofs.laws.entries_stay.Goals as goal

pub returns-clause-commit : goal.returns-clause-commit
returns-clause-commit c = λ old new oid commit grows h. commit_grows grows oid commit h

pub returns-clause-entry : goal.returns-clause-entry
returns-clause-entry c = λ old new tree kind name oid grows h. entry_grows grows tree kind name oid h

pub returns-clause-of_commit : goal.returns-clause-of_commit
returns-clause-of_commit c = λ old new oid kind name found grows h. commit_entry_grows grows oid kind name found h

pub returns-clause-embedded : goal.returns-clause-embedded
returns-clause-embedded c = λ old new oid name blob grows h. embedded_grows grows oid name blob h

pub returns-clause-root : goal.returns-clause-root
returns-clause-root c = λ old new rid oid grows h. root_grows grows rid oid h
