use Rattle.repo_slice.proofs.Replacing.{one_replaced, replaced_replaces}
use Rattle.repo_slice.proofs.laws.one_list_of_remotes.Goals as goal

pub returns-clause-is : goal.returns-clause-is
returns-clause-is c = λ old advanced r up. replaced_replaces old advanced r up

pub returns-clause-one : goal.returns-clause-one
returns-clause-one c = λ old advanced new r up h. one_replaced old advanced new r up h
