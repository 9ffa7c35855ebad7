-- The number and the text with which a run ends.
use Rattle.std.specs.Prelude.{ℕ, List, ◌++◌, codes, decimal}
use Rattle.rad_node.specs.declared.status.Status.{Status}
use Rattle.rad_node.specs.declared.status.Status.TheVariants.{Ok, Usage, ReadFault, WriteFault, DiskFault, Unmade, Damaged, KeyringBad, InputBad, SomeRefused, Full, NotLegal, AlreadyMade, Changed, NoMemory}
use Rattle.rad_node.specs.declared.status.WhichSource.{WhichSource}
use Rattle.rad_node.specs.declared.status.WhichSource.TheVariants.{Keys, Rules, Input}

-- the number with which the program ends
abbrev pub exit_of : Status → ℕ
exit_of Ok = 0
exit_of Usage = 1
exit_of (ReadFault which) = 2
exit_of WriteFault = 3
exit_of DiskFault = 4
exit_of Unmade = 5
exit_of (Damaged place) = 6
exit_of (KeyringBad line) = 7
exit_of (InputBad place) = 9
exit_of SomeRefused = 10
exit_of Full = 11
exit_of (NotLegal n) = 12
exit_of AlreadyMade = 13
exit_of (Changed change) = 15
exit_of NoMemory = 70

-- the word for a source
abbrev pub source_text : WhichSource → List ℕ
source_text Keys = codes "keys"
source_text Rules = codes "rules"
source_text Input = codes "input"

-- what is printed of a status
abbrev pub status_text : Status → List ℕ
status_text Ok = codes "ok"
status_text Usage = codes "usage"
status_text (ReadFault which) = codes "read fault " ++ source_text which
status_text WriteFault = codes "write fault"
status_text DiskFault = codes "disk fault"
status_text Unmade = codes "unmade"
status_text (Damaged place) = codes "damaged " ++ decimal place
status_text (KeyringBad line) = codes "keyring line " ++ decimal line
status_text (InputBad place) = codes "input " ++ decimal place
status_text SomeRefused = codes "some refused"
status_text Full = codes "full"
status_text (NotLegal n) = codes "not legal " ++ decimal n
status_text AlreadyMade = codes "already made"
status_text (Changed change) = codes "changed " ++ decimal change.place
status_text NoMemory = codes "no memory"
