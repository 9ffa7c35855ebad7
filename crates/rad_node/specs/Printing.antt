-- What the commands print of an open store.
use Rattle.std.specs.Prelude.{◌≡◌, ◌⊎◌, ℕ, List}
use Rattle.keyring.specs.Contents.{Contents}
use Rattle.repo_entries.specs.Items.{Item}
use Rattle.store_reports.specs.Reports.{IsAuditReport, IsHeadsReport, IsShowReport}
use Rattle.rad_node.specs.Statuses.{AreGood, Files}
use Rattle.rad_node.specs.declared.command.Command.{Command}
use Rattle.rad_node.specs.declared.command.Command.TheVariants as command
use Rattle.rad_node.specs.declared.printing.Report.{Report}
use Rattle.rad_node.specs.declared.printing.Report.TheVariants.{Show, Heads, Audit}
use Rattle.rad_node.specs.declared.status.Status.{Status}
use Rattle.rad_node.specs.declared.status.Status.TheVariants.{Ok, WriteFault, NoMemory}

-- the command that prints a report
abbrev pub command_for : Report → Command
command_for Show = command.Show
command_for Heads = command.Heads
command_for Audit = command.Audit

-- what a report says of a store's entries
abbrev pub IsReportOf : Report → Contents → List Item → List ℕ → Type 0
IsReportOf Show keyring items text = IsShowReport items text
IsReportOf Heads keyring items text = IsHeadsReport keyring items text
IsReportOf Audit keyring items text = IsAuditReport items text

-- the end of a run that prints
abbrev pub IsPrintingEnd : Type 0 → Status → Type 0
IsPrintingEnd out status = (status ≡ Ok) ⊎ ((status ≡ WriteFault) × out) ⊎ (status ≡ NoMemory)

-- the report of the store's entries was given
pub record Printed (which : Report) (files : Files) (gives : List ℕ → Type 0) : Type 0 where
  pub keyring : Contents
  pub stored : List Item
  pub good : AreGood files keyring stored
  pub text : List ℕ
  pub is : IsReportOf which keyring stored text
  pub given : gives text
