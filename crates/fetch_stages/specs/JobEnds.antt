-- How a job ends where a call of its keep was refused.
use Rattle.repo_slice.specs.declared.keep_fault.KeepFault.{KeepFault}
use Rattle.repo_slice.specs.declared.keep_fault.KeepFault.TheVariants as fault
use Rattle.fetch_stages.specs.declared.job_end.JobEnd.{JobEnd}
use Rattle.fetch_stages.specs.declared.job_end.JobEnd.TheVariants as ends

-- the end that a refusal makes
abbrev pub end_at : KeepFault → JobEnd
end_at fault.DiskFault = ends.DiskFault
end_at fault.Full = ends.Full
end_at (fault.Changed change) = ends.Changed change
end_at fault.NoMemory = ends.NoMemory
