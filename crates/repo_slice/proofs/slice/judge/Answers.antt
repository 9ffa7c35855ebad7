use Rattle.repo_slice.specs.Slices.{objects_of}
use Rattle.repo_slice.proofs.MemoryAlone.{memory_alone}
use Rattle.repo_slice.proofs.slice.judge.Goals as goal

pub returns-clause-fault : goal.returns-clause-fault
returns-clause-fault c = memory_alone (objects_of c.args.slice.now) _ c.judge_over.result c.judge_over.ensures.keeps.cause
