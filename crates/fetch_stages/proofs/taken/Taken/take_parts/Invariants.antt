use Rattle.std.proofs.Common.{◌≡◌, length}
use Rattle.std.specs.Option.{option_or}
use Rattle.repo_entries.specs.Batches.{AreContents}
use Rattle.repo_slice.specs.Keeps.{LeavesOthers}
use Rattle.fetch_stages.specs.Sections.{head_of, objects_among}
use Rattle.fetch_stages.proofs.Joining.{HasCome}
use Rattle.fetch_stages.proofs.taken.Taken.take_parts.Given as goal

abbrev pub invariant-taking : goal.invariant-taking
invariant-taking g l = record {
  leaves : LeavesOthers g.K.Keep.constants g.K.Keep.loan g.K.Keep.faults g.K.Keep.held
      l.rid l.initial.keep l.keep;
  sizes : AreContents (objects_among l.parts);
  came : HasCome g.K.Keep.made g.K.Keep.held l.rid (g.K.Keep.constants l.initial.keep).caller
      l.initial.keep l.keep l.initial.self.batcher (objects_among l.initial.parts)
      (objects_among l.parts) l.self.batcher;
  head : option_or l.self.head (head_of l.parts)
      ≡ option_or l.initial.self.head (head_of l.initial.parts);
}

abbrev pub decreases-taking : goal.decreases-taking
decreases-taking g l = length l.parts
