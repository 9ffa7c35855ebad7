use Rattle.std.proofs.Common.{◌≡◌, ◌≤◌, List, length, take}
use Rattle.commit_graph.specs.declared.root.Root.{Root}
use Rattle.commit_graph.specs.Many.{AreClosures}
use Rattle.commit_graph.specs.Objects.{ObjectMap}
use Rattle.repo_slice.specs.declared.wanting.Stage.TheVariants.{Tips}
use Rattle.repo_slice.specs.Outcomes.{AreOutcomes, advanced_in}
use Rattle.repo_slice.specs.Parts.{case_in, count_behind}
use Rattle.repo_slice.specs.Rounds.{AreProgress}
use Rattle.repo_slice.proofs.judging.conclude.Given as goal

abbrev pub invariant-loop-i : goal.invariant-loop-i
invariant-loop-i l =
    let stored = l.terms.state.now.remotes in
    record {
      told : (m : ObjectMap) (roots : List Root) → AreClosures m roots l.answers → AreProgress m (case_in l.terms) Tips roots l.pairs l.found
          → AreOutcomes m (case_in l.terms) (length stored) (take l.i l.pairs) l.outcomes;
      long : length (take l.i l.pairs) ≡ length l.outcomes;
      counted : l.count ≡ count_behind stored (length stored) (take l.i l.pairs) l.outcomes;
      few : l.count ≤ 1024;
      advanced : l.advanced ≡ advanced_in (take l.i l.pairs) l.outcomes;
    }
