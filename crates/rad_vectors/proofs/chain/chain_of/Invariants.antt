use Rattle.std.proofs.Common.{◌≡◌}
use Rattle.rad_vectors.specs.Chains.{chain_commits, chain_objects, tip_of}
use Rattle.rad_vectors.specs.Shown.{all_shown}
use Rattle.rad_vectors.proofs.chain.chain_of.Given as goal

abbrev pub invariant-numbers : goal.invariant-numbers
invariant-numbers l =
    record {
      objects : all_shown l.objects.items ≡ chain_objects l.k;
      commits : l.commits.items ≡ chain_commits l.k;
      before : l.before ≡ tip_of l.k;
    }
