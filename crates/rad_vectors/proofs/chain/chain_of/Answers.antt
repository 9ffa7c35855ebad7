use Rattle.std.proofs.Common.{◌≡◌, ◌++◌, ◌∷◌, [], ℕ, suc, ◌+◌, List, ap, sym, ◌∙◌, arith}
use Rattle.std.specs.Prelude.{Option, None, Some}
use Rattle.rad_base.specs.declared.names.Oid.{Oid}
use Rattle.fetch_wire.specs.Sections.{Object}
use Rattle.rad_vectors.specs.Chains.{chain_commits, chain_objects, number_commit, number_objects, tip_of}
use Rattle.rad_vectors.specs.Objects.{object_name}
use Rattle.rad_vectors.proofs.chain.chain_of.Goals as goal

pub numbers-preserved : goal.numbers-preserved
unfolding chain_objects tip_of chain_commits
numbers-preserved c =
    let k : ℕ = c.numbers.k in
    let e : suc k ≡ k + 1 = omega arith in
    let name : c.in_ok-oid.oid ≡ object_name (number_commit (suc k) None (tip_of k)) =
    c.in_ok-oid.ensures.name ∙ (ap (λ (b : Option Oid). object_name (number_commit (k + 1) None b)) c.numbers.invariant.before
    ∙ ap (λ (n : ℕ). object_name (number_commit n None (tip_of k))) (sym e)) in
    record {
      objects = c.in_ok-oid.ensures.objects ∙ (ap (λ (xs : List Object). xs ++ number_objects (k + 1) None c.numbers.before) c.numbers.invariant.objects
          ∙ (ap (λ (b : Option Oid). chain_objects k ++ number_objects (k + 1) None b) c.numbers.invariant.before
          ∙ (ap (λ (n : ℕ). chain_objects k ++ number_objects n None (tip_of k)) (sym e) ∙ ap chain_objects e)));
      commits = c.in_ok-push.ensures.items ∙ (ap (λ (xs : List Oid). xs ++ c.in_ok-oid.oid ∷ []) c.numbers.invariant.commits
          ∙ (ap (λ (o : Oid). chain_commits k ++ o ∷ []) name ∙ ap chain_commits e));
      before = ap Some name ∙ ap tip_of e;
    }
