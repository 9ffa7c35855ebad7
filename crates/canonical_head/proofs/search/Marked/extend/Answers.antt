use Rattle.std.proofs.Common.{get_or, arith, ◌∙◌}
use Rattle.std.proofs.lemmas.Option.{slice_get-get_or}
use Rattle.rad_base.proofs.Members.{contains_at}
use Rattle.commit_graph.proofs.Adding.{extends_more}
use Rattle.canonical_head.proofs.search.Marked.extend.Goals as goal

pub add-requires : goal.add-requires
add-requires c =
    let numbers = c.args.numbers.now in
    let i = c.loop-number.number-index in
    omega (arith, c.requires (get_or numbers i 0) (contains_at numbers i (get_or numbers i 0) (slice_get-get_or numbers i 0 c.loop-number-test.true)), c.loop-number.invariant.limit)

pub loop-number-preserved : goal.loop-number-preserved
loop-number-preserved c = record {
  limit = c.in_ok-add.ensures.limit ∙ c.loop-number.invariant.limit;
  grown = extends_more c.args.numbers.now c.loop-number.number-index _ c.loop-number-test.true c.loop-number.invariant.grown c.in_ok-add.ensures.ok;
}
