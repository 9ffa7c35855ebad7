use Rattle.std.proofs.Common.{◌≡◌, ℕ, ◌++◌, ◌∷◌, [], List, length, ap, subst, ◌∙◌, arith, length-append}
use Rattle.canonical_head.proofs.ShortWalks.{lead_alike, short_more, short_none}
use Rattle.canonical_head.specs.Ancestries.{LeadAlike}
use Rattle.canonical_head.proofs.nearest.nearest_tips.Goals as goal

pub loop-number-init : goal.loop-number-init
loop-number-init c = record {
  turns = ap length c.new-nearest.ensures;
  short = short_none c.args.ancestry.now.parents c.len-count.result c.new-nearest.result c.new-nearest.ensures;
}

pub loop-number-preserved : goal.loop-number-preserved
loop-number-preserved c =
    let list = c.in_ok-list.list.items in
    let is : c.push.new.self ≡ c.loop-number.nearest ++ list ∷ [] =
    c.in_ok-push.ensures.ok ∙ ap (λ (row : List ℕ). c.loop-number.nearest ++ row ∷ []) c.deref.ensures.value in
    record {
      turns = omega (arith, ap length is, length-append c.loop-number.nearest (list ∷ []), c.loop-number.invariant.turns);
      short = short_more c.args.ancestry.now.parents c.len-count.result c.loop-number.nearest c.push.new.self list c.in_ok-marked.marked.found c.loop-number.number
          c.loop-number.invariant.turns is c.in_ok-list.ensures c.in_ok-marked.ensures c.loop-number.invariant.short;
    }

pub returns : goal.returns
returns c =
    let tips = c.args.ancestry.now.tips in
    let count : c.len-count.result ≡ length tips.items = omega (arith, c.len-count.ensures, tips.ok.0) in
    let turns : length c.loop-number.nearest ≡ c.len-count.result = omega (arith, c.loop-number.invariant.turns, c.loop-number-test.false, c.loop-number.auto.number-end) in
    subst (λ (k : ℕ). LeadAlike c.args.ancestry.now.parents k c.loop-number.nearest) count
    (lead_alike c.args.ancestry.now.parents c.len-count.result c.loop-number.nearest turns c.loop-number.invariant.short)
