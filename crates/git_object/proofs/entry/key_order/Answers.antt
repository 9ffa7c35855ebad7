use Rattle.std.proofs.Common.{refl, ◌≡◌}
use Rattle.std.specs.Ordering.{nat_cmp}
use Rattle.std.proofs.lemmas.Iterator.{YieldsList-from_slice}
use Rattle.std.proofs.lemmas.Iterator.Consumers.{YieldsList-from_chain}
use Rattle.std.proofs.lemmas.Iterator.Search.{cmp_from_yields_List}
use Rattle.git_object.specs.Grammar.{slash_of}
use Rattle.git_object.proofs.entry.key_order.Goals as goal

pub returns : goal.returns
returns c =
    cmp_from_yields_List (λ x y. y ≡ x) _ nat_cmp _ c.cmp.ensures.ran
    (YieldsList-from_chain (YieldsList-from_slice c.args.a.now.name.now (cc)) (YieldsList-from_slice (slash_of c.args.a.now.mode) (cc)) (cc) (cc))
    (λ it e. YieldsList-from_chain (YieldsList-from_slice c.args.b.now.name.now (cc)) (YieldsList-from_slice (slash_of c.args.b.now.mode) (cc)) (cc) (cc))
    (λ x y. refl)
