use Rattle.std.proofs.Common.{rules}
use Rattle.std.proofs.lemmas.Fn.{always_returns_same}
use Rattle.std.proofs.lemmas.List.Sorted.{IsPermutation-map}
use Rattle.rad_vectors.proofs.MoreObjects.{sorted_shown}
use Rattle.rad_vectors.specs.Shown.{shown}
use Rattle.rad_vectors.specs.declared.object.NamedObject.{NamedObject}
use Rattle.rad_vectors.proofs.order.sort_by_name.Goals as goal

pub returns : goal.returns
returns c = record {
  same = IsPermutation-map shown c.args.objects.now.items c.sort_by_key.new.self.items c.in_ok-sort_by_key.ensures.permutation;
  sorted = sorted_shown c.sort_by_key.new.self.items (c.in_ok-sort_by_key.ensures.sorted (λ (o : NamedObject). o.oid) (always_returns_same _ _ _ (λ a r f' k. search rules)));
}
