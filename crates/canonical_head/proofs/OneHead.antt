-- Tips have at most one head.
use Rattle.std.proofs.Common.{◌≡◌, ℕ, List, refl, ap, subst, ◌∙◌}
use Rattle.rad_base.specs.declared.names.Oid.{Oid}
use Rattle.commit_graph.specs.Closures.{IsLeast}
use Rattle.commit_graph.specs.Objects.{ObjectMap}
use Rattle.commit_graph.proofs.OneAnswer.{one_least}
use Rattle.canonical_head.specs.declared.answer.Head.{Head}
use Rattle.canonical_head.specs.declared.answer.Head.TheVariants.{At, NoQuorum, Diverging, NoBranch}
use Rattle.canonical_head.specs.Heads.{HasRival, IsHead, IsRival, IsTop}

module _ (objects : ObjectMap) (tips : List Oid) (threshold : ℕ) where
  pub one_head : (a b : Head) → IsHead objects tips threshold a → IsHead objects tips threshold b
      → a ≡ b
  one_head NoBranch b h k = absurd h
  one_head NoQuorum NoBranch h k = absurd k
  one_head NoQuorum NoQuorum h k = refl
  one_head NoQuorum (At b) h k = absurd (h b k.holds.0)
  one_head NoQuorum (Diverging a b) h k = absurd (h a k.1.holds.0)
  one_head (At a) NoBranch h k = absurd k
  one_head (At a) NoQuorum h k = absurd (k a h.holds.0)
  one_head (At a) (At b) h k = ap (λ (o : Oid). At o) (one_least (IsTop objects tips threshold) a b h k)
  one_head (At a) (Diverging b c) h k = absurd (k.0 a h.holds)
  one_head (Diverging a b) NoBranch h k = absurd k
  one_head (Diverging a b) NoQuorum h k = absurd (k a h.1.holds.0)
  one_head (Diverging a b) (At c) h k = absurd (h.0 c k.holds)
  one_head (Diverging a b) (Diverging c d) h k =
      let first : a ≡ c = one_least (HasRival objects tips threshold) a c h.1 k.1 in
      let here : IsLeast (IsRival objects tips threshold c) b =
      subst (λ (o : Oid). IsLeast (IsRival objects tips threshold o) b) first h.2 in
      ap (λ (o : Oid). Diverging o b) first
      ∙ ap (λ (o : Oid). Diverging c o) (one_least (IsRival objects tips threshold c) b d here k.2)
