-- What a walk comes to, with the links that it followed.
use Rattle.std.specs.Prelude.{◌↔◌, ◌⊎◌, List, IsTrue}
use Rattle.std.specs.BTreeSet.{contains}
use Rattle.commit_graph.specs.declared.root.Root.{Root}
use Rattle.commit_graph.specs.declared.web.Web.{Web}
use Rattle.commit_graph.specs.Objects.{ObjectMap}
use Rattle.commit_graph.specs.Pairs.{IsFit, IsLink, IsMissing, IsUnfit}
use Rattle.commit_graph.specs.Closures.{IsReached}
use Rattle.commit_graph.specs.PairOrder.{pair_cmp}
use Rattle.commit_graph.specs.Backward.{LinksTo}

-- the links from all that is reached; the pairs reached that have no object, and those whose object is unfit; all others are fit
pub record IsWeb (objects : ObjectMap) (roots : List Root) (web : Web) : Type 0 where
  pub links : (p q : Root) → LinksTo web.back p q ↔ (IsReached objects roots p × IsLink objects p q)
  pub missing : (p : Root) → IsTrue (contains pair_cmp web.missing p) ↔ (IsReached objects roots p × IsMissing objects p)
  pub unfit : (p : Root) → IsTrue (contains pair_cmp web.unfit p) ↔ (IsReached objects roots p × IsUnfit objects p)
  pub judged : (p : Root) → IsReached objects roots p → IsMissing objects p ⊎ (IsUnfit objects p ⊎ IsFit objects p)
