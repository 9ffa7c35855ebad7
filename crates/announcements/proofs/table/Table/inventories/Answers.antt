use Rattle.std.proofs.Common.{◌≡◌, ◌++◌, [], List, sym, subst, ◌∙◌}
use Rattle.std.specs.Map.Iter.{deref_pair}
use Rattle.std.proofs.lemmas.List.{append-nil}
use Rattle.std.proofs.lemmas.Map.Iter.{rest_all}
use Rattle.rad_base.specs.declared.names.Nid.{Nid}
use Rattle.announcements.specs.Held.{HaveInventories, kept_in}
use Rattle.announcements.proofs.Inventories.{have_inventories, nodes_in}
use Rattle.announcements.proofs.table.Table.inventories.Goals as goal

pub returns : goal.returns
returns c =
    let over : c.loop-key.key-iterator ≡ [] = rest_all deref_pair c.loop-key.key-iterator c.next.new.self c.next.result c.in-None.is c.next.ensures.steps in
    let all : c.loop-key.nodes ≡ nodes_in c.args.self.now.places.entries = sym (append-nil c.loop-key.nodes) ∙ (rw over at c.loop-key.invariant) in
    subst (HaveInventories (kept_in c.args.self.now)) (sym all) (have_inventories c.args.self.now.places c.iter-key-items.ensures.ordered)
