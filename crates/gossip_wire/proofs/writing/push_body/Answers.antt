use Rattle.std.proofs.Common.{◌++◌, List, ℕ, ap, ◌∙◌, append_assoc}
use Rattle.gossip_wire.proofs.Appended.{two_behind}
use Rattle.gossip_wire.specs.Fields.{about_text}
use Rattle.gossip_wire.proofs.writing.push_body.Goals as goal

pub returns-in_ok-push_about-in-Node : goal.returns-in_ok-push_about-in-Node
returns-in_ok-push_about-in-Node c =
    let m = c.in-Node in
    let said = about_text m.features m.time m.alias m.addresses in
    rw c.in-Node.is
    (two_behind c.args.out.now.items c.push_signed.new.out.items c.push_about.new.out.items (m.node.0 ++ m.sig.0) said
    c.in_ok-push_signed-in-Node.ensures (rw c.as_slice.ensures at c.in_ok-push_about-in-Node.ensures)
    ∙ ap (λ (l : List ℕ). c.args.out.now.items ++ l) (append_assoc m.node.0 m.sig.0 said))
