use Rattle.git_object.specs.Views.{tag_of}
use Rattle.git_object.proofs.Linked.{tag_ended}
use Rattle.git_object.proofs.link.add_tag_links.Goals as goal

pub returns-clause-added : goal.returns-clause-added
returns-clause-added c =
    tag_ended c.args.bytes.now (tag_of c.in_ok-parts.parts) c.args.found.now.items c.push.new.self.items c.in_ok-parts.ensures.tag c.in_ok-push.ensures.items
