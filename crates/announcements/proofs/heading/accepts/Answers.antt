use Rattle.std.proofs.Common.{◌≡◌, refl, ◌∙◌}
use Rattle.announcements.specs.Announcements.{signed_message}
use Rattle.announcements.proofs.Signed.{signed_part}
use Rattle.announcements.proofs.heading.accepts.Goals as goal

pub returns : goal.returns
returns c =
    let text : c.in_ok-signed.signed.items ≡ signed_message c.args.message.now =
    c.in_ok-signed.ensures ∙ rw c.requires.bytes (signed_part c.args.message.now c.requires.fits) in
    rw (c.verdict.ensures, c.deref.ensures.value, text, c.requires.node, c.requires.sig) refl
