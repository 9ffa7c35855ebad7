use Rattle.std.proofs.Common.{map}
use Rattle.rad_vectors.specs.Repositories.{accept_line_of}
use Rattle.rad_vectors.specs.Signers.{signer_of}
use Rattle.keyring.specs.Lines.{file_text}
use Rattle.rad_vectors.proofs.FixtureParts.{named_lines}
use Rattle.rad_vectors.proofs.three_delegates.keyring_of.Goals as goal

pub returns : goal.returns
returns c =
    named_lines c.new-keyring.result.items c.push_name.new.bytes.items c.push_name-2.new.bytes.items c.push_name-3.new.bytes.items c.push_accepts.new.bytes.items
    (file_text (map accept_line_of (map signer_of c.args.delegates.now)))
    c.new-keyring.ensures.items c.in_ok-push_name.ensures c.in_ok-push_name-2.ensures c.in_ok-push_name-3.ensures c.in_ok-push_accepts.ensures
