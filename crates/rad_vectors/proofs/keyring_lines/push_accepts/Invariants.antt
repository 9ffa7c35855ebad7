use Rattle.std.proofs.Common.{◌≡◌, ◌++◌, map, take}
use Rattle.keyring.specs.Lines.{file_text}
use Rattle.rad_vectors.specs.Repositories.{accept_line_of}
use Rattle.rad_vectors.specs.Signers.{signer_of}
use Rattle.rad_vectors.proofs.keyring_lines.push_accepts.Given as goal

abbrev pub invariant-delegates : goal.invariant-delegates
invariant-delegates l =
    l.bytes.items ≡ l.initial.bytes.items ++ file_text (map accept_line_of (map signer_of (take l.delegate-index l.delegates)))
