use Rattle.std.proofs.Common.{List, ℕ, ap, ◌∙◌}
use Rattle.std.specs.FinSet as set
use Rattle.keyring.specs.declared.accept.Accept.{Accept}
use Rattle.keyring.proofs.Saying.{found_accept}
use Rattle.keyring.proofs.keyring.Keyring.verdict.Goals as goal

pub returns : goal.returns
returns c =
    c.contains.ensures
    ∙ found_accept c.self.inside.names.entries c.self.inside.accepted.keys c.self.inside.own.items c.args.self.now
    (record { key = c.args.key.now; digest = c.of.result; sig = c.args.sig.now }) c.self.view_is
    ∙ ap (λ (bytes : List ℕ). let accept : Accept = record { key = c.args.key.now; digest = record { 0 = bytes }; sig = c.args.sig.now } in
    set.contains c.args.self.now.accepted accept) c.of.ensures
