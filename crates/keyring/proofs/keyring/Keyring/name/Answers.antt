use Rattle.std.proofs.Common.{List, ℕ, ap, ◌∙◌}
use Rattle.std.specs.Option.{option_or}
use Rattle.std.specs.FinMap as fin
use Rattle.keyring.specs.Texts.{direct_key}
use Rattle.keyring.proofs.Saying.{found_name}
use Rattle.keyring.proofs.keyring.Keyring.name.Goals as goal

pub returns-in-Some : goal.returns-in-Some
returns-in-Some c =
    ap (λ key. option_or key (fin.get c.args.self.now.names c.args.text.now)) (c.in-Some.ensures ∙ ap direct_key c.as_bytes.ensures.value)

pub returns-in-None : goal.returns-in-None
returns-in-None c =
    c.copied.ensures ∙ c.get.ensures.value
    ∙ found_name c.self.inside.names.entries c.self.inside.accepted.keys c.self.inside.own.items c.args.self.now c.as_bytes-in-None.result.now c.self.view_is
    ∙ ap (λ (text : List ℕ). fin.get c.args.self.now.names text) c.as_bytes-in-None.ensures.value
    ∙ ap (λ key. option_or key (fin.get c.args.self.now.names c.args.text.now)) (c.in-None.ensures ∙ ap direct_key c.as_bytes.ensures.value)
