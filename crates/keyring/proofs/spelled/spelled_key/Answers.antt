use Rattle.std.proofs.Common.{sym, ◌∙◌}
use Rattle.keyring.proofs.DirectTexts.{key_behind, more_behind, no_key_behind, no_word_in_front}
use Rattle.rad_base.proofs.Conditions.{is_nothing, is_something}
use Rattle.keyring.proofs.spelled.spelled_key.Goals as goal

pub returns-in_err-digits : goal.returns-in_err-digits
returns-in_err-digits c = c.from_residual.ensures ∙ sym (no_word_in_front c.args.text.now c.in_err-digits.ensures.none)

pub returns-in_err-key : goal.returns-in_err-key
returns-in_err-key c =
    c.from_residual-in_err-key.ensures
    ∙ sym (no_key_behind c.args.text.now c.in_ok-digits.digits.now c.in_ok-digits.ensures.found c.in_err-key.ensures.none)

pub returns-then-is_empty : goal.returns-then-is_empty
returns-then-is_empty c =
    let found = c.in_ok-key.ensures.found in
    sym (key_behind c.args.text.now c.in_ok-digits.digits.now c.in_ok-key.key c.in_ok-key.rest.now c.in_ok-digits.ensures.found found.0 found.1
    (is_nothing c.is_empty.result c.in_ok-key.rest.now c.is_empty.ensures c.if-is_empty.true))

pub returns-else-is_empty : goal.returns-else-is_empty
returns-else-is_empty c =
    let found = c.in_ok-key.ensures.found in
    sym (more_behind c.args.text.now c.in_ok-digits.digits.now c.in_ok-key.key c.in_ok-key.rest.now c.in_ok-digits.ensures.found found.0 found.1
    (is_something c.is_empty.result c.in_ok-key.rest.now c.is_empty.ensures c.if-is_empty.false))
