use Rattle.std.proofs.Common.{◌≡◌, Some, sym, subst, ◌∙◌}
use Rattle.hex.specs.Hex.{encode_lower}
use Rattle.serde_json.specs.Find.{as_str}
use Rattle.serde_json.specs.View.{view}
use Rattle.rad_base.proofs.HexText.{is_hex_text}
use Rattle.rad_base.proofs.Options.{one_value}
use Rattle.rad_base.specs.Hexadecimal.{IsHexText}
use Rattle.routing.proofs.RidOrder.{if_absent, not_there}
use Rattle.routing.proofs.words.key_in.Goals as goal

pub returns-in-Some-clause-none : goal.returns-in-Some-clause-none
returns-in-Some-clause-none c =
    if_absent c.parse_nid.result _ (λ none nid fits e.
    let said : as_str (view c.args.element.now) ≡ Some c.in-Some.text.now = rw c.in-Some.is at (sym c.as_str.ensures) in
    let text : c.as_bytes.result.now ≡ encode_lower nid.0 = c.as_bytes.ensures.value ∙ one_value said e in
    not_there c.parse_nid.result none (c.parse_nid.ensures.exact.1 (subst (IsHexText 32) (sym text) (is_hex_text 32 nid.0 fits))))
