use Rattle.std.proofs.Common.{◌≡◌, sym, subst, ◌∙◌}
use Rattle.std.proofs.lemmas.Bool.{false≢true}
use Rattle.hex.specs.Hex.{encode_lower}
use Rattle.rad_base.proofs.HexText.{is_hex_text}
use Rattle.rad_base.proofs.OneFront.{if_none}
use Rattle.rad_base.specs.Hexadecimal.{IsHexText}
use Rattle.routing.proofs.repos.repo_in.Goals as goal

pub returns-in_err-oid-clause-none : goal.returns-in_err-oid-clause-none
returns-in_err-oid-clause-none c =
    if_none c.from_residual.result _ (λ repo is.
    let text : c.as_bytes.result.now ≡ encode_lower repo.0.0.0 = c.as_bytes.ensures.value ∙ is.name in
    false≢true (c.in_err-oid.ensures.exact.1 (subst (IsHexText 20) (sym text) (is_hex_text 20 repo.0.0.0 is.rid))))
