use Rattle.std.proofs.Common.{◌≡◌, ◌+◌, ◌*◌, take, refl, sym, ap, ◌∙◌, arith}
use Rattle.std.proofs.lemmas.List.{take_all, take_more_set, length-set}
use Rattle.hex.specs.Hex.{encode_lower}
use Rattle.git_object.proofs.DigitTexts.{fits_set, fits_zeros, none_spelled, pair_more}
use Rattle.git_object.proofs.digits.name_in.Goals as goal

pub loop-i-init : goal.loop-i-init
loop-i-init c = record { size = refl; fits = fits_zeros 20; text = none_spelled }

pub loop-i-preserved : goal.loop-i-preserved
loop-i-preserved c =
    let size = c.loop-i.invariant.size in
    record {
      size = length-set c.loop-i.name c.loop-i.i (c.digit_value-high.result * 16 + c.digit_value-low.result) ∙ size;
      fits = fits_set c.loop-i.name c.loop-i.i _ c.loop-i.invariant.fits (omega arith);
      text = pair_more c.args.digits.now c.loop-i.name _ c.loop-i.i _ _ c.digit_value-high.result c.digit_value-low.result
          (omega arith) refl refl (c.fits-digits (2 * c.loop-i.i)) (c.fits-digits (2 * c.loop-i.i + 1))
          c.digit_value-high.ensures c.digit_value-low.ensures (omega arith) (omega arith)
          (take_more_set c.loop-i.name c.loop-i.i _ (omega arith)) c.loop-i.invariant.text;
    }

pub returns-clause-found : goal.returns-clause-found
returns-clause-found c =
    let digits : take (2 * c.loop-i.i) c.args.digits.now ≡ c.args.digits.now = take_all (2 * c.loop-i.i) c.args.digits.now (omega arith) in
    let name : take c.loop-i.i c.loop-i.name ≡ c.loop-i.name = take_all c.loop-i.i c.loop-i.name (omega (arith, c.loop-i.invariant.size)) in (
      record { size = c.loop-i.invariant.size; fits = c.loop-i.invariant.fits },
      sym digits ∙ c.loop-i.invariant.text ∙ ap encode_lower name,
    )
