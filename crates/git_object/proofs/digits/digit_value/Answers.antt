use Rattle.std.proofs.Common.{ap, slice_index, ◌∙◌}
use Rattle.git_object.proofs.DigitTexts.{value_read, values}
use Rattle.git_object.proofs.digits.digit_value.Goals as goal

pub returns : goal.returns
returns c = ap (slice_index values) c.from.ensures ∙ value_read c.args.c c.ranges.c.fits
