use Rattle.std.proofs.Common.{◌≡◌, ◌*◌, take, length}
use Rattle.hex.specs.Hex.{IsBytes, encode_lower}
use Rattle.git_object.proofs.digits.name_in.Given as goal

abbrev pub invariant-loop-i : goal.invariant-loop-i
invariant-loop-i l = record {
  size : length l.name ≡ 20;
  fits : IsBytes l.name;
  text : take (2 * l.i) l.digits ≡ encode_lower (take l.i l.name);
}
