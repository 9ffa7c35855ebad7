use Rattle.std.proofs.Common.{◌≡◌, ℕ, ◌*◌, length, ap, ◌∙◌, arith}
use Rattle.hex.proofs.HexLemmas.{length-encode_with}
use Rattle.rad_vectors.proofs.pushing.push_ref.Goals as goal

pub returns-clause-size : goal.returns-clause-size
returns-clause-size c =
    let digits : length c.as_bytes.result.now ≡ 40 =
    ap length c.as_bytes.ensures.value ∙ (ap length c.in_ok-digits.ensures
    ∙ (length-encode_with _ c.raw.result.now ∙ ap (λ (n : ℕ). 2 * n) (ap length c.raw.ensures.bytes ∙ c.raw.ensures.whole))) in
    omega (arith, c.in_ok-extend_from_slice.ensures.len, c.in_ok-push.ensures.len, c.in_ok-extend_from_slice-2.ensures.len, c.in_ok-push-2.ensures.len)
