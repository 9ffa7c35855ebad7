-- Bodies of frames, as they are read.
use Rattle.std.proofs.Common.{◌≡◌, ℕ, suc, ◌<◌, List, [], ◌∷◌, ◌++◌, length, drop, sym, ap, subst, ◌∙◌, append-nil}
use Rattle.std.specs.Prelude.{slice_index}
use Rattle.hex.specs.Hex.{IsBytes}
use Rattle.rad_base.specs.Varint.{varint, varint_in}
use Rattle.rad_base.specs.declared.varint.Varint.TheVariants.{Value}
use Rattle.rad_base.proofs.VarintReads.{reads_back}
use Rattle.gossip_wire.specs.Frames.{IsControl}

-- a number that is all of the bytes
pub record ReadsAll (bytes : List ℕ) : Type 0 where
  pub number : ℕ
  pub reads : varint_in bytes ≡ Value number (length bytes)

-- behind the first byte of a control body a number is read, which is all of it
pub control_reads : (bytes rest : List ℕ) (first : ℕ) → bytes ≡ first ∷ rest → IsBytes bytes → IsControl bytes → ReadsAll rest
control_reads bytes rest first e fits is =
    let same : rest ≡ varint is.number = ap (λ (l : List ℕ). drop 1 l) (sym e ∙ is.text) in
    let whole : varint is.number ++ [] ≡ rest = append-nil (varint is.number) ∙ sym same in
    let small : IsBytes rest = λ i. subst (λ (l : List ℕ). slice_index l (suc i) < 256) e (fits (suc i)) in
    record {
      number = is.number;
      reads =
          ap varint_in (sym whole) ∙ reads_back is.number [] is.fits (subst IsBytes (sym whole) small)
          ∙ ap (λ (n : ℕ). Value is.number n) (ap length (sym same));
    }
