use Rattle.std.proofs.Common.{◌∙◌, take, sym, ap, arith}
use Rattle.std.proofs.lemmas.List.{append-nil}
use Rattle.std.specs.Int.{to_be_bytes, w16, w32, w64}
use Rattle.rad_base.specs.Varint.{One, Two, Four, Eight}
use Rattle.rad_base.proofs.Varints.{first_written, shortest_one, shortest_two, shortest_four, shortest_eight, varint_size, written_is}
use Rattle.rad_base.proofs.varint.write_varint.Goals as goal

pub returns-then-n-clause-size : goal.returns-then-n-clause-size
returns-then-n-clause-size c = varint_size One c.args.n (shortest_one c.args.n (omega arith))

pub returns-then-n-clause-written : goal.returns-then-n-clause-written
returns-then-n-clause-written c = first_written c.args.out.now c.args.n (omega arith) (omega arith)

pub returns-then-n-2-clause-size : goal.returns-then-n-2-clause-size
returns-then-n-2-clause-size c = varint_size Two c.args.n (shortest_two c.args.n (omega arith) (omega arith))

pub returns-then-n-2-clause-written : goal.returns-then-n-2-clause-written
returns-then-n-2-clause-written c =
    written_is Two c.args.n _ _ (shortest_two c.args.n (omega arith) (omega arith))
    (c.copy_from_slice.ensures.after ∙ c.to_be_bytes.ensures ∙ ap (to_be_bytes w16) (omega arith))

pub returns-then-n-3-clause-size : goal.returns-then-n-3-clause-size
returns-then-n-3-clause-size c = varint_size Four c.args.n (shortest_four c.args.n (omega arith) (omega arith))

pub returns-then-n-3-clause-written : goal.returns-then-n-3-clause-written
returns-then-n-3-clause-written c =
    written_is Four c.args.n _ _ (shortest_four c.args.n (omega arith) (omega arith))
    (c.copy_from_slice-then-n-3.ensures.after ∙ c.to_be_bytes-then-n-3.ensures ∙ ap (to_be_bytes w32) (omega arith))

pub returns-else-n-3-clause-size : goal.returns-else-n-3-clause-size
returns-else-n-3-clause-size c = varint_size Eight c.args.n (shortest_eight c.args.n (omega arith))

pub returns-else-n-3-clause-written : goal.returns-else-n-3-clause-written
returns-else-n-3-clause-written c =
    ap (take 8) (sym (append-nil c.to_be_bytes-else-n-3.result))
    ∙ written_is Eight c.args.n _ _ (shortest_eight c.args.n (omega arith))
    (c.to_be_bytes-else-n-3.ensures ∙ ap (to_be_bytes w64) (omega arith))
