-- `writer::put::put_inputs` meets its contract: after k turns the first k input lines are laid.
-- Assumes nothing.
use native.Mathlib.Omega.{arith}
use Rattle.graph.specs.Graph.{free}
use Rattle.graph.proofs.Lent.{pieces_none, piece_room, piece_then}
use Rattle.writer.proofs.Writing.{input_line, input_lines}
use Rattle.writer.proofs.put.put_inputs.Goals as goal

pub loop-k-init : goal.loop-k-init
loop-k-init c =
    let a = c.args in
    let net = a.net.now in
    pieces_none input_line (free net) a.at a.bytes.now (rw (input_lines net) at c.requires)

pub put_line-next-requires : goal.put_line-next-requires
put_line-next-requires c = rw c.plain.ensures (piece_room c.loop-k.invariant (omega arith))

pub loop-k-preserved : goal.loop-k-preserved
loop-k-preserved c =
    let put = rw c.plain.ensures at c.put_line-next.ensures in
    piece_then c.loop-k.invariant (omega arith) (put.value, put.bytes_after)
