-- `writer::put::put_outputs` meets its contract: after k turns the first k output lines are laid.
-- Assumes nothing.
use native.Mathlib.Omega.{arith}
use lib.ListN.{length}
use Rattle.graph.proofs.Lent.{pieces_none, piece_room, piece_then}
use Rattle.writer.proofs.Writing.{output_line, output_lines}
use Rattle.writer.proofs.put.put_outputs.Goals as goal

pub loop-output-init : goal.loop-output-init
loop-output-init c =
    let a = c.args in
    let os = a.outputs.now in
    pieces_none (output_line os) (length os) a.at a.bytes.now (rw (output_lines os) at c.requires)

pub put_line-next-requires : goal.put_line-next-requires
put_line-next-requires c = piece_room c.loop-output.invariant (omega arith)

pub loop-output-preserved : goal.loop-output-preserved
loop-output-preserved c =
    let put = c.put_line-next.ensures in
    piece_then c.loop-output.invariant (omega arith) (put.value, put.bytes_after)
