-- `writer::put::put_gates` meets its contract: after k turns the first k gate lines are laid.
-- Assumes nothing.
use native.Mathlib.Omega.{arith}
use Rattle.graph.specs.Graph.{size}
use Rattle.graph.proofs.Lent.{pieces_none, piece_room, piece_then}
use Rattle.writer.proofs.Writing.{gate_line, gate_lines}
use Rattle.writer.proofs.put.put_gates.Goals as goal

pub loop-k-init : goal.loop-k-init
loop-k-init c =
    let a = c.args in
    let net = a.net.now in
    pieces_none (gate_line net) (size net) a.at a.bytes.now (rw (gate_lines net) at c.requires)

pub put_line-next-requires : goal.put_line-next-requires
put_line-next-requires c =
    rw (c.plain.ensures, c.fanins_of-gate.ensures.first_value, c.fanins_of-gate.ensures.second_value, c.gate-own.ensures.value)
    (piece_room c.loop-k.invariant (omega arith))

pub loop-k-preserved : goal.loop-k-preserved
loop-k-preserved c =
    let put = rw (c.plain.ensures, c.fanins_of-gate.ensures.first_value, c.fanins_of-gate.ensures.second_value, c.gate-own.ensures.value) at c.put_line-next.ensures in
    piece_then c.loop-k.invariant (omega arith) (put.value, put.bytes_after)
