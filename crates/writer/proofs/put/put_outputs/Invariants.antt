-- What the loop keeps.
use lib.ListN.{length}
use Rattle.graph.proofs.Lent.{Pieces}
use Rattle.writer.proofs.Writing.{output_line}
use Rattle.writer.proofs.put.put_outputs.Given as goal

abbrev pub invariant-loop-output : goal.invariant-loop-output
invariant-loop-output l = Pieces (output_line l.outputs) (length l.outputs) l.at l.initial.bytes l.output-index l.next l.bytes
