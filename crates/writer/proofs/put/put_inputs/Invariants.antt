-- What the loop keeps.
use Rattle.graph.specs.Graph.{free}
use Rattle.graph.proofs.Lent.{Pieces}
use Rattle.writer.proofs.Writing.{input_line}
use Rattle.writer.proofs.put.put_inputs.Given as goal

abbrev pub invariant-loop-k : goal.invariant-loop-k
invariant-loop-k l = Pieces input_line (free l.net) l.at l.initial.bytes l.k l.next l.bytes
