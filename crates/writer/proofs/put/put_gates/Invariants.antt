-- What the loop keeps.
use Rattle.graph.specs.Graph.{size}
use Rattle.graph.proofs.Lent.{Pieces}
use Rattle.writer.proofs.Writing.{gate_line}
use Rattle.writer.proofs.put.put_gates.Given as goal

abbrev pub invariant-loop-k : goal.invariant-loop-k
invariant-loop-k l = Pieces (gate_line l.net) (size l.net) l.at l.initial.bytes l.k l.next l.bytes
