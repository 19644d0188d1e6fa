-- What the loop keeps.
use lib.ListN.{length}
use Rattle.graph.proofs.Lent.{Pieces}
use Rattle.writer.proofs.Writing.{number_at}
use Rattle.writer.proofs.put.put_line.Given as goal

abbrev pub invariant-loop-k : goal.invariant-loop-k
invariant-loop-k l = Pieces (number_at l.numbers) (length l.numbers) l.at l.initial.bytes l.k l.next l.bytes
