-- The covered variables below n stand at the front of the list.
use Rattle.cutter.proofs.Sweeping.{Listed}
use Rattle.cutter.proofs.cover.list_covered.Given as goal

abbrev pub invariant-loop-n : goal.invariant-loop-n
invariant-loop-n l = Listed l.covers l.initial.list l.list l.count l.n
