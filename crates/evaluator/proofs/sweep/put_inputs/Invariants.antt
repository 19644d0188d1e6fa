-- What the loop keeps, and how far it has to go.
use mathlib.Core.Path.{◌≡◌}
use lib.ListN.{take}
use Rattle.graph.specs.Lent.{written}
use Rattle.evaluator.specs.Values.{input_values}
use Rattle.evaluator.proofs.sweep.put_inputs.Given as goal

abbrev pub invariant-loop-k : goal.invariant-loop-k
invariant-loop-k l = l.known ≡ written (input_values (take l.k l.assignment)) l.initial.known
