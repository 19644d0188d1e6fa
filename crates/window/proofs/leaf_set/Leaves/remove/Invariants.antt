-- The leaves before k are set down anew.
use Rattle.window.specs.LeafRule.{remove}
use Rattle.window.proofs.Along.{Rebuilt}
use Rattle.window.proofs.leaf_set.Leaves.remove.Given as goal

abbrev pub invariant-loop-k : goal.invariant-loop-k
invariant-loop-k l = Rebuilt (remove l.v.0) l.leaves l.out l.k
