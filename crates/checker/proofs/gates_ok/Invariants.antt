-- What the loop keeps, and how far it has to go.
use mathlib.Core.Path.{◌≡◌}
use mathlib.Core.Bool.{Bool, true}
use Prim.Native.Nat.{ℕ, suc, ◌+◌}
use Rattle.graph.specs.Lists.{all_below}
use Rattle.graph.specs.Graph.{Net, free, gate_ok}
use Rattle.checker.proofs.gates_ok.Given as goal

abbrev pub passes : Net → ℕ → Bool
passes net = λ k. gate_ok net (suc (free net + k))

abbrev pub invariant-loop-k : goal.invariant-loop-k
invariant-loop-k l = all_below (passes l.graph.net) l.k ≡ true
