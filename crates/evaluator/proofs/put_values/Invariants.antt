-- What the loop keeps, and how far it has to go.
use mathlib.Core.Path.{◌≡◌}
use mathlib.Core.Bool.{Bool, cond}
use mathlib.Core.List.{List, map}
use Prim.Native.Nat.{ℕ}
use lib.ListN.{take}
use Rattle.graph.specs.Lent.{written}
use Rattle.graph.specs.Sweep.{bools, lit_value}
use Rattle.evaluator.proofs.put_values.Given as goal

module _ (known : List Bool) (literals : List ℕ) where
  abbrev pub bits : List ℕ
  bits = map (λ b. cond b 1 0) (map (lit_value bools known) literals)

abbrev pub invariant-loop-k : goal.invariant-loop-k
invariant-loop-k l = l.values ≡ written (take l.k (bits l.known l.literals)) l.initial.values
