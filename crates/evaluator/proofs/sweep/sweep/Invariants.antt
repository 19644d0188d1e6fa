-- What the loop keeps, and how far it has to go.
use mathlib.Core.Path.{◌≡◌}
use mathlib.Core.Bool.{Bool}
use mathlib.Core.List.{List}
use Prim.Native.Nat.{ℕ}
use lib.ListN.{length}
use Rattle.graph.specs.Graph.{Net}
use Rattle.graph.specs.Sweep.{bools}
use Rattle.graph.specs.Evaluate.{assigned, assignment_of}
use Rattle.graph.proofs.Swept.{Swept}
use Rattle.evaluator.proofs.sweep.sweep.Given as goal

-- the lent list once the variables 0 to n have their values
abbrev pub swept : Net → (ℕ → Bool) → List Bool → ℕ → List Bool
swept net a lent n = Swept bools (assigned net a) net lent n

-- the list as it was lent is past once the inputs have their values, so the invariant speaks of any list that this gives
abbrev pub invariant-loop-n : goal.invariant-loop-n
invariant-loop-n l = (lent : List Bool) → length lent ≡ length l.initial.known
    → l.initial.known ≡ swept l.net (assignment_of l.assignment) lent l.net.inputs
    → l.known ≡ swept l.net (assignment_of l.assignment) lent l.n
