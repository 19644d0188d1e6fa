-- What the loop keeps, and how far it has to go.
use mathlib.Core.List.{[], ◌∷◌}
use Prim.Native.Nat.{◌-◌}
use Rattle.graph.specs.Graph.{size}
use Rattle.checker.specs.Marks.{marks_in}
use Rattle.weigher.specs.Held.{walked_to}
use Rattle.weigher.proofs.Walk.{Stage}
use Rattle.weigher.proofs.held.mark_reached.Given as goal

-- what is done so far is a stage of the walk from both literals
abbrev pub invariant-loop-done : goal.invariant-loop-done
invariant-loop-done l =
    let net = l.net in
    let literals = l.fn.first.0 ∷ l.fn.second.0 ∷ [] in
    Stage net literals (marks_in l.fn.marks) l.done (walked_to (marks_in l.marks) l.list l.count)

abbrev pub decreases-loop-done : goal.decreases-loop-done
decreases-loop-done l = size l.net - l.done
