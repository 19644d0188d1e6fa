-- What the loop keeps, and how far it has to go.
use mathlib.Core.Path.{◌≡◌}
use lib.ListN.{drop}
use Rattle.graph.specs.Use.{mark_each}
use Rattle.checker.specs.Marks.{marks_in}
use Rattle.checker.proofs.usage.mark_each.Given as goal

abbrev pub invariant-loop-literal : goal.invariant-loop-literal
invariant-loop-literal l =
    mark_each (drop l.literal-index l.literals) (marks_in l.marks) ≡ mark_each l.literals (marks_in l.initial.marks)
