-- What the loop keeps, and how far it has to go.
use mathlib.Core.Path.{◌≡◌}
use Prim.Native.Nat.{◌-◌}
use Rattle.checker.specs.Marks.{marks_in, mark_after}
use Rattle.checker.proofs.usage.mark_after.Given as goal

abbrev pub invariant-loop-k : goal.invariant-loop-k
invariant-loop-k l =
    mark_after l.net l.stop (l.k - l.stop) (marks_in l.marks) ≡ mark_after l.net l.stop (l.from - l.stop) (marks_in l.initial.marks)
