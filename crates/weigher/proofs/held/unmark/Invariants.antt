-- What the loop keeps.
use mathlib.Core.Path.{◌≡◌}
use mathlib.Core.Bool.{false}
use lib.ListN.{take}
use Rattle.checker.specs.Marks.{marks_in}
use Rattle.weigher.specs.Held.{set_each}
use Rattle.weigher.proofs.held.unmark.Given as goal

abbrev pub invariant-loop-number : goal.invariant-loop-number
invariant-loop-number l = marks_in l.marks ≡ set_each false (take l.number-index l.listed) (marks_in l.initial.marks)
