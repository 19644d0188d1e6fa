-- What the loop keeps.
use mathlib.Core.Path.{◌≡◌}
use lib.ListN.{replicate}
use Rattle.graph.specs.Lent.{written}
use Rattle.graph.specs.Drop.{new_number}
use Rattle.checker.specs.Marks.{marks_in}
use Rattle.checker.proofs.Marking.{most_variables}
use Rattle.replacer.proofs.Kept.{numbers_to}
use Rattle.replacer.proofs.renumber.Renumbering.new.Given as goal

abbrev pub invariant-loop-n : goal.invariant-loop-n
invariant-loop-n l = record {
  number_is : l.number ≡ new_number l.net (marks_in l.marks) l.n;
  written_so_far : l.numbers ≡ written (numbers_to l.net (marks_in l.marks) l.n) (replicate most_variables 0);
}
