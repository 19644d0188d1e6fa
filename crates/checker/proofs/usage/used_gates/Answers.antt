-- `checker::usage::used_gates` meets its contract: the marks of the definition are counted.
-- Assumes nothing.
use mathlib.Core.Path.{sym, ap, ◌∙◌}
use mathlib.Core.Bool.{false}
use Prim.Native.Nat.{ℕ}
use native.Mathlib.Omega.{arith}
use lib.ListN.{replicate}
use Rattle.graph.specs.Use.{marks_over}
use Rattle.checker.proofs.Marking.{marks_length, fresh_marks, fresh_long, most_variables, marks_counted}
use Rattle.checker.proofs.usage.used_gates.Goals as goal

pub count_marks-requires : goal.count_marks-requires
count_marks-requires c =
    let ok = c.net-net.ensures.well_formed in
    rw c.net-net.ensures.value (omega (arith, marks_length c.mark_used.new.marks))

pub mark_used-requires : goal.mark_used-requires
mark_used-requires c =
    let long = fresh_long most_variables in
    record {
      marks_there = omega (arith, long, c.net-net.ensures.well_formed);
      marks_value = fresh_marks most_variables ∙ ap (λ (k : ℕ). replicate k false) (sym long);
    }

pub returns : goal.returns
returns c =
    let marked = c.mark_used.ensures ∙ ap (λ (n : ℕ). marks_over n c.args.graph.now) (fresh_long most_variables) in
    (rw c.net-net.ensures.value at c.count_marks.ensures)
    ∙ marks_counted c.args.graph.now c.net-net.ensures.well_formed.lawful most_variables (omega (arith, c.net-net.ensures.well_formed)) marked
