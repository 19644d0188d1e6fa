-- `replacer::renumber::Renumbering::new` meets its contract: after n turns the numbers of the variables 0 to n are written, and the last
-- is at hand.
-- Assumes nothing.
use mathlib.Core.Path.{sym, ap₂, ◌∙◌, subst⁻¹}
use mathlib.Core.List.{List}
use Prim.Native.Nat.{ℕ, ◌+◌}
use native.Mathlib.Omega.{arith}
use lib.ListN.{set, replicate, length-replicate}
use Rattle.graph.proofs.Renumber.{number_low}
use Rattle.checker.specs.Marks.{marks_in}
use Rattle.checker.proofs.Marking.{most_variables}
use Rattle.replacer.specs.Finishing.{SmallNumbers}
use Rattle.replacer.proofs.Kept.{number_next, number_last, number_small, numbers_start, numbers_more, numbers_all, numbers_small}
use Rattle.replacer.proofs.renumber.Renumbering.new.Goals as goal

pub loop-n-init : goal.loop-n-init
loop-n-init c =
    let ms = marks_in c.args.marks.now in
    record { number_is = sym (number_low c.args.net.now ms 0 (omega arith)); written_so_far = numbers_start c.args.net.now ms 1088 }

pub overflow_add-number : goal.overflow_add-number
overflow_add-number c =
    let more = number_next _ _ c.loop-n.n c.loop-n.invariant.number_is c.stays.ensures in
    let small = number_small c.args.net.now (marks_in c.args.marks.now) (c.loop-n.n + 1) (omega arith) in
    omega arith

pub loop-n-preserved : goal.loop-n-preserved
loop-n-preserved c =
    let n = c.loop-n.n in
    let ms = marks_in c.args.marks.now in
    let more = number_next _ _ c.loop-n.n c.loop-n.invariant.number_is c.stays.ensures in
    let fresh = length-replicate {A = ℕ} most_variables 0 in record {
      number_is = more;
      written_so_far = ap₂ (λ (xs : List ℕ) (x : ℕ). set xs (n + 1) x) c.loop-n.invariant.written_so_far more
          ∙ numbers_more c.args.net.now ms n (replicate most_variables 0) (omega arith);
    }

pub overflow_sub-result : goal.overflow_sub-result
overflow_sub-result c = omega (arith, number_last _ _ c.loop-n.n c.loop-n.invariant.number_is (omega arith))

pub invariant_of-result : goal.invariant_of-result
invariant_of-result c =
    let small = numbers_small c.args.net.now (marks_in c.args.marks.now) c.inputs.ensures.well_formed most_variables in
    record { small = subst⁻¹ SmallNumbers (numbers_all _ _ c.loop-n.n _ c.loop-n.invariant.written_so_far (omega arith)) small }

pub returns : goal.returns
returns c = record {
  gates_value = omega (arith, number_last _ _ c.loop-n.n c.loop-n.invariant.number_is (omega arith));
  numbers_value = numbers_all _ _ c.loop-n.n _ c.loop-n.invariant.written_so_far (omega arith);
}
