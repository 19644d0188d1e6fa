-- `weigher::held::mark_new_fanins` meets its contract: one fanin after the other is held, and they are lower, so they have marks.
-- Assumes nothing.
use native.Mathlib.Omega.{arith}
use Rattle.graph.proofs.Use.{second_lower}
use Rattle.checker.proofs.Marking.{marks_length}
use Rattle.weigher.proofs.Steps.{few_held}
use Rattle.weigher.proofs.held.mark_new_fanins.Goals as goal

pub mark_new-requires : goal.mark_new-requires
mark_new-requires c =
    let lower = second_lower _ c.fanins_of-gate.ensures.well_formed.lawful c.args.v.0 c.requires.0 in (
      omega (
        arith,
        c.var-2.ensures,
        c.fanins_of-gate.ensures.second_value,
        marks_length c.args.marks.now,
        marks_length c.mark_new-with_first.new.marks,
      ),
      omega (arith, few_held _ _ _ c.mark_new-with_first.ensures),
    )
