-- `weigher::held::mark_reached` meets its contract: both literals' gates are held first, then the fanins of each gate that is listed; what
-- is done so far is a stage of the walk, and no more gates are listed than there are.
-- Assumes nothing.
use mathlib.Core.Path.{◌≡◌, subst}
use mathlib.Core.List.{[], ◌∷◌}
use native.Mathlib.Omega.{arith}
use lib.ListN.{take}
use Rattle.checker.specs.Marks.{marks_in}
use Rattle.checker.proofs.Marking.{marks_length}
use Rattle.weigher.specs.Held.{walked_to, Holding}
use Rattle.weigher.proofs.Steps.{two_held, few_held, listed_most, marks_room}
use Rattle.weigher.proofs.Walk.{stage_start, stage_step, stage_holding}
use Rattle.weigher.proofs.held.mark_reached.Goals as goal

pub mark_new-count-requires : goal.mark_new-count-requires
mark_new-count-requires c = (
  omega (arith, c.var-2.ensures, marks_length c.args.marks.now, marks_length c.mark_new-with_first.new.marks),
  omega (arith, few_held _ _ _ c.mark_new-with_first.ensures),
)

pub loop-done-init : goal.loop-done-init
loop-done-init c =
    let net = c.args.net.now in
    stage_start net c.args.first.0 c.args.second.0 (marks_in c.args.marks.now) c.requires.room.0 c.requires.first_bound.0
    c.requires.first_bound.1 c.args.list.now (omega arith)
    (two_held _ _ c.mark_new-with_first.ensures c.mark_new-count.ensures c.inputs-inputs.ensures.value c.var.ensures c.var-2.ensures)

-- no more are listed than there are gates, so there is room for two more
pub mark_new_fanins-count-requires : goal.mark_new_fanins-count-requires
mark_new_fanins-count-requires c =
    let listing = c.loop-done.invariant.listing in
    let gate = listing.gates c.loop-done.done (omega arith) in (
      gate,
      omega (arith, gate.within, marks_room _ _ _ c.requires.room.0 _ listing),
      omega (arith, listed_most listing),
    )

pub loop-done-smaller : goal.loop-done-smaller
loop-done-smaller c = omega (arith, listed_most c.loop-done.invariant.listing)

-- once the fanins of one more are held the walk is one further on
pub loop-done-preserved : goal.loop-done-preserved
loop-done-preserved c =
    let net = c.args.net.now in
    let literals = c.args.first.0 ∷ c.args.second.0 ∷ [] in
    let walked = walked_to (marks_in c.loop-done.marks) c.loop-done.list c.loop-done.count in
    let so_far = c.loop-done.invariant in
    stage_step net literals (marks_in c.args.marks.now) c.requires.room.0 c.inputs-inputs.ensures.well_formed.lawful c.loop-done.done walked so_far
    (omega arith) (omega (arith, listed_most so_far.listing)) c.mark_new_fanins-count.ensures

pub returns : goal.returns
returns c =
    let net = c.args.net.now in
    let literals = c.args.first.0 ∷ c.args.second.0 ∷ [] in
    let given = marks_in c.args.marks.now in
    let walked = walked_to (marks_in c.loop-done.marks) c.loop-done.list c.loop-done.count in
    let so_far = c.loop-done.invariant in
    let all_done : c.loop-done.done ≡ c.loop-done.count = omega (arith, so_far.done_within) in record {
      holding = subst (Holding net literals given (take c.loop-done.count c.loop-done.list)) all_done
          (stage_holding net literals given c.loop-done.done walked so_far);
      well_formed = c.inputs-inputs.ensures.well_formed;
      marks_after = so_far.listing.marks_are;
    }
