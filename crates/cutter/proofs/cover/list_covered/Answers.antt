-- `cutter::cover::list_covered` meets its contract: the covered variables below n stand at the front of the list.
-- Assumes nothing.
use Rattle.std.proofs.Common.{arith}
use Rattle.cutter.proofs.Sweeping.{covered_in_few, listed_none, listed_length, listed_on, listed_off}
use Rattle.cutter.proofs.cover.list_covered.Goals as goal
use Rattle.cutter.proofs.cover.list_covered.Goals.{then-covers-at, else-covers-at}

pub loop-n-init : goal.loop-n-init
loop-n-init c = listed_none _ _

pub offset_bounds-list-count : goal.offset_bounds-list-count
offset_bounds-list-count c = omega (arith, c.loop-n.invariant.counted, covered_in_few c.args.covers.now c.loop-n.n)

pub bounds-list-count : goal.bounds-list-count
bounds-list-count c =
    omega (arith, listed_length _ c.loop-n.invariant (omega arith), c.loop-n.invariant.counted, covered_in_few c.args.covers.now c.loop-n.n)

pub overflow_add-count : goal.overflow_add-count
overflow_add-count c =
    omega (arith, c.loop-n.invariant.counted, covered_in_few c.args.covers.now c.loop-n.n)

pub loop-n-preserved : goal.loop-n-preserved
loop-n-preserved c = elim c.if-covers-at.branch [
  | then-covers-at w ↦ rw (w.list-is, w.count-is) (listed_on _ c.loop-n.invariant c.at.ensures (omega arith) w.if-covers-at.true)
  | else-covers-at w ↦ rw (w.list-is, w.count-is) (listed_off _ c.loop-n.invariant c.at.ensures w.if-covers-at.false)
]
