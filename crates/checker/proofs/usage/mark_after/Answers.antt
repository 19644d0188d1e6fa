-- `checker::usage::mark_after` meets its contract: going on below `next` leads to where going down from the first of them does.
-- Assumes nothing.
use mathlib.Core.Path.{◌≡◌, sym, ap, ◌∙◌}
use Prim.Native.Nat.{◌+◌, ◌-◌}
use native.Mathlib.Omega.{arith}
use Rattle.graph.specs.Graph.{free}
use Rattle.checker.specs.Marks.{marks_in, mark_after}
use Rattle.checker.proofs.Marking.{marks_length, after_step, after_end}
use Rattle.checker.proofs.usage.mark_after.Goals as goal

pub mark_fanins-requires : goal.mark_fanins-requires
mark_fanins-requires c = (
  record { above = omega arith; within = omega arith },
  omega (arith, marks_length c.loop-k.marks, marks_length c.args.marks.now),
)

pub loop-k-preserved : goal.loop-k-preserved
loop-k-preserved c =
    let net = c.args.net.now in
    let v : c.inputs.result + (c.loop-k.k - 1) + 1 ≡ free net + c.loop-k.k = omega arith in
    let marked = rw v at c.mark_fanins.ensures in
    ap (mark_after net c.args.stop (c.loop-k.k - 1 - c.args.stop)) marked
    ∙ after_step net c.args.stop c.loop-k.k (marks_in c.loop-k.marks) (omega arith)
    ∙ c.loop-k.invariant

pub returns : goal.returns
returns c =
    sym (after_end c.args.net.now c.args.stop c.loop-k.k (marks_in c.loop-k.marks) (omega arith)) ∙ c.loop-k.invariant
