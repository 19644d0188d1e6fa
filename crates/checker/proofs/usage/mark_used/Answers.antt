-- `checker::usage::mark_used` meets its contract: outputs first, then the whole pass.
-- Assumes nothing.
use mathlib.Core.Path.{ap, ◌∙◌}
use native.Mathlib.Omega.{arith}
use lib.ListN.{length}
use Rattle.graph.proofs.Marks.{each_length}
use Rattle.checker.specs.Marks.{marks_in}
use Rattle.checker.proofs.Marking.{marks_made}
use Rattle.checker.proofs.usage.mark_used.Goals as goal

pub mark_after-requires : goal.mark_after-requires
mark_after-requires c =
    let long = ap length c.mark_each.ensures ∙ each_length c.outputs.result.now (marks_in c.args.marks.now) in
    let room = rw (← c.net-net.ensures.value) at c.requires.marks_there in
    (omega arith, omega arith, omega (arith, long, room))

pub returns : goal.returns
returns c =
    let outs = rw c.outputs.ensures.value at c.mark_each.ensures in
    let done = rw (c.size.ensures.value, c.net-net.ensures.value) at c.mark_after.ensures in
    marks_made c.args.graph.now (length (marks_in c.args.marks.now)) c.requires.marks_value outs done
