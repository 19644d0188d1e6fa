-- `checker::usage::mark_each` meets its contract: marking the literals from k on leads to where marking all of them does.
-- Assumes nothing.
use mathlib.Core.Path.{sym, ◌∙◌}
use native.Mathlib.Omega.{arith}
use Rattle.checker.specs.Marks.{marks_in}
use Rattle.checker.proofs.Marking.{marks_length, each_step, each_end}
use Rattle.checker.proofs.usage.mark_each.Goals as goal

pub put_mark-requires : goal.put_mark-requires
put_mark-requires c =
    let has = c.requires.within c.loop-literal.literal-index (omega arith) in
    omega (arith, c.var.ensures, marks_length c.loop-literal.marks, marks_length c.args.marks.now)

pub loop-literal-preserved : goal.loop-literal-preserved
loop-literal-preserved c =
    let more = each_step c.args.literals.now c.loop-literal.literal-index (marks_in c.loop-literal.marks) (omega arith) in
    rw (c.put_mark.ensures, c.var.ensures) (more ∙ c.loop-literal.invariant)

pub returns : goal.returns
returns c =
    sym (each_end c.args.literals.now c.loop-literal.literal-index (marks_in c.loop-literal.marks) (omega arith)) ∙ c.loop-literal.invariant
