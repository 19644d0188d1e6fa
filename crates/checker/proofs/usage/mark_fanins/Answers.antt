-- `checker::usage::mark_fanins` meets its contract: its test is the definition's, and the fanins are lower, so they have marks.
-- Assumes nothing.
use mathlib.Core.Path.{sym, ap, ◌∙◌}
use Rattle.graph.specs.Literal.{var_of}
use Rattle.graph.specs.Use.{mark_fanins}
use Rattle.checker.proofs.Marking.{fanins_set}
use Rattle.checker.proofs.usage.mark_fanins.Goals as goal

pub returns-then-has_mark : goal.returns-then-has_mark
returns-then-has_mark c =
    let marked = sym c.has_mark.ensures ∙ c.if-has_mark.true in
    fanins_set _ _ _ marked (c.var.ensures ∙ ap var_of c.fanins_of-gate.ensures.first_value) c.put_mark.ensures
    (c.var-then-has_mark.ensures ∙ ap var_of c.fanins_of-gate.ensures.second_value) c.put_mark-then-has_mark.ensures

pub returns-else-has_mark : goal.returns-else-has_mark
unfolding mark_fanins
returns-else-has_mark c = rw (sym c.has_mark.ensures ∙ c.if-has_mark.false)
