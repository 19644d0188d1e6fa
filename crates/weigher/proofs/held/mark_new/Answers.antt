-- `weigher::held::mark_new` meets its contract: its two tests are the definition's.
-- Assumes nothing.
use mathlib.Core.Path.{sym, ◌∙◌}
use native.Mathlib.Numerals.{add-one}
use native.Mathlib.Omega.{arith}
use Rattle.weigher.proofs.Steps.{held_input, held_marked, held_new}
use Rattle.weigher.proofs.held.mark_new.Goals as goal

pub returns-then-at-inputs : goal.returns-then-at-inputs
returns-then-at-inputs c = sym (held_input _ _ _ (omega (arith, c.at.ensures)))

pub returns-then-has_mark : goal.returns-then-has_mark
returns-then-has_mark c = sym (held_marked _ _ _ (sym c.has_mark.ensures ∙ c.if-has_mark.true))

pub returns : goal.returns
returns c =
    rw (c.put_mark.ensures, add-one c.args.count)
    (sym (held_new _ _ _ (omega arith) (sym c.has_mark.ensures ∙ c.if-has_mark.false)))
