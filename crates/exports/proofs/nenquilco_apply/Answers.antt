-- `exports::nenquilco_apply` meets its contract: what `replacer::apply` answers, told in numbers.
-- Assumes nothing.
use mathlib.Core.Path.{◌∙◌}
use Rattle.graph.specs.Lent.{written}
use Rattle.replacement.specs.Calls.{applied_outcome}
use Rattle.exports.proofs.Exported.{answer_told}
use Rattle.exports.proofs.nenquilco_apply.Goals as goal

-- each arm: the call's answer, read over the leaves at the six places
pub returns-in-Err : goal.returns-in-Err
unfolding applied_outcome written
returns-in-Err c =
    let q = c.in-Err.is in
    let applied = rw (c.new-graph.ensures, c.leaves_at-leaves.ensures) at c.apply.ensures in
    answer_told applied_outcome _ _ _ applied _ (c.number.ensures ∙ rw q) _ _ (rw q)

pub returns-in-Ok : goal.returns-in-Ok
unfolding applied_outcome written
returns-in-Ok c =
    let q = c.in-Ok.is in
    let applied = rw (c.new-graph.ensures, c.leaves_at-leaves.ensures) at c.apply.ensures in
    answer_told applied_outcome _ _ _ applied _ (rw q) _ _ (rw q)
