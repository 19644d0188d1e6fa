-- `exports::nenquilco_evaluate` meets its contract: what `evaluator::evaluate` answers, told in numbers.
-- Assumes nothing.
use mathlib.Core.Path.{◌∙◌}
use Rattle.graph.specs.Lent.{written}
use Rattle.graph.specs.Evaluate.{evaluated_outcome}
use Rattle.exports.proofs.Exported.{answer_told}
use Rattle.exports.proofs.nenquilco_evaluate.Goals as goal

pub returns-in-Err : goal.returns-in-Err
unfolding evaluated_outcome written
returns-in-Err c =
    let q = c.in-Err.is in
    answer_told evaluated_outcome _ _ _ (rw c.new-graph.ensures at c.evaluate.ensures) _ (c.number.ensures ∙ rw q) _ _ (rw q)

pub returns-in-Ok : goal.returns-in-Ok
unfolding evaluated_outcome written
returns-in-Ok c =
    let q = c.in-Ok.is in
    answer_told evaluated_outcome _ _ _ (rw c.new-graph.ensures at c.evaluate.ensures) _ (rw q) _ _ (rw q)
