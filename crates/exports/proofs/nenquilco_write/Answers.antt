-- `exports::nenquilco_write` meets its contract: what `writer::write` answers, told in numbers.
-- Assumes nothing.
use mathlib.Core.Path.{◌∙◌}
use Rattle.graph.specs.Lent.{written}
use Rattle.text.specs.Calls.{written_outcome}
use Rattle.exports.proofs.Exported.{answer_told}
use Rattle.exports.proofs.nenquilco_write.Goals as goal

pub returns-in-Err : goal.returns-in-Err
unfolding written_outcome written
returns-in-Err c =
    let q = c.in-Err.is in
    answer_told written_outcome _ _ _ (rw c.new-graph.ensures at c.write.ensures) _ (c.number.ensures ∙ rw q) _ _ (rw q)

pub returns-in-Ok : goal.returns-in-Ok
unfolding written_outcome written
returns-in-Ok c =
    let q = c.in-Ok.is in
    answer_told written_outcome _ _ _ (rw c.new-graph.ensures at c.write.ensures) _ (rw q) _ _ (rw q)
