-- `exports::nenquilco_table` meets its contract: what `cutter::table` answers, told in numbers.
-- Assumes nothing.
use mathlib.Core.Path.{◌∙◌}
use Rattle.graph.specs.Lent.{written}
use Rattle.window.specs.Calls.{table_outcome}
use Rattle.exports.proofs.Exported.{value_told}
use Rattle.exports.proofs.nenquilco_table.Goals as goal

-- each arm: the call's answer, read over the leaves at the six places
pub returns-in-Err : goal.returns-in-Err
unfolding table_outcome written
returns-in-Err c =
    let q = c.in-Err.is in
    let answered = rw (c.new-graph.ensures, c.leaves_at-leaves.ensures) at c.table.ensures in
    value_told table_outcome _ _ answered _ (c.number.ensures ∙ rw q) _ _ (rw q)

pub returns-in-Ok : goal.returns-in-Ok
unfolding table_outcome written
returns-in-Ok c =
    let q = c.in-Ok.is in
    let answered = rw (c.new-graph.ensures, c.leaves_at-leaves.ensures) at c.table.ensures in
    value_told table_outcome _ _ answered _ (rw q) _ _ (rw q)
