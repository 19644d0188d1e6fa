-- `exports::nenquilco_read` meets its contract: what `reader::read` answers, told in numbers.
-- Assumes nothing.
use mathlib.Core.Path.{◌∙◌}
use Rattle.graph.specs.Lent.{written}
use Rattle.text.specs.Calls.{read_outcome}
use Rattle.exports.proofs.Exported.{answer_told}
use Rattle.exports.proofs.nenquilco_read.Goals as goal

pub returns-in-Err : goal.returns-in-Err
unfolding read_outcome written
returns-in-Err c =
    let q = c.in-Err.is in
    answer_told read_outcome _ _ _ c.read.ensures _ (c.number.ensures ∙ rw q) _ _ (rw q)

pub returns-in-Ok : goal.returns-in-Ok
unfolding read_outcome written
returns-in-Ok c =
    let q = c.in-Ok.is in
    answer_told read_outcome _ _ _ c.read.ensures _ (rw q) _ _ (rw q)
