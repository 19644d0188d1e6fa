-- `promises::evaluate_under` meets its contract: what an assignment of a well-formed graph's inputs gives is left.
-- Assumes nothing.
use Rattle.promises.proofs.Contracts.{assignment_was_evaluated}
use Rattle.promises.proofs.evaluate_under.Goals as goal

pub returns : goal.returns
returns c =
    let left-now = c.evaluate.ensures in
    record { values_value = left-now; values_left = λ ok assigns room. assignment_was_evaluated _ _ _ _ _ left-now ok assigns room }
