-- `promises::table_over` meets its contract: a window has its table.
-- Assumes nothing.
use Rattle.promises.proofs.Contracts.{window_was_tabled}
use Rattle.promises.proofs.table_over.Goals as goal

pub returns : goal.returns
returns c = let tabled-now = c.table.ensures in record { value = tabled-now; tabled = λ known. window_was_tabled _ _ _ _ tabled-now known }
