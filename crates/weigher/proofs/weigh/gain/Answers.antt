-- `weigher::weigh::gain` meets its contract: what goes, less what the proposal puts there and what its literals hold back.
-- Assumes nothing.
use native.Mathlib.Omega.{arith}
use Rattle.replacement.proofs.Weighed.{new_most}
use Rattle.weigher.proofs.Weighing.{gain_counted}
use Rattle.weigher.proofs.weigh.gain.Goals as goal

pub returns-clause-gains : goal.returns-clause-gains
returns-clause-gains c = gain_counted _ _ _ _ _ c.held_back-held.ensures.counts_held (omega (arith, new_most c.args.proposal))
