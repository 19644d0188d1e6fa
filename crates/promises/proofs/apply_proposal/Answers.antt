-- `promises::apply_proposal` meets its contract: a good proposal is accepted where there is room, and what is accepted keeps the outputs.
-- Assumes nothing.
use Rattle.promises.proofs.Contracts.{good_was_applied, applied_keeps}
use Rattle.promises.proofs.apply_proposal.Goals as goal

pub returns : goal.returns
returns c =
    let applied-now = c.apply.ensures in
    record {
      results_after = applied-now;
      good_is_accepted = λ good room. good_was_applied _ _ _ _ _ _ _ applied-now good room;
      accepted_keeps = λ n accepted. applied_keeps _ _ _ _ _ _ _ applied-now n accepted;
    }
