-- `cutter::pick` meets its contract: a refusal is the answer, and past it the rule picks.
-- Assumes nothing.
use Rattle.std.proofs.lemmas.Result.{err_from_is_err_and}
use Rattle.graph.proofs.Graph.{net_well_formed}
use Rattle.cutter.proofs.Verdicts.{root_known, pick_refused, pick_fine}
use Rattle.cutter.proofs.pick.Goals as goal

pub returns-in_err-root_verdict : goal.returns-in_err-root_verdict
returns-in_err-root_verdict c =
    let p = err_from_is_err_and c.from_residual.result c.from_residual.ensures.1 in
    rw (p.1, p.2) (pick_refused _ _ c.root_verdict.ensures c.in_err-root_verdict.was)

pub net-requires : goal.net-requires
net-requires c = net_well_formed _ (root_known _ _ c.root_verdict.ensures c.in_ok-root_verdict.was).0

pub pick_leaves-requires : goal.pick_leaves-requires
pick_leaves-requires c =
    let known = root_known _ _ c.root_verdict.ensures c.in_ok-root_verdict.was in
    rw c.net.ensures known.1.is_gate

pub returns : goal.returns
returns c = rw (c.pick_leaves.ensures, c.net.ensures) (pick_fine _ _ c.root_verdict.ensures c.in_ok-root_verdict.was)
