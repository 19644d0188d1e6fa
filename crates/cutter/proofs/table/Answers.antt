-- `cutter::table` meets its contract: a refusal is the answer, and past it the sweep gives the root's table.
-- Assumes nothing.
use Rattle.std.proofs.Common.{ℕ, Ok, ap, ◌∙◌}
use Rattle.std.proofs.lemmas.Result.{err_from_is_err_and}
use Rattle.graph.proofs.Graph.{net_well_formed}
use Rattle.cutter.proofs.Verdicts.{window_known, table_refused, table_fine}
use Rattle.cutter.proofs.table.Goals as goal

pub returns-in_err-window_verdict : goal.returns-in_err-window_verdict
returns-in_err-window_verdict c =
    let p = err_from_is_err_and c.from_residual.result c.from_residual.ensures.1 in
    rw (p.1, p.2) (table_refused _ _ _ c.window_verdict.ensures c.in_err-window_verdict.was)

pub net-net-requires : goal.net-net-requires
net-net-requires c = net_well_formed _ (window_known _ _ _ c.window_verdict.ensures c.in_ok-window_verdict.was).graph

pub invariant_of-window : goal.invariant_of-window
invariant_of-window c =
    let known = window_known _ _ _ c.window_verdict.ensures c.in_ok-window_verdict.was in
    record {
      net_ok = rw c.net-net.ensures (net_well_formed _ known.graph);
      within = rw c.net-net.ensures known.root_used.is_gate.within;
      well_set = known.leaves;
    }

pub returns : goal.returns
returns c =
    ap (λ (t : ℕ). Ok (record { 0 = t })) (rw c.net-net.ensures at c.root_table.ensures) ∙ table_fine _ _ _ c.window_verdict.ensures c.in_ok-window_verdict.was
