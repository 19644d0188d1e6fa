-- `evaluator::evaluate` meets its contract: a verdict that refuses leaves the values, and past it the outputs' values are written.
-- Assumes nothing.
use native.Mathlib.Omega.{arith}
use lib.ListN.{length}
use Rattle.std.proofs.lemmas.Result.{err_from_is_err_and}
use Rattle.graph.proofs.Graph.{net_well_formed, sinks_below}
use Rattle.evaluator.proofs.Evaluating.{evaluates_nothing, fine_means, evaluates_outputs}
use Rattle.evaluator.proofs.evaluate.Goals as goal

-- past the refusals the graph is well formed, the values are one an input, and there is room for the outputs'
pub net-requires : goal.net-requires
net-requires c =
    let ok = fine_means _ _ _ c.evaluate_verdict.ensures c.in_ok-evaluate_verdict.was in
    net_well_formed _ ok.0

pub sweep-requires : goal.sweep-requires
sweep-requires c =
    let ok = fine_means _ _ _ c.evaluate_verdict.ensures c.in_ok-evaluate_verdict.was in
    rw c.net.ensures (ok.1, omega arith)

pub put_values-requires : goal.put_values-requires
put_values-requires c =
    let ok = fine_means _ _ _ c.evaluate_verdict.ensures c.in_ok-evaluate_verdict.was in
    rw c.outputs.ensures (sinks_below _ ok.0.lawful (length c.sweep.new.known) (omega (arith, c.sweep.auto.known)), ok.2)

pub returns-in_err-evaluate_verdict : goal.returns-in_err-evaluate_verdict
returns-in_err-evaluate_verdict c =
    let p = err_from_is_err_and c.from_residual.result c.from_residual.ensures.1 in
    rw (p.1, p.2) (evaluates_nothing _ _ _ c.evaluate_verdict.ensures c.in_err-evaluate_verdict.was)

pub returns : goal.returns
returns c =
    let put = rw c.outputs.ensures at c.put_values.ensures in
    rw c.outputs-2.ensures
    (evaluates_outputs _ _ _ c.evaluate_verdict.ensures c.in_ok-evaluate_verdict.was _ (rw c.net.ensures at c.sweep.ensures) put)
