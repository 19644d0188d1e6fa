-- `cutter::verdict::window_verdict` meets its contract: the root's refusals come first, and past them the graph and the root are known.
-- Assumes nothing.
use mathlib.Core.Path.{sym, ap, ◌∙◌}
use Rattle.std.proofs.lemmas.Result.{err_from_is_err_and}
use Rattle.graph.specs.Refuse.{verdict_is}
use Rattle.graph.proofs.Graph.{net_well_formed}
use Rattle.window.proofs.LeavesLaws.{well_set_iff}
use Rattle.cutter.proofs.Verdicts.{root_known, by_root}
use Rattle.cutter.proofs.verdict.window_verdict.Goals as goal

pub returns-in_err-root_verdict : goal.returns-in_err-root_verdict
unfolding verdict_is
returns-in_err-root_verdict c =
    let p = err_from_is_err_and c.from_residual.result c.from_residual.ensures.1 in
    let first = sym c.root_verdict.ensures ∙ ap verdict_is c.in_err-root_verdict.was in
    rw (p.1, p.2) (sym (by_root c.args.graph.now _ _ _ first))

pub net-net-requires : goal.net-net-requires
net-net-requires c = net_well_formed _ (root_known _ _ c.root_verdict.ensures c.in_ok-root_verdict.was).0

pub invariant_of-window : goal.invariant_of-window
invariant_of-window c =
    let known = root_known _ _ c.root_verdict.ensures c.in_ok-root_verdict.was in
    record {
      net_ok = rw c.net-net.ensures (net_well_formed _ known.0);
      within = rw c.net-net.ensures known.1.is_gate.within;
      well_set = (well_set_iff _ _).0 (sym c.well_set.ensures ∙ c.if-not-well_set.false);
    }
