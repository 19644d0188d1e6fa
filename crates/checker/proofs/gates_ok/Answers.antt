-- `checker::gates_ok` meets its contract: the gates before k pass.
-- Assumes nothing.
use mathlib.Core.Path.{refl, sym, ◌∙◌}
use native.Mathlib.Omega.{arith}
use Rattle.graph.specs.Lists.{all_below}
use Rattle.checker.proofs.Checks.{all_more, all_stop}
use Rattle.checker.proofs.gates_ok.Invariants.{passes}
use Rattle.checker.proofs.gates_ok.Goals as goal

pub loop-k-init : goal.loop-k-init
unfolding all_below
loop-k-init c = refl

pub returns-then-not-gate_ok : goal.returns-then-not-gate_ok
returns-then-not-gate_ok c =
    sym (all_stop (passes c.args.graph.now.net) c.loop-k.k _ (omega arith) (sym c.gate_ok.ensures ∙ c.if-not-gate_ok.true))

pub loop-k-preserved : goal.loop-k-preserved
loop-k-preserved c =
    all_more (passes c.args.graph.now.net) c.loop-k.k c.loop-k.invariant (sym c.gate_ok.ensures ∙ c.if-not-gate_ok.false)
