-- `graph::algebra::gate_value` meets its contract: the AND of the two literals' values.
-- Assumes nothing.
use mathlib.Core.Path.{sym, ap, ap₂, ◌∙◌}
use Rattle.graph.specs.Sweep.{lit_value}
use Rattle.graph.proofs.Sweep.{by_gate_gate}
use Rattle.graph.proofs.algebra.gate_value.Goals as goal

pub returns : goal.returns
returns g c =
    let K = g.A.Algebra.ops in
    let vs = c.args.values.now in
    let one = c.literal_value.ensures ∙ ap (lit_value K vs) c.fanins_of-gate.ensures.first_value in
    let other = c.literal_value-2.ensures ∙ ap (lit_value K vs) c.fanins_of-gate.ensures.second_value in
    c.and.ensures ∙ ap₂ K.conj one other ∙ sym (by_gate_gate K c.args.net.now c.args.v.0 vs c.requires.0.above)
