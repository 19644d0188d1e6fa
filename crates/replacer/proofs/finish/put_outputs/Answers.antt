-- `replacer::finish::put_outputs` meets its contract: after k turns the first k outputs are written; an output that is redirected stays
-- among the variables that have numbers.
-- Assumes nothing.
use mathlib.Core.Path.{refl, sym, ap, ap₂, ◌∙◌}
use mathlib.Core.List.{List, map}
use Prim.Native.Nat.{ℕ, ◌≤◌}
use native.Mathlib.Omega.{arith}
use lib.ListN.{length, set, length-map}
use Rattle.graph.specs.Lent.{written}
use Rattle.graph.proofs.Graph.{sinks_below}
use Rattle.graph.proofs.Members.{map_at}
use Rattle.graph.proofs.Lent.{written_more}
use Rattle.checker.proofs.Marking.{most_variables}
use Rattle.replacer.specs.Finishing.{by_numbers}
use Rattle.replacer.proofs.Kept.{redirected_below}
use Rattle.replacer.proofs.finish.put_outputs.Invariants.{word}
use Rattle.replacer.proofs.finish.put_outputs.Goals as goal

pub loop-k-init : goal.loop-k-init
unfolding written
loop-k-init c = refl

pub renumbered-requires : goal.renumbered-requires
renumbered-requires c =
    let r = c.args.rewiring.now in
    let ok = c.outputs-outputs.ensures.well_formed in
    let below = sinks_below r.graph.now ok.lawful most_variables (omega arith) in
    let moved = redirected_below r.root.0 r.proposal r.wires _ most_variables (rw (← c.outputs-outputs.ensures.value) at below) c.loop-k.k (omega arith) in
    omega (arith, moved, c.redirected-l.ensures)

pub loop-k-preserved : goal.loop-k-preserved
loop-k-preserved c =
    let r = c.args.rewiring.now in
    let new = word r.root.0 r.proposal c.args.renumbering.now.numbers in
    let outs = c.outputs-outputs.result.now in
    let k = c.loop-k.k in
    let found =
    c.renumbered.ensures
    ∙ ap (by_numbers c.args.renumbering.now.numbers) c.redirected-l.ensures
    ∙ sym (map_at new 0 0 outs k (omega arith)) in
    let fits : length outs ≤ length c.args.results.now = rw c.outputs-outputs.ensures.value c.requires in
    ap₂ (λ (ws : List ℕ) (w : ℕ). set ws k w) c.loop-k.invariant found
    ∙ written_more (map new outs) c.args.results.now k (omega (arith, length-map outs new)) (omega (arith, length-map outs new))
