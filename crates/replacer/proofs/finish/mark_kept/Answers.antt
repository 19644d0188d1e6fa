-- `replacer::finish::mark_kept` meets its contract: what the literals reach is marked, and the root where an AND stands there.
-- Assumes nothing.
use mathlib.Core.Path.{ap, ◌∙◌, subst⁻¹}
use mathlib.Core.Bool.{Bool, true}
use mathlib.Core.List.{List}
use Prim.Native.Nat.{ℕ, ◌<◌}
use native.Mathlib.Omega.{arith}
use lib.ListN.{length, set}
use Rattle.graph.proofs.Graph.{net_well_formed}
use Rattle.checker.specs.Marks.{marks_in}
use Rattle.weigher.specs.Held.{set_each}
use Rattle.weigher.proofs.Steps.{set_each_length}
use Rattle.replacer.specs.Finishing.{KeptPast}
use Rattle.replacer.proofs.Finishing.{literal_keeps, and_keeps}
use Rattle.replacer.proofs.finish.mark_kept.Goals as goal

-- marks that are set leave a place for the root
root_marked : (root : ℕ) (reached : List ℕ) (given : List Bool) → root < length given → root < length (set_each true reached given)
root_marked root reached given has = omega (arith, set_each_length true reached given)

pub put_mark-requires : goal.put_mark-requires
put_mark-requires c =
    let r = c.args.rewiring.now in
    let gate = r.gate in
    subst⁻¹ (λ (ms : List Bool). r.root.0 < length ms) c.mark_reached.ensures.marks_after (root_marked _ _ _ (omega arith))

pub returns-then-proposal-ne0 : goal.returns-then-proposal-ne0
returns-then-proposal-ne0 c =
    let r = c.args.rewiring.now in
    let gate = r.gate in
    let given = marks_in c.args.marks.now in
    let walk = rw c.net-net.ensures.value at c.mark_reached.ensures.holding in
    subst⁻¹ (KeptPast r.graph.now.net given r.root.0 r.proposal)
    (c.put_mark.ensures ∙ ap (λ (ms : List Bool). set ms r.root.0 true) c.mark_reached.ensures.marks_after)
    (and_keeps r.graph.now.net (net_well_formed r.graph.now c.net-net.ensures.well_formed) r.root.0 gate r.proposal r.wires given c.mark_reached.new.list c.mark_reached.result walk
    c.if-proposal-ne0.true (root_marked _ _ _ (omega arith)))

pub returns-else-proposal-ne0 : goal.returns-else-proposal-ne0
returns-else-proposal-ne0 c =
    let r = c.args.rewiring.now in
    let given = marks_in c.args.marks.now in
    let walk = rw c.net-net.ensures.value at c.mark_reached.ensures.holding in
    subst⁻¹ (KeptPast r.graph.now.net given r.root.0 r.proposal) c.mark_reached.ensures.marks_after
    (literal_keeps r.graph.now.net (net_well_formed r.graph.now c.net-net.ensures.well_formed) r.root.0 r.gate r.proposal r.wires given c.mark_reached.new.list c.mark_reached.result walk
    c.if-proposal-ne0.false)
