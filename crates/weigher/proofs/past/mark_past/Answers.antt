-- `weigher::past::mark_past` meets its contract: the pass stops after the root, whose mark is taken off before it goes on below.
-- Assumes nothing.
use mathlib.Core.Path.{ap}
use native.Mathlib.Omega.{arith}
use lib.ListN.{length, length-set}
use Rattle.graph.specs.Graph.{Net, free, size}
use Rattle.graph.proofs.Marks.{each_length}
use Rattle.checker.specs.Marks.{marks_in}
use Rattle.weigher.proofs.PastRoot.{after_length, past_root}
use Rattle.weigher.proofs.past.mark_past.Goals as goal

-- each pass leaves as many marks as there were
pub mark_after-requires : goal.mark_after-requires
mark_after-requires c =
    let net = c.net-net.ensures.value in
    let inputs = ap (λ (net : Net). free net) net in
    let gates = ap (λ (net : Net). size net) net in
    (omega arith, omega arith, grind (arith, each_length))

pub put_mark-requires : goal.put_mark-requires
put_mark-requires c = grind (arith, each_length, after_length)

pub mark_after-requires-2 : goal.mark_after-requires-2
mark_after-requires-2 c =
    let net = c.net-net.ensures.value in
    let inputs = ap (λ (net : Net). free net) net in
    let gates = ap (λ (net : Net). size net) net in
    (omega arith, omega arith, grind (arith, each_length, after_length, length-set))

pub returns : goal.returns
returns c =
    let net = c.net-net.ensures.value in
    let ok = c.outputs.ensures.well_formed in
    let outs = rw c.outputs.ensures.value at c.mark_each.ensures in
    let above = rw (c.size.ensures.value, c.inputs.ensures.value, net) at c.mark_after.ensures in
    let below = rw (c.inputs.ensures.value, net) at c.mark_after-2.ensures in
    past_root c.args.graph.now ok.lawful c.args.root.0 c.requires.gate.0 (length (marks_in c.args.marks.now)) c.requires.gate.1
    c.at.ensures c.requires.marks_value outs above c.put_mark.ensures below
