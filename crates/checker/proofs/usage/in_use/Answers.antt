-- `checker::usage::in_use` meets its contract: only a gate is in use, and once the gates above it are done its mark is decided.
-- Assumes nothing.
use mathlib.Core.Path.{sym, ap, ◌∙◌}
use native.Mathlib.Omega.{arith}
use Rattle.graph.specs.Graph.{Net, free, last, IsGate}
use Rattle.checker.proofs.Marking.{marks_length, most_variables, free_unused, past_unused, fresh_have_marks, mark_decided}
use Rattle.checker.proofs.usage.in_use.Goals as goal

pub returns-then-at-inputs : goal.returns-then-at-inputs
returns-then-at-inputs c =
    let inputs = c.inputs.ensures.value ∙ ap (λ (net : Net). free net) c.net-net.ensures.value in
    sym (free_unused c.args.graph.now c.args.v.0 (omega arith))

pub returns-then-last-at : goal.returns-then-last-at
returns-then-last-at c =
    let highest = c.last.ensures.value ∙ ap (λ (net : Net). last net) c.net-net.ensures.value in
    sym (past_unused c.args.graph.now c.args.v.0 (omega arith))

pub mark_each-requires : goal.mark_each-requires
mark_each-requires c =
    let ok = c.outputs.ensures.well_formed in
    rw c.outputs.ensures.value (fresh_have_marks c.args.graph.now ok.lawful most_variables (omega arith))

pub mark_after-requires : goal.mark_after-requires
mark_after-requires c = (omega arith, omega arith, omega (arith, marks_length c.mark_each.new.marks))

pub has_mark-requires : goal.has_mark-requires
has_mark-requires c = omega (arith, marks_length c.mark_after.new.marks)

pub returns : goal.returns
returns c =
    let net = c.net-net.ensures.value in
    let inputs = c.inputs.ensures.value ∙ ap (λ (net : Net). free net) net in
    let highest = c.last.ensures.value ∙ ap (λ (net : Net). last net) net in
    let gate : IsGate c.args.graph.now.net c.args.v.0 = record { above = omega arith; within = omega arith } in
    let outs = rw c.outputs.ensures.value at c.mark_each.ensures in
    let done = rw (c.size.ensures.value, c.inputs-2.ensures.value, net) at c.mark_after.ensures in
    c.has_mark.ensures
    ∙ mark_decided c.args.graph.now c.outputs.ensures.well_formed.lawful most_variables (omega (arith, c.outputs.ensures.well_formed)) outs c.args.v.0 gate
    c.at-3.ensures done
