-- `writer::put::put_text` meets its contract: `aag` and a space are stored, and the line of the counts, the input lines,
-- the output lines and the gate lines are laid behind them one after another.
-- Assumes nothing.
use mathlib.Core.Path.{◌≡◌, sym}
use mathlib.Core.List.{List, ◌++◌}
use Prim.Native.Nat.{ℕ}
use native.Mathlib.Omega.{arith}
use lib.ListN.{drop}
use Rattle.graph.specs.Graph.{sinks}
use Rattle.graph.specs.Lent.{laid}
use Rattle.graph.proofs.Lent.{Put, put_then, put_front}
use Rattle.text.specs.Line.{line, lines}
use Rattle.text.specs.States.{aag, counts, input_numbers, output_numbers}
use Rattle.writer.proofs.Writing.{gate_part, text_parts, text_size}
use Rattle.writer.proofs.put.put_text.Goals as goal

aag_put : (before front : List ℕ) → front ≡ aag → Put 0 aag before 4 (front ++ drop 4 before)
unfolding laid
aag_put before front e = (omega arith, rw e)

pub returns-clause-bytes_after : goal.returns-clause-bytes_after
returns-clause-bytes_after c =
    let g = c.args.graph.now in
    let before = c.args.bytes.now in
    let numbers = line (counts g) in
    let inputs = lines (input_numbers g.net) in
    let outputs = lines (output_numbers (sinks g)) in
    let size = text_size g in
    let counted = rw c.counts.ensures at c.put_line-after_counts.ensures in
    let inputs_put = rw c.net-net.ensures.value at c.put_inputs-after_inputs.ensures in
    let outputs_put = rw c.outputs.ensures.value at c.put_outputs-after_outputs.ensures in
    let gates_put = rw c.net-net.ensures.value at c.put_gates.ensures in
    let all_parts = put_front before (sym (text_parts g))
    (put_then 0 (aag ++ numbers ++ inputs ++ outputs) (gate_part g.net) before (omega arith)
    (put_then 0 (aag ++ numbers ++ inputs) outputs before (omega arith)
    (put_then 0 (aag ++ numbers) inputs before (omega arith)
    (put_then 0 aag numbers before (omega arith) (aag_put before c.copy_from_slice.new.self c.copy_from_slice.ensures.after)
    (counted.value, counted.bytes_after))
    (inputs_put.value, inputs_put.bytes_after))
    (outputs_put.value, outputs_put.bytes_after))
    (gates_put.value, gates_put.bytes_after)) in
    all_parts.1
