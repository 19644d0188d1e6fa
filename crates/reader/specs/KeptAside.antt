-- Words kept aside until the whole text is judged: they stand for a graph.
-- Only contracts inside the crate speak of these.
-- Assumes nothing.
use Rattle.std.specs.Prelude.{◌*◌, ◌≤◌, take, Result, Ok, Err}
use Rattle.graph.specs.declared.refusal.Refusal.{Refusal}
use Rattle.graph.specs.Lent.{Buffers}
use Rattle.graph.specs.Graph.{graph_of, most_inputs, most_outputs, most_gates}
use Rattle.text.specs.declared.counts.Counts.{Counts}
use Rattle.text.specs.Reading.{Reading, refuses, yields}

-- the answer, where these lists hold the gates' and the outputs' words
unfoldable pub reading_of : Buffers → Result Counts Refusal → Reading
reading_of b (Ok n) = yields (graph_of n.inputs (take (2 * n.gates) b.gates) (take n.outputs b.outputs))
reading_of b (Err r) = refuses r

-- an answer's counts are within the limits
pub record Counted (n : Counts) : Type 0 where
  pub inputs_few : n.inputs ≤ most_inputs
  pub gates_few : n.gates ≤ most_gates
  pub outputs_few : n.outputs ≤ most_outputs
