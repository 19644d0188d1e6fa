-- The public calls in numbers: the refusal's number and the values that come with it, over what was lent.
-- Assumes nothing.
use Rattle.std.specs.Prelude.{ℕ, ◌≡◌, List, [], Result}
use Rattle.graph.specs.Refuse.{Outcome}
use Rattle.graph.specs.Graph.{graph_of}
use Rattle.graph.specs.Lent.{written, Buffers, buffers_of, Effect}
use Rattle.graph.specs.declared.refusal.Refusal.{Refusal}
use Rattle.graph.specs.Evaluate.{evaluate_effect, evaluated_outcome}
use Rattle.text.specs.declared.counts.Counts.{Counts}
use Rattle.text.specs.Calls.{read_effect, read_outcome, write_effect, written_outcome}
use Rattle.window.specs.declared.leaf_set.Leaves.{Leaves}
use Rattle.window.specs.Leaves.{variables}
use Rattle.window.specs.Calls.{pick_answer, pick_outcome, table_answer, table_outcome}
use Rattle.replacement.specs.declared.types.Proposal.{Proposal}
use Rattle.replacement.specs.declared.types.Applied.{Applied}
use Rattle.replacement.specs.Calls.{apply_effect, applied_outcome}

abbrev pub reads : List ℕ → List ℕ → List ℕ → Effect (Result Counts Refusal) Buffers
reads text gates outputs = read_effect text (buffers_of gates outputs)

abbrev pub read_numbers : List ℕ → List ℕ → List ℕ → Outcome
read_numbers text gates outputs = read_outcome (reads text gates outputs).answer

abbrev pub writes : ℕ → List ℕ → List ℕ → List ℕ → Effect (Result ℕ Refusal) (List ℕ)
writes inputs gates outputs bytes = write_effect (graph_of inputs gates outputs) bytes

abbrev pub written_numbers : ℕ → List ℕ → List ℕ → List ℕ → Outcome
written_numbers inputs gates outputs bytes = written_outcome (writes inputs gates outputs bytes).answer

abbrev pub evaluates : ℕ → List ℕ → List ℕ → List ℕ → List ℕ → Effect (Result ℕ Refusal) (List ℕ)
evaluates inputs gates outputs assignment values = evaluate_effect (graph_of inputs gates outputs) assignment values

abbrev pub evaluated_numbers : ℕ → List ℕ → List ℕ → List ℕ → List ℕ → Outcome
evaluated_numbers inputs gates outputs assignment values = evaluated_outcome (evaluates inputs gates outputs assignment values).answer

abbrev pub picked_numbers : ℕ → List ℕ → List ℕ → ℕ → Outcome
picked_numbers inputs gates outputs root = pick_outcome (pick_answer (graph_of inputs gates outputs) root)

-- n leaves in these places
abbrev pub leaves_at : ℕ → List ℕ → Leaves
leaves_at n places = record { count = n; places = variables places }

abbrev pub table_numbers : ℕ → List ℕ → List ℕ → ℕ → Leaves → Outcome
table_numbers inputs gates outputs root w = table_outcome (table_answer (graph_of inputs gates outputs) root w)

-- a proposal by its four numbers
abbrev pub proposal_by : ℕ → ℕ → ℕ → ℕ → Proposal
proposal_by kind first second turned =
    record { kind = kind; first = record { 0 = first }; second = record { 0 = second }; turned = turned }

abbrev pub applies : ℕ → List ℕ → List ℕ → ℕ → Leaves → Proposal → List ℕ → List ℕ → Effect (Result Applied Refusal) Buffers
applies inputs gates outputs root w p words results = apply_effect (graph_of inputs gates outputs) root w p (buffers_of words results)

abbrev pub applied_numbers : ℕ → List ℕ → List ℕ → ℕ → Leaves → Proposal → List ℕ → List ℕ → Outcome
applied_numbers inputs gates outputs root w p words results =
    applied_outcome (applies inputs gates outputs root w p words results).answer

-- what is left in lent lists where none is lent
abbrev pub no_lists : List ℕ
no_lists = []

-- what a call in numbers comes to: its number, the numbers behind its references, which a refusal does not touch, and its lent lists
pub record Told {L : Type 0} (outcome : Outcome) (lent : L) (before : List ℕ) (r : ℕ) (after : List ℕ) (left : L) : Type 0 where
  pub number : r ≡ outcome.number
  pub values : after ≡ written outcome.values before
  pub lists : left ≡ lent
