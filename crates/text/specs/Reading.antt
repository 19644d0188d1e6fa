-- Reading any bytes whatever: the graph that they state, or the refusal that the order of refusals selects.
-- Assumes nothing.
use Rattle.std.specs.Prelude.{ℕ, suc, ◌+◌, ◌*◌, ◌≤◌, Bool, true, false, cond, not, ◌&&◌, ◌||◌, leb, ltb, eqb, length, get_or}
use mathlib.Core.List.{List, [], ◌∷◌, map, flat_map}
use Rattle.std.proofs.Math.Option.{Option, none, some}
use Rattle.graph.specs.declared.refusal.Refusal.{Refusal}
use Rattle.graph.specs.declared.refusal.Refusal.TheVariants.{BadHeader, TooLarge, Latches, BadCount, BadLine, BadLiteral}
use Rattle.graph.specs.Lists.{gather, joined, parted}
use Rattle.graph.specs.Refuse.{Row, ◌⇒◌, first_refusal}
use Rattle.graph.specs.Graph.{Graph, graph_of, WellFormed, larger_first, most_inputs, most_outputs, most_gates}
use Rattle.text.specs.declared.header.Header.{Header}
use Rattle.text.specs.Number.{Front}
use Rattle.text.specs.Line.{◌>>=◌, after, line_of}
use Rattle.text.specs.States.{aag, skipped, States}

-- ---- the first line

-- the counts that a header states: M I L O A
abbrev pub header_of : List ℕ → Header
header_of ns = record { highest = get_or ns 0 0; inputs = get_or ns 1 0; latches = get_or ns 2 0; outputs = get_or ns 3 0; gates = get_or ns 4 0 }

-- how many variables stand before the first gate
abbrev pub free_of : Header → ℕ
free_of h = h.inputs

-- the five numbers of a well-shaped first line, and the text that follows it
unfoldable pub header_line : List ℕ → Option (Front (List ℕ))
unfolding after line_of
header_line t = do
  t' ← after aag t
  line_of 5 t'

-- a text has at most so many bytes
abbrev pub most_bytes : ℕ
most_bytes = 65535

-- a header or a text over the limits; latches; a count that does not add up
unfoldable pub header_refusals : List ℕ → Header → List Row
header_refusals t h =
    (ltb most_inputs h.inputs || ltb most_outputs h.outputs || ltb most_gates h.gates || ltb most_bytes (length t)) ⇒ TooLarge
    ∷ not (eqb h.latches 0) ⇒ Latches
    ∷ not (eqb h.highest (free_of h + h.gates)) ⇒ BadCount
    ∷ []

-- ---- the later lines

-- a line that is needed: how many numbers it has, and the rule that they keep
pub record Needed : Type 0 where
  pub numbers : ℕ
  pub rule : List ℕ → Bool

-- input line k is 2k
unfoldable pub input_needed : ℕ → Needed
input_needed k = record { numbers = 1; rule = λ ns. eqb (get_or ns 0 0) (2 * k) }

-- an output is any literal up to 2M + 1
unfoldable pub output_needed : Header → Needed
output_needed h = record { numbers = 1; rule = λ ns. leb (get_or ns 0 0) (2 * h.highest + 1) }

-- the line of variable v's gate has left side 2v, and both right sides are below it
unfoldable pub gate_needed : ℕ → Needed
gate_needed v = record { numbers = 3; rule = λ ns. eqb (get_or ns 0 0) (2 * v) && (ltb (get_or ns 1 0) (2 * v) && ltb (get_or ns 2 0) (2 * v)) }

-- the lines of each section
abbrev pub inputs_needed : Header → List Needed
inputs_needed h = gather (λ k. input_needed (suc k) ∷ []) h.inputs

abbrev pub outputs_needed : Header → List Needed
outputs_needed h = gather (λ k. output_needed h ∷ []) h.outputs

abbrev pub gates_needed : Header → List Needed
gates_needed h = gather (λ k. gate_needed (suc (free_of h + k)) ∷ []) h.gates

-- the sections after the first line, in order
unfoldable pub sections : Header → List (List Needed)
unfolding gather input_needed output_needed gate_needed
sections h = inputs_needed h ∷ outputs_needed h ∷ gates_needed h ∷ []

unfoldable pub lines_needed : Header → List Needed
unfolding joined sections
lines_needed h = joined (sections h)

-- the numbers of all the lines, or the refusal of the first that is not right
pub data Lines : Type 0 where
  wrong : Refusal → Lines
  right : List (List ℕ) → Lines

unfoldable pub with_line : List ℕ → Lines → Lines
with_line ns (wrong r) = wrong r
with_line ns (right nss) = right (ns ∷ nss)

-- a line that is missing or misshapen is a BAD LINE, a well-shaped one that breaks its rule a BAD LITERAL; the earlier line decides,
-- and the rest counts as the last line
unfoldable pub read_lines : List Needed → List ℕ → Lines
unfolding line_of skipped with_line
read_lines [] t = cond (skipped t) (right []) (wrong BadLine)
read_lines (need ∷ needs) t =
    elim (line_of need.numbers t) [
      | none ↦ wrong BadLine
      | some x ↦ elim (need.rule x.got) [ true ↦ with_line x.got (read_lines needs x.rest) | false ↦ wrong BadLiteral ]
    ]

-- ---- the graph

-- the words of a gate line: its right sides, the larger first
unfoldable pub gate_words : List ℕ → List ℕ
unfolding larger_first
gate_words ns = larger_first (get_or ns 1 0) (get_or ns 2 0)

-- the sections' numbers by name, in the order above
abbrev pub inputs_part : List (List (List ℕ)) → List (List ℕ)
inputs_part parts = get_or parts 0 []

abbrev pub outputs_part : List (List (List ℕ)) → List (List ℕ)
outputs_part parts = get_or parts 1 []

abbrev pub gates_part : List (List (List ℕ)) → List (List ℕ)
gates_part parts = get_or parts 2 []

-- the graph of the sections' numbers
unfoldable pub graph_of_sections : Header → List (List (List ℕ)) → Graph
unfolding gate_words flat_map
graph_of_sections h parts = graph_of h.inputs (flat_map gate_words (gates_part parts)) (map (λ ns. get_or ns 0 0) (outputs_part parts))

-- the graph of the lines' numbers
unfoldable pub graph_read : Header → List (List ℕ) → Graph
unfolding graph_of_sections parted sections
graph_read h nss = graph_of_sections h (parted (map length (sections h)) nss)

-- what a text is read as
pub data Reading : Type 0 where
  refuses : Refusal → Reading
  yields : Graph → Reading

unfoldable pub read_body : Header → List ℕ → Reading
unfolding read_lines lines_needed graph_read
read_body h t = elim (read_lines (lines_needed h) t) [ wrong r ↦ refuses r | right nss ↦ yields (graph_read h nss) ]

unfoldable pub reading : List ℕ → Reading
unfolding header_line header_refusals first_refusal read_body
reading t =
    elim (header_line t) [
      | none ↦ refuses BadHeader
      | some x ↦ elim (first_refusal (header_refusals t (header_of x.got)))
          [ some r ↦ refuses r | none ↦ read_body (header_of x.got) x.rest ]
    ]

-- what reading accepts: the text states the graph, and both keep to the limits
pub record Stated (t : List ℕ) (g : Graph) : Type 0 where
  pub states : States t g
  pub is_well_formed : WellFormed g
  pub few_bytes : length t ≤ most_bytes
