-- Sections: some of the lines needed, and the words made of their numbers.
-- Only contracts inside the crate speak of these.
-- Assumes nothing.
use Rattle.std.specs.Prelude.{ℕ, ◌+◌, ◌≤◌, ◌≡◌, true, false, List, [], ◌∷◌, ◌++◌, get_or, drop, Result, Ok, Err}
use Rattle.std.proofs.Math.Option.{none, some}
use Rattle.graph.specs.declared.refusal.Refusal.{Refusal}
use Rattle.graph.specs.declared.refusal.Refusal.TheVariants.{BadLine, BadLiteral}
use Rattle.graph.specs.Graph.{most_inputs, most_outputs, most_gates}
use Rattle.text.specs.declared.header.Header.{Header}
use Rattle.text.specs.Line.{line_of}
use Rattle.text.specs.Reading.{free_of, Needed}

-- what the lines need of a header that is not refused
pub record Limited (h : Header) : Type 0 where
  pub inputs_few : h.inputs ≤ most_inputs
  pub outputs_few : h.outputs ≤ most_outputs
  pub gates_few : h.gates ≤ most_gates
  pub adds_up : h.highest ≡ free_of h + h.gates

-- the words made of the lines' numbers and the text after the lines, or the refusal of the first line that is not right
pub data Words : Type 0 where
  wrong : Refusal → Words
  words : List ℕ → List ℕ → Words

unfoldable pub with_words : List ℕ → Words → Words
with_words ws (wrong r) = wrong r
with_words ws (words vs t) = words (ws ++ vs) t

-- f makes the words of a line's numbers
unfoldable pub read_words : (List ℕ → List ℕ) → List Needed → List ℕ → Words
unfolding line_of with_words
read_words f [] t = words [] t
read_words f (need ∷ needs) t =
    elim (line_of need.numbers t) [
      | none ↦ wrong BadLine
      | some x ↦ elim (need.rule x.got) [ true ↦ with_words (f x.got) (read_words f needs x.rest) | false ↦ wrong BadLiteral ]
    ]

-- an input line gives no word, an output line its literal
abbrev pub no_words : List ℕ → List ℕ
no_words ns = []

abbrev pub output_words : List ℕ → List ℕ
output_words ns = get_or ns 0 0 ∷ []

-- the section's answer, where these are the words that it stored
unfoldable pub section_words : List ℕ → List ℕ → Result ℕ Refusal → Words
section_words t ws (Ok place) = words ws (drop place t)
section_words t ws (Err r) = wrong r
