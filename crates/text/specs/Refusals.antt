-- When reading and writing are refused, in facts.
-- Assumes nothing.
use Rattle.std.specs.Prelude.{ℕ, ◌+◌, ◌≤◌, ◌<◌, ◌≡◌, true, false, List, [], ◌∷◌, ◌++◌, length, get_or}
use Rattle.graph.specs.declared.refusal.Refusal.{Refusal}
use Rattle.graph.specs.declared.refusal.Refusal.TheVariants.{
  BadHeader,
  TooLarge,
  Latches,
  BadCount,
  BadLine,
  BadLiteral,
  BadGraph,
  NoRoom,
}
use Rattle.graph.specs.Refuse.{number_of}
use Rattle.graph.specs.Graph.{Graph, WellFormed, most_inputs, most_outputs, most_gates}
use Rattle.graph.specs.Lent.{Buffers, RoomFor}
use Rattle.text.specs.Number.{most_number}
use Rattle.text.specs.Line.{line}
use Rattle.text.specs.States.{aag, skipped, States, text_of}
use Rattle.text.specs.Reading.{header_of, free_of, most_bytes, Needed, lines_needed}

-- the text t starts with a well-shaped line of n numbers; the rest follows it
pub record Shaped (n : ℕ) (t ns rest : List ℕ) : Type 0 where
  pub count : length ns ≡ n
  pub small : (j : ℕ) → j < length ns → get_or ns j 0 ≤ most_number
  pub is : t ≡ line ns ++ rest

-- the text t starts with a well-shaped first line
pub record Headed (t ns rest : List ℕ) : Type 0 where
  pub after_aag : List ℕ
  pub is : t ≡ aag ++ after_aag
  pub shaped : Shaped 5 after_aag ns rest

-- of the lines needed, the first that is not right is the refusal's; the rest of the text counts as the last line
pub data FirstWrong : List Needed → List ℕ → Refusal → Type 0 where
  bad_rest : {t : List ℕ} → skipped t ≡ false → FirstWrong [] t BadLine
  misshapen : {need : Needed} {needs : List Needed} {t : List ℕ} → ((ns rest : List ℕ) → ¬ Shaped need.numbers t ns rest)
      → FirstWrong (need ∷ needs) t BadLine
  breaks : {need : Needed} {needs : List Needed} {t ns rest : List ℕ} → Shaped need.numbers t ns rest → need.rule ns ≡ false
      → FirstWrong (need ∷ needs) t BadLiteral
  later : {need : Needed} {needs : List Needed} {t ns rest : List ℕ} {r : Refusal} → Shaped need.numbers t ns rest
      → need.rule ns ≡ true
      → FirstWrong needs rest r → FirstWrong (need ∷ needs) t r

-- its refusals rank by their numbers
abbrev pub read_rank : Refusal → ℕ
read_rank = number_of

-- when reading is refused
pub data ReadGiven (t : List ℕ) (b : Buffers) : Refusal → Type 0 where
  bad_header : ((ns rest : List ℕ) → ¬ Headed t ns rest) → ReadGiven t b BadHeader
  many_inputs : {ns rest : List ℕ} → Headed t ns rest → most_inputs < (header_of ns).inputs → ReadGiven t b TooLarge
  many_outputs : {ns rest : List ℕ} → Headed t ns rest → most_outputs < (header_of ns).outputs → ReadGiven t b TooLarge
  many_gates : {ns rest : List ℕ} → Headed t ns rest → most_gates < (header_of ns).gates → ReadGiven t b TooLarge
  many_bytes : most_bytes < length t → ReadGiven t b TooLarge
  latches : {ns rest : List ℕ} → Headed t ns rest → ¬ ((header_of ns).latches ≡ 0) → ReadGiven t b Latches
  bad_count : {ns rest : List ℕ} → Headed t ns rest → ¬ ((header_of ns).highest ≡ free_of (header_of ns) + (header_of ns).gates)
      → ReadGiven t b BadCount
  wrong_line : {ns rest : List ℕ} {r : Refusal} → Headed t ns rest → FirstWrong (lines_needed (header_of ns)) rest r → ReadGiven t b r
  no_room : {g : Graph} → States t g → ¬ RoomFor g b → ReadGiven t b NoRoom

-- its refusals rank by their numbers
abbrev pub write_rank : Refusal → ℕ
write_rank = number_of

-- when writing is refused
pub data WriteGiven (g : Graph) (lent : List ℕ) : Refusal → Type 0 where
  bad_graph : ¬ WellFormed g → WriteGiven g lent BadGraph
  no_room : length lent < length (text_of g) → WriteGiven g lent NoRoom
