-- Lent lists: the room that a call needs, and what stands in them afterwards.
-- Assumes nothing.
use Rattle.std.specs.Prelude.{ℕ, ◌+◌, ◌≤◌, Bool, ◌||◌, List, ◌++◌, ltb, length, take, drop}
use Rattle.graph.specs.Graph.{Graph}

-- the lent list has fewer places than needed
unfoldable pub short : {A : Type 0} → ℕ → List A → Bool
short need lent = ltb (length lent) need

-- the lent list with xs in its first places; places past them keep their contents
unfoldable pub written : {A : Type 0} → List A → List A → List A
written xs lent = xs ++ drop (length xs) lent

-- the same from place `at` on
unfoldable pub laid : ℕ → List ℕ → List ℕ → List ℕ
laid at xs lent = take at lent ++ xs ++ drop (at + length xs) lent

-- two lists lent for a graph
pub record Buffers : Type 0 where
  pub gates : List ℕ
  pub outputs : List ℕ

abbrev pub buffers_of : List ℕ → List ℕ → Buffers
buffers_of gs os = record { gates = gs; outputs = os }

-- they need two words a gate and one an output
unfoldable pub no_room_for : Graph → Buffers → Bool
unfolding short
no_room_for g b = short (length g.net.gates) b.gates || short (length g.outputs) b.outputs

-- that they have the room, as facts
pub record RoomFor (g : Graph) (b : Buffers) : Type 0 where
  pub gates_fit : length g.net.gates ≤ length b.gates
  pub outputs_fit : length g.outputs ≤ length b.outputs

-- the two lists with the graph's words written
unfoldable pub stored_in : Graph → Buffers → Buffers
unfolding written
stored_in g b = record { gates = written g.net.gates b.gates; outputs = written g.outputs b.outputs }

-- what a call answers, and what its lent lists hold afterwards
pub record Effect (A L : Type 0) : Type 0 where
  pub answer : A
  pub lent : L

infix 60 ◌leaving◌
abbrev pub ◌leaving◌ : {A L : Type 0} → A → L → Effect A L
x leaving y = record { answer = x; lent = y }
