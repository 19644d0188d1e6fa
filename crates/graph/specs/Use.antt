-- The gates in use, and their number R: what it means to be reached, and how marks find it.
-- Assumes nothing.
use Rattle.std.specs.Prelude.{ℕ, zero, suc, ◌+◌, ◌<◌, Bool, true, false, cond, ◌&&◌, List, [], ◌∷◌, ltb, leb, length, get_or, set, replicate}
use Rattle.graph.specs.Literal.{var_of}
use Rattle.graph.specs.Graph.{Net, Graph, free, size, last, sinks, first, second, IsGate}

-- an output's variable is reached, and so is a fanin variable of a reached gate
pub data Reached (g : Graph) : ℕ → Type 0 where
  as_output : (j : ℕ) → j < length (sinks g) → Reached g (var_of (get_or (sinks g) j 0))
  as_first : {v : ℕ} → IsGate g.net v → Reached g v → Reached g (var_of (first g.net v))
  as_second : {v : ℕ} → IsGate g.net v → Reached g v → Reached g (var_of (second g.net v))

-- a gate is in use if some output reaches it through fanins
pub record InUse (g : Graph) (v : ℕ) : Type 0 where
  pub is_gate : IsGate g.net v
  pub is_reached : Reached g v

-- the variables of these literals are marked
unfoldable pub mark_each : List ℕ → List Bool → List Bool
mark_each [] ms = ms
mark_each (l ∷ ls) ms = mark_each ls (set ms (var_of l) true)

-- the fanins of variable v are marked if v is
unfoldable pub mark_fanins : Net → ℕ → List Bool → List Bool
unfolding mark_each first second
mark_fanins net v ms = cond (get_or ms v false) (mark_each (first net v ∷ second net v ∷ []) ms) ms

-- so from the k-th gate down to the first
unfoldable pub mark_down : Net → ℕ → List Bool → List Bool
unfolding mark_fanins
mark_down net zero ms = ms
mark_down net (suc k) ms = mark_down net k (mark_fanins net (suc (free net + k)) ms)

-- outputs are marked first, then fanins from the highest gate down, in a list of n places: fanins are lower, so one pass is enough
unfoldable pub marks_over : ℕ → Graph → List Bool
unfolding mark_each mark_down
marks_over n g = mark_down g.net (size g.net) (mark_each (sinks g) (replicate n false))

-- so with a place for each variable
unfoldable pub marks : Graph → List Bool
unfolding marks_over
marks g = marks_over (suc (last g.net)) g

-- variable v is a gate, and in use
unfoldable pub in_use : Graph → ℕ → Bool
unfolding marks
in_use g v = ltb (free g.net) v && (leb v (last g.net) && get_or (marks g) v false)

-- how many of the first k gates are marked
unfoldable pub count_marks : Net → List Bool → ℕ → ℕ
count_marks net ms zero = 0
count_marks net ms (suc k) = count_marks net ms k + cond (get_or ms (suc (free net + k)) false) 1 0

-- R, the number of gates in use
unfoldable pub used_gates : Graph → ℕ
unfolding marks count_marks
used_gates g = count_marks g.net (marks g) (size g.net)
