-- Marks of variables in lent memory, and marking from the highest gate down to any gate.
-- Assumes nothing.
use Rattle.std.specs.Prelude.{ℕ, zero, suc, ◌+◌, Bool, List}
use Rattle.graph.specs.Graph.{Net, free}
use Rattle.graph.specs.Use.{mark_fanins}

-- the marks that lent memory holds, one a variable from 0 on: each has a place of its own
unfoldable pub marks_in : List Bool → List Bool
marks_in places = places

-- the fanins are marked of the n gates after the k-th, from the highest of them down
unfoldable pub mark_after : Net → ℕ → ℕ → List Bool → List Bool
unfolding mark_fanins
mark_after net k zero ms = ms
mark_after net k (suc n) ms = mark_after net k n (mark_fanins net (suc (free net + (k + n))) ms)
