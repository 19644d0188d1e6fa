-- What picking leaves turn by turn asks for and answers: the leaf whose expansion is the smallest.
-- Assumes nothing.
use Rattle.std.specs.Prelude.{ℕ, ◌≤◌, ◌≡◌, true, cond, List, [], ◌∷◌, leb, length, Option, Some, None}
use Rattle.graph.specs.Lists.{◌∈◌}
use Rattle.graph.specs.Graph.{Net, free, last, WellFormedNet}
use Rattle.window.specs.declared.leaf_set.Leaves.{Leaves}
use Rattle.window.specs.Leaves.{leaf_limit, leaf_list, ascends_from}
use Rattle.window.specs.LeafRule.{expand}
use Rattle.cutter.specs.declared.rule.Choice.{Choice}

-- an expansion of at most so many leaves is as good as the choice so far; of at most six, where there is none yet
abbrev pub fewest : Option Choice → ℕ
fewest None = leaf_limit
fewest (Some choice) = choice.count

-- the better of a choice and the expansion of v, which only a gate has: v's on ties
unfoldable pub better : Net → List ℕ → Option Choice → ℕ → Option Choice
unfolding expand
better net xs best v =
    cond (leb v (free net)) best
    (cond (leb (length (expand net xs v)) (fewest best)) (Some (record { leaf = record { 0 = v }; count = length (expand net xs v) })) best)

-- so with each of some leaves in turn
unfoldable pub best : Net → List ℕ → List ℕ → Option Choice → Option Choice
unfolding better
best net xs [] choice = choice
best net xs (v ∷ vs) choice = best net xs vs (better net xs choice v)

-- leaves of a well formed net, ascending
pub record Choosing (net : Net) (w : Leaves) : Type 0 where
  pub net_ok : WellFormedNet net
  pub ascending : ascends_from 0 (leaf_list w) ≡ true
  pub within : (v : ℕ) → v ∈ leaf_list w → v ≤ last net
