-- Gates not in use are dropped; the rest keep their order and are renumbered from the first gate's number on.
-- Assumes nothing.
use Rattle.std.specs.Prelude.{ℕ, suc, ◌+◌, ◌-◌, ◌*◌, ◌%◌, Bool, false, cond, List, [], ◌∷◌, leb, get_or}
use Rattle.graph.specs.Lists.{gather}
use Rattle.graph.specs.Literal.{var_of}
use Rattle.graph.specs.Graph.{Net, Graph, net_of, over_net, free, size, first, second}
use Rattle.graph.specs.Use.{marks, count_marks}

-- the number of variable v afterwards: a marked gate counts the marked gates up to itself
unfoldable pub new_number : Net → List Bool → ℕ → ℕ
unfolding count_marks
new_number net ms v = cond (leb v (free net)) v (free net + count_marks net ms (v - free net))

unfoldable pub renumbered : Net → List Bool → ℕ → ℕ
unfolding new_number
renumbered net ms l = 2 * new_number net ms (var_of l) + l % 2

-- what is left of variable v's gate: its literals renumbered, or nothing
unfoldable pub kept_gate : Net → List Bool → ℕ → List ℕ
unfolding renumbered first second
kept_gate net ms v = cond (get_or ms v false) (renumbered net ms (first net v) ∷ renumbered net ms (second net v) ∷ []) []

unfoldable pub kept_net : Net → List Bool → Net
unfolding kept_gate gather
kept_net net ms = net_of net.inputs (gather (λ k. kept_gate net ms (suc (free net + k))) (size net))

unfoldable pub dropped : Graph → Graph
unfolding kept_net renumbered marks
dropped g = over_net (kept_net g.net (marks g)) (renumbered g.net (marks g)) g
