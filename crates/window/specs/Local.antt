-- Covered variables, and their local functions of the leaves.
-- Assumes nothing.
use Rattle.std.specs.Prelude.{ℕ, ◌<◌, ◌≡◌, Bool, true, false, cond, ◌&&◌, List, [], ◌∷◌, leb, length, get_or}
use Rattle.std.proofs.Math.Option.{Option, none, some, map}
use Rattle.graph.specs.Lists.{gather, keep}
use Rattle.graph.specs.Literal.{var_of}
use Rattle.graph.specs.Graph.{Net, free, first, second, IsGate}
use Rattle.graph.specs.Sweep.{Algebra, bools, values, value_at}
use Rattle.window.specs.declared.leaf_set.Leaves.{Leaves}
use Rattle.window.specs.Leaves.{leaf_list, leaf_place}

-- covered: variable 0, each leaf, and each gate whose two fanin variables are covered
pub data Covered (net : Net) (w : Leaves) : ℕ → Type 0 where
  zero_is : Covered net w 0
  leaf_is : (j : ℕ) → j < length (leaf_list w) → Covered net w (get_or (leaf_list w) j 0)
  gate_is : {v : ℕ} → IsGate net v → Covered net w (var_of (first net v)) → Covered net w (var_of (second net v)) → Covered net w v

-- an algebra in which only coverage counts: variable 0 is covered, and a gate is if both its fanin variables are
unfoldable pub coverage : Algebra Bool
coverage = record { no = true; conj = ◌&&◌; neg = λ x. x }

-- a leaf is covered, even one that is a gate; an input that is no leaf is not
unfoldable pub covered_own : Net → Leaves → ℕ → Option Bool
unfolding leaf_place
covered_own net w v = elim (leaf_place w v) [ some j ↦ some true | none ↦ cond (leb v (free net)) (some false) none ]

-- which of the variables 0 to n are covered
unfoldable pub covered_up_to : Net → Leaves → ℕ → List Bool
unfolding values coverage covered_own
covered_up_to net w n = values coverage (covered_own net w) net n

-- variable v is covered
unfoldable pub covered : Net → Leaves → ℕ → Bool
unfolding value_at coverage covered_own
covered net w v = value_at coverage (covered_own net w) net v

-- the covered variables below n, ascending
unfoldable pub covered_below : Net → Leaves → ℕ → List ℕ
unfolding keep gather covered
covered_below net w n = keep (covered net w) (gather (λ v. v ∷ []) n)

-- variable v passes this test; of the variables of a well-formed graph just the covered ones do (`covered_iff`)
abbrev pub Tested : Net → Leaves → ℕ → Type 0
Tested net w v = covered net w v ≡ true

-- a leaf has the value that the assignment of the leaves gives its place; a leaf that is a gate too
unfoldable pub leaf_own : {A : Type 0} → Leaves → (ℕ → A) → ℕ → Option A
unfolding leaf_place
leaf_own w a v = map a (leaf_place w v)

-- the local values of the variables 0 to n, where leaf j has the value a j
unfoldable pub local_up_to : Net → Leaves → (ℕ → Bool) → ℕ → List Bool
unfolding values bools leaf_own
local_up_to net w a n = values bools (leaf_own w a) net n

-- the local function of variable v
unfoldable pub local_at : Net → Leaves → (ℕ → Bool) → ℕ → Bool
unfolding value_at bools leaf_own
local_at net w a v = value_at bools (leaf_own w a) net v
