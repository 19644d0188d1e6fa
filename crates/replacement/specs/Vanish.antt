-- What goes with a root, and what of it a proposal holds back: the terms of the gain law.
-- Assumes nothing.
use Rattle.std.specs.Prelude.{ℕ, zero, suc, ◌+◌, ◌<◌, ◌≡◌, Bool, true, false, cond, List, [], ◌∷◌, map, ◌↔◌, eqb, length, get_or, replicate}
use Rattle.graph.specs.Literal.{var_of}
use Rattle.graph.specs.Graph.{Net, Graph, over, free, size, last, sinks, first, second, IsGate, Lawful}
use Rattle.graph.specs.Use.{Reached, InUse, mark_each, marks}
use Rattle.replacement.specs.declared.types.Proposal.{Proposal}

-- reached through no reference to the root
pub data Without (g : Graph) (root : ℕ) : ℕ → Type 0 where
  by_output : (j : ℕ) → j < length (sinks g) → ¬ (var_of (get_or (sinks g) j 0) ≡ root) → Without g root (var_of (get_or (sinks g) j 0))
  by_first : {v : ℕ} → IsGate g.net v → Without g root v → ¬ (var_of (first g.net v) ≡ root)
      → Without g root (var_of (first g.net v))
  by_second : {v : ℕ} → IsGate g.net v → Without g root v → ¬ (var_of (second g.net v) ≡ root)
      → Without g root (var_of (second g.net v))

-- the literals of a proposal, and what is reached from them: as if they were the outputs
abbrev pub literals : Proposal → List ℕ
literals p = p.first.0 ∷ p.second.0 ∷ []

abbrev pub From : Net → Proposal → ℕ → Type 0
From net p v = Reached (over net (literals p)) v

-- how many gates the proposal puts at the root
unfoldable pub new_gates : Proposal → ℕ
new_gates p = cond (eqb p.kind 0) 0 1

-- a reference to the root counts for nothing: it is one to variable 0
abbrev pub past : ℕ → ℕ → ℕ
past root l = cond (eqb (var_of l) root) 0 l

-- marking as in Use, past the root
unfoldable pub mark_fanins_past : Net → ℕ → ℕ → List Bool → List Bool
unfolding mark_each first second
mark_fanins_past net root v ms = cond (get_or ms v false) (mark_each (past root (first net v) ∷ past root (second net v) ∷ []) ms) ms

unfoldable pub mark_down_past : Net → ℕ → ℕ → List Bool → List Bool
unfolding mark_fanins_past
mark_down_past net root zero ms = ms
mark_down_past net root (suc k) ms = mark_down_past net root k (mark_fanins_past net root (suc (free net + k)) ms)

unfoldable pub marks_without : Graph → ℕ → List Bool
unfolding mark_each mark_down_past
marks_without g root =
    mark_down_past g.net root (size g.net) (mark_each (map (past root) (sinks g)) (replicate (suc (last g.net)) false))

-- how many of the first k gates have a mark in the first list and none in the second
unfoldable pub count_apart : Net → List Bool → List Bool → ℕ → ℕ
count_apart net ms ns zero = 0
count_apart net ms ns (suc k) =
    count_apart net ms ns k + cond (get_or ns (suc (free net + k)) false) 0 (cond (get_or ms (suc (free net + k)) false) 1 0)

-- how many gates in use go with the root, itself included: those that are reached, but only through it (`vanishing_counts`)
unfoldable pub vanishing : Graph → ℕ → ℕ
unfolding count_apart marks marks_without
vanishing g root = count_apart g.net (marks g) (marks_without g root) (size g.net)

-- how many gates without a mark these literals reach
unfoldable pub held_from : Net → List Bool → List ℕ → ℕ
unfolding count_apart marks
held_from net ms ls = count_apart net (marks (over net ls)) ms (size net)

-- how many of the gates that would go the proposal's literals reach (`held_back_counts`)
unfoldable pub held_back : Graph → ℕ → Proposal → ℕ
unfolding held_from marks_without
held_back g root p = held_from g.net (marks_without g root) (literals p)

-- ---- the same by marks that lent memory holds

-- each gate's mark says whether it is reached through no reference to the root
pub record MarksPast (g : Graph) (root : ℕ) (ms : List Bool) : Type 0 where
  pub marks_are : (v : ℕ) → IsGate g.net v → (get_or ms v false ≡ true) ↔ Without g root v

-- a root in use, its marks, and how many gates go with it: what the gain of a proposal is found from (`weighed_gain`)
pub record Weighed (g : Graph) (root : ℕ) (ms : List Bool) (going : ℕ) : Type 0 where
  pub lawful : Lawful g
  pub used : InUse g root
  pub past : MarksPast g root ms
  pub going_is : going ≡ vanishing g root
