-- What a sweep over a window asks for at each variable: the net, and the next leaf; and what it leaves.
-- Assumes nothing.
use Rattle.std.specs.Prelude.{ℕ, ◌≤◌, ◌<◌, ◌≡◌, Bool, true, false, cond, List, [], ◌∷◌, leb, eqb, length, get_or, slice_get, Some, None}
use Rattle.std.specs.Option.{option_map}
use Rattle.std.proofs.Math.Option.{Option, none, some}
use Rattle.graph.specs.declared.lit.Var.{Var}
use Rattle.graph.specs.Lists.{gather, keep}
use Rattle.graph.specs.Graph.{Net, free, last, WellFormedNet}
use Rattle.graph.specs.Sweep.{Algebra, values}
use Rattle.window.specs.declared.leaf_set.Leaves.{Leaves}
use Rattle.window.specs.Leaves.{leaf_limit, leaf_list, leaf_place}
use Rattle.window.specs.Table.{leaf_pattern}
use Rattle.cutter.specs.declared.next_leaf.NextLeaf.{NextLeaf}

-- of leaves that ascend, j stand below v, and the others do not
pub record Passed (w : Leaves) (v j : ℕ) : Type 0 where
  pub few : w.count ≤ leaf_limit
  pub ascending : (h i : ℕ) → h < i → i < length (leaf_list w) → get_or (leaf_list w) h 0 < get_or (leaf_list w) i 0
  pub within : j ≤ w.count
  pub before : (i : ℕ) → i < j → get_or (leaf_list w) i 0 < v
  pub after : (i : ℕ) → j ≤ i → i < length (leaf_list w) → v ≤ get_or (leaf_list w) i 0

-- the first leaf that does not stand below v, with its place
pub record Ahead (w : Leaves) (v : ℕ) (next : NextLeaf) : Type 0 where
  pub passed : Passed w v next.place
  pub leaf_is : option_map (λ (v : Var). v.0) next.leaf ≡ slice_get (leaf_list w) next.place

-- the next leaf is variable v
unfoldable pub next_is : NextLeaf → ℕ → Bool
next_is next v = elim next.leaf [ None ↦ false | Some leaf ↦ eqb leaf.0 v ]

-- v is a variable of the net, and where it is the next leaf, that has one of the six places
pub record Sweeping (net : Net) (next : NextLeaf) (v : ℕ) : Type 0 where
  pub net_ok : WellFormedNet net
  pub within : v ≤ last net
  pub place_ok : next_is next v ≡ true → next.place < leaf_limit

-- what variable v has itself: a leaf what its place gives it, even one that is a gate, and an input that is none what inputs have
unfoldable pub window_own : {A : Type 0} → (ℕ → A) → A → Net → Leaves → ℕ → Option A
unfolding leaf_place
window_own at_leaf at_input net w v = elim (leaf_place w v) [ some j ↦ some (at_leaf j) | none ↦ cond (leb v (free net)) (some at_input) none ]

-- what the variables 0 to n have, each leaf and each input its own, and any other by its gate
abbrev pub swept_up_to : {A : Type 0} → Algebra A → (ℕ → A) → A → Net → Leaves → ℕ → List A
swept_up_to K at_leaf at_input net w n = values K (window_own at_leaf at_input net w) net n

-- what variable v has itself by the next leaf, as a sweep finds it
unfoldable pub own_ahead : {A : Type 0} → (ℕ → A) → A → Net → NextLeaf → ℕ → Option A
unfolding next_is
own_ahead at_leaf at_input net next v = cond (next_is next v) (some (at_leaf next.place)) (cond (leb v (free net)) (some at_input) none)

-- so of coverage: a leaf is covered, and an input that is none is not
abbrev pub covered_ahead : Net → NextLeaf → ℕ → Option Bool
covered_ahead = own_ahead (λ place. true) false

-- and of tables a leaf has the pattern of its place
unfoldable pub table_ahead : NextLeaf → ℕ → Option ℕ
unfolding next_is leaf_pattern
table_ahead next v = cond (next_is next v) (some (leaf_pattern next.place)) none

-- the covered variables below n, ascending, by a list that says of each whether it is
unfoldable pub covered_in : List Bool → ℕ → List ℕ
unfolding keep gather
covered_in covers n = keep (λ v. get_or covers v false) (gather (λ v. v ∷ []) n)
