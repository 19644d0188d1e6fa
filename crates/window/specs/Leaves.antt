-- Leaf sets, and when one is well set down under a root.
-- Assumes nothing.
use Rattle.std.specs.Prelude.{ℕ, suc, ◌≤◌, ◌<◌, ◌≡◌, Bool, true, cond, ◌&&◌, List, [], ◌∷◌, map, leb, ltb, eqb, length, get_or, take, drop}
use Rattle.std.proofs.Math.Option.{Option, none, some}
use Rattle.graph.specs.Lists.{filled, every, all}
use Rattle.graph.specs.declared.lit.Var.{Var}
use Rattle.window.specs.declared.leaf_set.Leaves.{Leaves}

-- a leaf set has six places
abbrev pub leaf_limit : ℕ
leaf_limit = 6

-- the numbers of some variables, and the variables of some numbers
unfoldable pub numbers : List Var → List ℕ
numbers vs = map (λ (v : Var). v.0) vs

unfoldable pub variables : List ℕ → List Var
variables xs = map (λ (x : ℕ). record { 0 = x }) xs

-- the leaves themselves
abbrev pub leaf_list : Leaves → List ℕ
leaf_list w = take w.count (numbers w.places)

-- the leaf set that has these leaves: unused places are 0
unfoldable pub leaves_of : List ℕ → Leaves
unfolding filled variables
leaves_of xs = record { count = length xs; places = variables (filled leaf_limit xs) }

-- each number is above the one before it, and the first above x
unfoldable pub ascends_from : ℕ → List ℕ → Bool
ascends_from x [] = true
ascends_from x (y ∷ ys) = ltb x y && ascends_from y ys

-- at most six; ascending without repeats and none 0; each below the root; unused places 0
unfoldable pub leaf_rules : ℕ → Leaves → List Bool
unfolding ascends_from all numbers
leaf_rules root w =
    leb w.count leaf_limit
    ∷ ascends_from 0 (leaf_list w)
    ∷ all (λ v. ltb v root) (leaf_list w)
    ∷ all (λ x. eqb x 0) (drop w.count (numbers w.places))
    ∷ []

unfoldable pub well_set : ℕ → Leaves → Bool
unfolding every leaf_rules
well_set root w = every (leaf_rules root w)

-- the same as facts
pub record WellSet (root : ℕ) (w : Leaves) : Type 0 where
  pub few : w.count ≤ leaf_limit
  pub at_least_one : (j : ℕ) → j < length (leaf_list w) → 0 < get_or (leaf_list w) j 0
  pub ascending : (i j : ℕ) → i < j → j < length (leaf_list w) → get_or (leaf_list w) i 0 < get_or (leaf_list w) j 0
  pub below_root : (j : ℕ) → j < length (leaf_list w) → get_or (leaf_list w) j 0 < root
  pub unused_zero : (j : ℕ) → w.count ≤ j → get_or (numbers w.places) j 0 ≡ 0

-- the place at which v stands in the list, where the list starts at place j
unfoldable pub place_from : ℕ → List ℕ → ℕ → Option ℕ
place_from j [] v = none
place_from j (x ∷ xs) v = cond (eqb x v) (some j) (place_from (suc j) xs v)

-- the place of v among the leaves, if it is one
unfoldable pub leaf_place : Leaves → ℕ → Option ℕ
unfolding place_from numbers
leaf_place w v = place_from 0 (leaf_list w) v
