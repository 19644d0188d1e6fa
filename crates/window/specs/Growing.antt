-- What the methods of a leaf set answer: a set of leaves, or that there is none of at most six.
-- Assumes nothing.
use Rattle.std.specs.Prelude.{ℕ, ◌≤◌, ◌≡◌, cond, List, leb, length, Option, Some, None}
use Rattle.std.proofs.Math.Option.{Option as Perhaps, none, some}
use Rattle.window.specs.declared.leaf_set.Leaves.{Leaves}
use Rattle.window.specs.Leaves.{leaf_limit, leaf_list, leaves_of}

unfoldable pub grown_from : Perhaps (List ℕ) → Option Leaves
grown_from none = None
grown_from (some xs) = Some (leaves_of xs)

-- a list of at most six leaves; seven are none
unfoldable pub fitting : List ℕ → Perhaps (List ℕ)
fitting xs = cond (leb (length xs) leaf_limit) (some xs) none

unfoldable pub grown_of : List ℕ → Option Leaves
unfolding grown_from fitting
grown_of xs = grown_from (fitting xs)

-- the leaves stand in the first places, and 0 in the others
pub record Tidy (w : Leaves) : Type 0 where
  pub few : w.count ≤ leaf_limit
  pub same : leaves_of (leaf_list w) ≡ w
