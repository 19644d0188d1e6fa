-- The test of a leaf set, place by place: what the places from k on say is what all of them say.
-- Assumes nothing.
use mathlib.Core.Path.{◌≡◌, refl, ap, ◌∙◌}
use mathlib.Core.Bool.{Bool, true, false, ◌&&◌}
use mathlib.Core.List.{List, [], ◌∷◌}
use Prim.Native.Nat.{ℕ, ◌≤◌, ◌<◌}
use borrow.Author.Tests.{lt-ltb, le-ltb}
use lib.Dec.{leb, ltb, eqb}
use lib.ListN.{drop}
use Rattle.graph.specs.Lists.{every, all}
use Rattle.graph.proofs.Lists.{and_true}
use Rattle.window.specs.declared.leaf_set.Leaves.{Leaves}
use Rattle.window.specs.Leaves.{leaf_limit, numbers, leaf_list, ascends_from, leaf_rules, well_set}

-- ---- leaves that ascend from x and stay below the root

module _ (root : ℕ) where
  abbrev pub ascend_below : ℕ → List ℕ → Bool
  ascend_below x xs = ascends_from x xs && all (λ v. ltb v root) xs

  and_no : (b : Bool) → b && false ≡ false
  and_no true = refl
  and_no false = refl

  module _ (t : Bool) (x y : ℕ) (ys : List ℕ) (e : t ≡ ascend_below x (y ∷ ys)) where
    pub ascend_more : x < y → y < root → t ≡ ascend_below y ys
    unfolding ascends_from all
    ascend_more up low = e ∙ rw (lt-ltb _ _ up, lt-ltb _ _ low)

    pub ascend_not : y ≤ x → t ≡ false
    unfolding ascends_from all
    ascend_not down = e ∙ rw (le-ltb _ _ down)

    pub ascend_over : root ≤ y → t ≡ false
    unfolding ascends_from all
    ascend_over high = e ∙ rw (le-ltb _ _ high) (and_no (ascends_from x (y ∷ ys)))

  pub ascend_end : (x : ℕ) → ascend_below x [] ≡ true
  unfolding ascends_from all
  ascend_end x = refl

-- ---- places that are 0

abbrev pub zeros : List ℕ → Bool
zeros xs = all (λ x. eqb x 0) xs

-- the count, the leaves, and the places that no leaf uses
pub well_set_by : (root : ℕ) (w : Leaves)
    → well_set root w ≡ leb w.count leaf_limit && (ascend_below root 0 (leaf_list w) && zeros (drop w.count (numbers w.places)))
unfolding well_set every leaf_rules
well_set_by root w = by (leb w.count leaf_limit) (ascends_from 0 (leaf_list w)) (all (λ v. ltb v root) (leaf_list w)) _
  where
    by : (few up low z : Bool) → few && (up && (low && (z && true))) ≡ few && ((up && low) && z)
    by few true true z = ap (λ (b : Bool). few && b) (and_true z)
    by few true false z = refl
    by few false low z = refl
