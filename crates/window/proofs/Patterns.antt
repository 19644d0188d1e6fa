-- The 64 patterns are all there are: equal tables are equal local functions, under every assignment of the leaves.
-- Assumes nothing.
use mathlib.Core.Path.{◌≡◌, refl, sym, ap, ◌∙◌}
use mathlib.Core.Bool.{Bool, true, false, cond}
use mathlib.Core.List.{List, [], ◌∷◌}
use mathlib.Core.Option.{Option, some, map}
use Prim.Native.Nat.{ℕ, suc, ◌+◌, ◌≤◌, ◌<◌}
use native.Mathlib.Nat.{le_refl}
use native.Mathlib.Omega.{arith}
use lib.Dec.{eqb}
use lib.ListN.{length, get_or, length-take}
use Rattle.graph.specs.Graph.{Net}
use Rattle.graph.specs.Sweep.{bools}
use Rattle.graph.proofs.Sweep.{values_same}
use Rattle.window.specs.declared.leaf_set.Leaves.{Leaves}
use Rattle.window.specs.Leaves.{leaf_limit, numbers, leaf_list, place_from, leaf_place}
use Rattle.window.specs.Local.{leaf_own, local_up_to, local_at}
use Rattle.window.specs.Table.{bit, pack, table}
use Rattle.window.proofs.Bits.{pack_lt, bit_pack}
use Rattle.window.proofs.TableLaws.{tables_equal, local_stays}

module _ {A : Type 0} (a a' : ℕ → A) where
  -- a place in a list is within it, so only the values there count
  place_same : (xs : List ℕ) (j v : ℕ) → ((k : ℕ) → k < j + length xs → a k ≡ a' k)
      → map a (place_from j xs v) ≡ map a' (place_from j xs v)
  unfolding place_from
  place_same [] j v h = refl
  place_same (x ∷ xs) j v h = pick (eqb x v) (h j (omega arith)) (place_same xs (suc j) v (λ k l. h k (omega arith)))
    where
      pick : (b : Bool) → a j ≡ a' j → map a (place_from (suc j) xs v) ≡ map a' (place_from (suc j) xs v)
          → map a (cond b (some j) (place_from (suc j) xs v)) ≡ map a' (cond b (some j) (place_from (suc j) xs v))
      pick true e r = ap {B = Option A} some e
      pick false e r = r

  own_same : (w : Leaves) → w.count ≤ leaf_limit → ((k : ℕ) → k < leaf_limit → a k ≡ a' k) → (v : ℕ) → leaf_own w a v ≡ leaf_own w a' v
  unfolding leaf_own leaf_place
  own_same w c h v = place_same (leaf_list w) 0 v (λ k l. h k (omega (arith, length-take w.count (numbers w.places))))

-- an assignment of the leaves gives what its pattern gives
pub locals_by_pattern : (net : Net) (w : Leaves) → w.count ≤ leaf_limit → (a : ℕ → Bool) (n : ℕ)
    → local_up_to net w a n ≡ local_up_to net w (bit (pack leaf_limit a)) n
unfolding local_up_to
locals_by_pattern net w c a n =
    values_same bools net net (leaf_own w a) (leaf_own w (bit (pack leaf_limit a))) n
    (record { same_free = refl; same_first = λ u l h. refl; same_second = λ u l h. refl })
    (λ u _. own_same a (bit (pack leaf_limit a)) w c (λ k l. sym (bit_pack leaf_limit a k l)) u)

pub local_by_pattern : (net : Net) (w : Leaves) → w.count ≤ leaf_limit → (a : ℕ → Bool) (v : ℕ)
    → local_at net w a v ≡ local_at net w (bit (pack leaf_limit a)) v
local_by_pattern net w c a v =
    sym (local_stays net w a v v (le_refl v))
    ∙ ap (λ (xs : List Bool). get_or xs v false) (locals_by_pattern net w c a v)
    ∙ local_stays net w (bit (pack leaf_limit a)) v v (le_refl v)

pub equal_tables_equal_functions : (net net' : Net) (w : Leaves) (v v' : ℕ) → w.count ≤ leaf_limit → table net w v ≡ table net' w v'
    → (a : ℕ → Bool)
    → local_at net w a v ≡ local_at net' w a v'
equal_tables_equal_functions net net' w v v' c e a =
    local_by_pattern net w c a v
    ∙ (tables_equal net net' w w v v').0 e (pack leaf_limit a) (pack_lt leaf_limit a)
    ∙ sym (local_by_pattern net' w c a v')
