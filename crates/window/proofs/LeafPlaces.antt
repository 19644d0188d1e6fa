-- The place of a variable among the leaves is where it stands; it has none if it does not stand there.
-- Assumes nothing.
use mathlib.Core.Path.{◌≡◌, refl, sym, ap, ◌∙◌}
use mathlib.Core.Bool.{Bool, true, false, cond}
use mathlib.Core.List.{List, [], ◌∷◌}
use mathlib.Core.Option.{some, none, none-ne-some, some-ne-none, some-injective}
use Prim.Native.Nat.{ℕ, suc, ◌+◌, ◌<◌}
use native.Mathlib.Omega.{arith}
use borrow.Author.Tests.{eqb-true, eq-eqb}
use lib.Dec.{eqb}
use lib.ListN.{length, get_or}
use Rattle.graph.specs.Lists.{◌∈◌, here, later}
use Rattle.window.specs.declared.leaf_set.Leaves.{Leaves}
use Rattle.window.specs.Leaves.{leaf_list, place_from, leaf_place}

found_from : (j : ℕ) (xs : List ℕ) (v k : ℕ) → place_from j xs v ≡ some k → (i : ℕ) × (i < length xs) × (get_or xs i 0 ≡ v) × (j + i ≡ k)
unfolding place_from
found_from j [] v k e = absurd (none-ne-some k e)
found_from j (x ∷ xs) v k e = go (eqb x v) refl e (found_from (suc j) xs v k)
  where
    go : (b : Bool) → eqb x v ≡ b → cond b (some j) (place_from (suc j) xs v) ≡ some k
        → (place_from (suc j) xs v ≡ some k → (i : ℕ) × (i < length xs) × (get_or xs i 0 ≡ v) × (suc j + i ≡ k))
        → (i : ℕ) × (i < length (x ∷ xs)) × (get_or (x ∷ xs) i 0 ≡ v) × (j + i ≡ k)
    go true q h r = let s : j ≡ k = some-injective j k h in (0, omega arith, eqb-true x v q, omega arith)
    go false q h r = let s = r h in (suc s.0, omega (arith, s.1), s.2, omega (arith, s.3))

missed_from : {v : ℕ} (j : ℕ) {xs : List ℕ} → v ∈ xs → ¬ (place_from j xs v ≡ none)
unfolding place_from
missed_from {v} j (here {y = x} {ys = xs} e) q =
    some-ne-none j (sym (ap (λ (b : Bool). cond b (some j) (place_from (suc j) xs v)) (eq-eqb x v (sym e))) ∙ q)
missed_from {v} j (later {y = x} {ys = xs} i) q = go (eqb x v) q (missed_from (suc j) i)
  where
    go : (b : Bool) → cond b (some j) (place_from (suc j) xs v) ≡ none → ¬ (place_from (suc j) xs v ≡ none) → ⊥
    go true h r = some-ne-none j h
    go false h r = r h

module _ (w : Leaves) (v : ℕ) where
  pub leaf_found : (j : ℕ) → leaf_place w v ≡ some j → (j < length (leaf_list w)) × (get_or (leaf_list w) j 0 ≡ v)
  unfolding leaf_place
  leaf_found j e =
      let s = found_from 0 (leaf_list w) v j e in
      let q : s.0 ≡ j = omega (arith, s.3) in
      (rw q at s.1, rw q at s.2)

  pub leaf_missed : leaf_place w v ≡ none → ¬ (v ∈ leaf_list w)
  unfolding leaf_place
  leaf_missed e i = missed_from 0 i e
