-- The weight of a set, the sum of 2 ^ v over its variables v: it falls when a gate gives way to its fanin variables.
-- Assumes nothing.
use mathlib.Core.Path.{◌≡◌, refl, ap, subst}
use mathlib.Core.List.{List, [], ◌∷◌}
use mathlib.Core.Logic.{⊎_elim}
use Prim.Native.Nat.{ℕ, suc, ◌+◌, ◌^◌, ◌≤◌, ◌<◌}
use native.Mathlib.Nat.{pow-suc}
use native.Mathlib.Omega.{arith}
use lib.Pow.{pow_pos, pow_mono, pow-lt}
use Rattle.graph.specs.Lists.{◌∈◌, here, later}
use Rattle.graph.proofs.Lists.{at_most_or_above}
use Rattle.window.specs.LeafRule.{insert}
use Rattle.window.proofs.Sets.{
  absent,
  Put,
  at_end,
  before,
  already,
  after,
  put_is,
  Insert,
  skipped,
  inserted,
  insert_is,
  insert_again,
  Remove,
  found,
  passed,
}

unfoldable pub weight : List ℕ → ℕ
weight [] = 0
weight (v ∷ vs) = 2 ^ v + weight vs

pub weightless : (xs : List ℕ) → weight xs ≤ 0 → xs ≡ []
unfolding weight
weightless [] h = refl
weightless (x ∷ xs) h = absurd (omega (arith, pow_pos x))

put_weight : {v : ℕ} {xs ys : List ℕ} → Put v xs ys → weight ys ≤ 2 ^ v + weight xs
unfolding weight
put_weight at_end = omega arith
put_weight (before h) = omega arith
put_weight (already e) = omega arith
put_weight (after h p) = omega (arith, put_weight p)

insert_weight : {v : ℕ} {xs ys : List ℕ} → Insert v xs ys → weight ys ≤ 2 ^ v + weight xs
insert_weight (skipped e) = omega arith
insert_weight {v} {xs} (inserted h) = put_weight (put_is v xs)

pub remove_weight : {v : ℕ} {xs ys : List ℕ} → Remove v xs ys → v ∈ xs → 2 ^ v + weight ys ≡ weight xs
unfolding weight
remove_weight {v = v} absent i = elim i [ ]
remove_weight (found {xs = xs} e) i = ap (λ (x : ℕ). 2 ^ x + weight xs) e
remove_weight (passed n r) (here e) = absurd (n e)
remove_weight (passed n r) (later i) = omega (arith, remove_weight r i)

-- two fanin variables below v, the second at most the first: the same one counts once, and two different ones are less than 2 ^ v together
pub fanins_weight : (v a b : ℕ) (xs : List ℕ) → b ≤ a → a < v → weight (insert a (insert b xs)) < 2 ^ v + weight xs
fanins_weight v a b xs h l = ⊎_elim
    (λ (k : a ≤ b).
    let e : a ≡ b = omega arith in
    subst (λ (c : ℕ). weight (insert a (insert c xs)) < 2 ^ v + weight xs) e
    (rw (insert_again a xs) (omega (arith, insert_weight (insert_is a xs), pow-lt l))))
    (λ k.
    omega (
      arith,
      insert_weight (insert_is a (insert b xs)),
      insert_weight (insert_is b xs),
      pow-lt k,
      pow-suc 2 a,
      pow_mono {i = suc a} l,
    ))
    (at_most_or_above a b)
