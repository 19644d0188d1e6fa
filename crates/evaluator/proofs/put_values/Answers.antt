-- `evaluator::put_values` meets its contract: after k turns the values of the first k literals are written.
-- Assumes nothing.
use mathlib.Core.Path.{◌≡◌, refl, sym, ap, ap₂, ◌∙◌}
use mathlib.Core.Bool.{Bool, false, cond}
use mathlib.Core.List.{List, map}
use Prim.Native.Nat.{ℕ, ◌<◌}
use native.Mathlib.Omega.{arith}
use lib.ListN.{length, get_or, set, length-map}
use Rattle.graph.specs.Lent.{written}
use Rattle.graph.specs.Sweep.{bools, lit_value}
use Rattle.graph.proofs.Lists.{cast_is}
use Rattle.graph.proofs.Members.{map_at}
use Rattle.graph.proofs.Lent.{written_more}
use Rattle.evaluator.proofs.put_values.Invariants.{bits}
use Rattle.evaluator.proofs.put_values.Goals as goal

module _ (known : List Bool) (literals : List ℕ) where
  bits_length : length (bits known literals) ≡ length literals
  bits_length = length-map (map (lit_value bools known) literals) _ ∙ length-map literals _

  bits_at : (k : ℕ) → k < length literals → get_or (bits known literals) k 0 ≡ cond (lit_value bools known (get_or literals k 0)) 1 0
  bits_at k h =
      map_at (λ b. cond b 1 0) false 0 (map (lit_value bools known) literals) k (omega (arith, length-map literals (lit_value bools known)))
      ∙ ap (λ (b : Bool). cond b 1 0) (map_at (lit_value bools known) 0 false literals k h)

pub loop-k-init : goal.loop-k-init
unfolding written
loop-k-init c = refl

pub loop-k-preserved : goal.loop-k-preserved
loop-k-preserved c =
    let a = c.args in
    let ls = a.literals.now in
    let known = a.known.now in
    let k = c.loop-k.k in
    let found =
    cast_is c.literal_value.result
    ∙ ap (λ (b : Bool). cond b 1 0) c.literal_value.ensures
    ∙ sym (bits_at known ls k (omega arith)) in
    ap₂ (λ (ws : List ℕ) (w : ℕ). set ws k w) c.loop-k.invariant found
    ∙ written_more (bits known ls) a.values.now k (omega (arith, bits_length known ls)) (omega arith)
