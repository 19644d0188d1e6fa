-- The values of variable 0 and of the inputs: one input more, and that a sweep under the assignment starts with them.
-- Assumes nothing.
use mathlib.Core.Path.{◌≡◌, refl, sym, ap, ap₂, ◌∙◌}
use mathlib.Core.Bool.{Bool, false}
use mathlib.Core.List.{List, [], ◌∷◌, ◌++◌, map, map-append}
use mathlib.Core.Option
use mathlib.Core.Option.{Option}
use Prim.Native.Nat.{ℕ, zero, suc, ◌-◌, ◌≤◌, ◌<◌}
use native.Mathlib.Omega.{arith}
use lib.Dec.{eqb}
use lib.ListN.{length, get_or, take}
use lib.Seq.{take-suc, take_all}
use Rattle.graph.specs.Graph.{Net, free}
use Rattle.graph.specs.Sweep.{bools, by_gate}
use Rattle.graph.specs.Evaluate.{assignment_of, values_under}
use Rattle.graph.proofs.Evaluate.{assigned_input}
use Rattle.evaluator.specs.Values.{input_values}

-- one input more
pub inputs_more : (vs : List ℕ) (k : ℕ) → k < length vs
    → input_values (take k vs) ++ (eqb (get_or vs k 0) 1 ∷ []) ≡ input_values (take (suc k) vs)
unfolding input_values
inputs_more vs k h =
    ap (λ (bs : List Bool). false ∷ bs)
    (sym (map-append (λ x. eqb x 1) (take k vs) (get_or vs k 0 ∷ [])) ∙ ap (map (λ x. eqb x 1)) (sym (take-suc vs k 0 h)))

module _ (net : Net) (vs : List ℕ) (count : length vs ≡ free net) where
  -- so far as the inputs go, each variable has its assigned value
  inputs_up_to : (n : ℕ) → n ≤ free net → values_under net (assignment_of vs) n ≡ input_values (take n vs)
  unfolding values_under input_values assignment_of
  inputs_up_to zero h = refl
  inputs_up_to (suc n) h =
      let place : suc n - 1 ≡ n = omega arith in
      ap₂ (λ (bs : List Bool) (b : Bool). bs ++ (b ∷ [])) (inputs_up_to n (omega arith))
      (ap (λ (o : Option Bool). Option.get_or o (by_gate bools net (suc n) (values_under net (assignment_of vs) n)))
      (assigned_input net (assignment_of vs) (suc n) h)
      ∙ ap (λ (j : ℕ). eqb (get_or vs j 0) 1) place)
      ∙ inputs_more vs n (omega (arith, count))

  pub starts_with_inputs : values_under net (assignment_of vs) (free net) ≡ input_values vs
  starts_with_inputs = inputs_up_to (free net) (omega arith) ∙ ap input_values (take_all (free net) vs (omega (arith, count)))
