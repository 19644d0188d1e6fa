-- `evaluator::sweep::put_inputs` meets its contract: after k turns the values of variable 0 and of the first k inputs are written.
-- Assumes nothing.
use mathlib.Core.Path.{◌≡◌, sym, ap, ◌∙◌}
use mathlib.Core.Bool.{Bool, false}
use mathlib.Core.List.{List, []}
use Prim.Native.Nat.{ℕ, ◌+◌, ◌<◌}
use native.Mathlib.Numerals.{add-one}
use native.Mathlib.Omega.{arith}
use lib.Dec.{eqb}
use lib.ListN.{length, get_or, take, set, length-set, length-map}
use lib.Seq.{take_all, length-take-le}
use Rattle.graph.specs.Lent.{written}
use Rattle.graph.proofs.Swept.{written_over, written_next}
use Rattle.evaluator.specs.Values.{input_values}
use Rattle.evaluator.proofs.Inputs.{inputs_more}
use Rattle.evaluator.proofs.sweep.put_inputs.Goals as goal

inputs_length : (vs : List ℕ) → length (input_values vs) ≡ length vs + 1
unfolding input_values
inputs_length vs = omega (arith, length-map vs (λ x. eqb x 1))

-- one input more, as the code counts
written_input : (vs : List ℕ) (lent : List Bool) (k : ℕ) → k < length vs → length vs < length lent
    → set (written (input_values (take k vs)) lent) (k + 1) (eqb (get_or vs k 0) 1) ≡ written (input_values (take (k + 1) vs)) lent
written_input vs lent k h room =
    let front = input_values (take k vs) in
    let place : length front ≡ k + 1 = inputs_length (take k vs) ∙ ap (λ (n : ℕ). n + 1) (length-take-le k vs (omega arith)) in
    ap (λ (i : ℕ). set (written front lent) i (eqb (get_or vs k 0) 1)) (sym place)
    ∙ written_next front (eqb (get_or vs k 0) 1) lent (omega (arith, place))
    ∙ rw (add-one k) (ap (λ (bs : List Bool). written bs lent) (inputs_more vs k h))

pub loop-k-init : goal.loop-k-init
unfolding written input_values
loop-k-init c =
    let lent = c.args.known.now in
    written_next [] false lent (omega arith) ∙ sym (written_over (input_values []) lent false (omega arith))

pub loop-k-preserved : goal.loop-k-preserved
loop-k-preserved c =
    let vs = c.args.assignment.now in
    let lent = c.args.known.now in
    let k = c.loop-k.k in
    ap (λ (bs : List Bool). set bs (k + 1) (eqb (get_or vs k 0) 1)) c.loop-k.invariant
    ∙ written_input vs (set lent 0 false) k (omega arith) (omega (arith, length-set lent 0 false))

pub returns : goal.returns
returns c =
    let a = c.args in
    c.loop-k.invariant
    ∙ written_over (input_values (take c.loop-k.k a.assignment.now)) a.known.now false
    (omega (arith, inputs_length (take c.loop-k.k a.assignment.now)))
    ∙ ap (λ (vs : List ℕ). written (input_values vs) a.known.now) (take_all c.loop-k.k a.assignment.now (omega arith))
