-- `evaluator::sweep::sweep` meets its contract: after the inputs each turn sweeps one gate more.
-- Assumes nothing.
use mathlib.Core.Path.{◌≡◌, sym, ap, ◌∙◌}
use mathlib.Core.Bool.{Bool}
use mathlib.Core.List.{List}
use mathlib.Core.Option.{Option, get_or}
use Prim.Native.Nat.{ℕ, suc, ◌+◌, ◌<◌, ◌≤◌}
use native.Mathlib.Numerals.{add-one}
use native.Mathlib.Omega.{arith}
use lib.ListN.{length, set}
use Rattle.graph.specs.Graph.{Net, free, last, WellFormedNet}
use Rattle.graph.specs.Lent.{written}
use Rattle.graph.specs.Sweep.{bools, by_gate}
use Rattle.graph.specs.Evaluate.{assigned, assignment_of, values_under}
use Rattle.graph.proofs.Swept.{swept_more}
use Rattle.graph.proofs.Evaluate.{assigned_gate}
use Rattle.evaluator.proofs.Inputs.{starts_with_inputs}
use Rattle.evaluator.proofs.sweep.sweep.Invariants.{swept}
use Rattle.evaluator.proofs.sweep.sweep.Goals as goal

-- one gate more, as the code counts
swept_next : (net : Net) (a : ℕ → Bool) (lent known : List Bool) (n : ℕ) (x : Bool) → WellFormedNet net → free net ≤ n → n < last net
    → n + 1 < length lent → known ≡ swept net a lent n → x ≡ by_gate bools net (n + 1) known
    → set known (n + 1) x ≡ swept net a lent (n + 1)
swept_next net a lent known n x ok g h room e f =
    let byOwn = ap (λ (o : Option Bool). get_or o (by_gate bools net (suc n) (swept net a lent n))) in
    let top = rw (add-one n, e) at f ∙ sym (byOwn (assigned_gate net a (suc n) (omega arith))) in
    rw (add-one n, e) (swept_more bools (assigned net a) net lent ok n x h (omega arith) top)

pub loop-n-preserved : goal.loop-n-preserved
loop-n-preserved c = λ lent same e. swept_next _ _ lent c.loop-n.known c.loop-n.n c.gate_value.result c.last-n-end.ensures.well_formed
    (omega arith) (omega arith) (omega arith) (c.loop-n.invariant lent same e) c.gate_value.ensures

pub returns : goal.returns
unfolding values_under
returns c =
    let a = c.args in
    let put = c.put_inputs in
    let net = a.net.now in
    let all : c.loop-n.n ≡ last net = omega arith in
    let first = sym (starts_with_inputs net a.assignment.now c.requires.0) in
    c.loop-n.invariant a.known.now (sym put.auto.known) (put.ensures ∙ ap (λ (bs : List Bool). written bs a.known.now) first)
    ∙ ap (swept net (assignment_of a.assignment.now) a.known.now) all
