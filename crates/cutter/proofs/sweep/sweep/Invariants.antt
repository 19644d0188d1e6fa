-- The front of the list has what the variables 0 to n have.
use Rattle.cutter.specs.Sweeping.{window_own}
use Rattle.cutter.proofs.Sweeping.{Sweep}
use Rattle.cutter.proofs.sweep.sweep.Given as goal

abbrev pub invariant-loop-n : goal.invariant-loop-n
invariant-loop-n g l =
    let net = l.window.net.now in
    let own = window_own g.A.Swept.at_leaf g.A.Swept.at_input net l.window.leaves in
    Sweep g.A.Algebra.ops own net l.window.leaves l.n-end l.initial.values l.values l.next l.n
