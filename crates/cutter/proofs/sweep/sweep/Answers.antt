-- `cutter::sweep::sweep` meets its contract: after variable n the front of the list has what the variables 0 to n have.
-- Assumes nothing.
use Rattle.std.proofs.Common.{arith, refl}
use Rattle.cutter.specs.Sweeping.{window_own}
use Rattle.cutter.proofs.Passed.{ahead_is}
use Rattle.cutter.proofs.Sweeping.{sweep_none, sweep_all, sweep_length, sweep_ahead, sweep_next, sweep_more}
use Rattle.cutter.proofs.sweep.sweep.Goals as goal

pub loop-n-init : goal.loop-n-init
loop-n-init g c =
    let window = c.args.window.now in
    let next = c.at-next.ensures in
    let own = window_own g.A.Swept.at_leaf g.A.Swept.at_input window.net.now window.leaves in
    rw c.put_value.ensures
    (sweep_none {own = own} c.args.values.now c.no.result c.no.ensures (window.net_ok, window.within) (window.well_set, c.requires)
    next.place_value next.leaf_value)

pub value-value-requires : goal.value-value-requires
value-value-requires g c =
    let i = c.loop-n.invariant in
    let own = window_own g.A.Swept.at_leaf g.A.Swept.at_input c.args.window.now.net.now c.args.window.now.leaves in
    (sweep_next {own = own} i (omega arith), omega (arith, sweep_length {own = own} i))

pub loop-n-preserved : goal.loop-n-preserved
loop-n-preserved g c =
    let i = c.loop-n.invariant in
    let own = window_own g.A.Swept.at_leaf g.A.Swept.at_input c.args.window.now.net.now c.args.window.now.leaves in
    rw c.put_value-in-loop-n.ensures
    (sweep_more {own = own} i (omega arith) _ c.value-value.ensures (ahead_is (sweep_ahead {own = own} i).0 _ _ _) refl c.past-next.ensures)

pub returns : goal.returns
returns g c =
    let own = window_own g.A.Swept.at_leaf g.A.Swept.at_input c.args.window.now.net.now c.args.window.now.leaves in
    sweep_all {own = own} c.args.values.now c.no.result (rw c.put_value.ensures at c.loop-n.invariant) (omega arith)
