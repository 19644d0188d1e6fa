-- What the leaves from the next one on say is what all of them say.
use Rattle.std.proofs.Common.{◌≡◌, drop}
use Rattle.window.specs.Leaves.{numbers}
use Rattle.window.proofs.Places.{ascend_below}
use Rattle.window.proofs.leaf_set.Leaves.ascends.Given as goal

abbrev pub invariant-loop-leaf : goal.invariant-loop-leaf
invariant-loop-leaf l =
    ascend_below l.root.0 0 (numbers l.leaf-items) ≡ ascend_below l.root.0 l.before.0 (numbers (drop l.leaf-index l.leaf-items))
