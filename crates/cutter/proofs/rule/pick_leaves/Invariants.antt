-- Where the rule comes to from these leaves, it comes to from the root's fanin variables; and how far it has to go.
use Rattle.window.specs.Leaves.{leaf_list}
use Rattle.window.proofs.Weight.{weight}
use Rattle.cutter.proofs.Picking.{Going}
use Rattle.cutter.proofs.rule.pick_leaves.Given as goal

abbrev pub invariant-loop-choice : goal.invariant-loop-choice
invariant-loop-choice l = Going l.graph.net l.fn.root.0 l.leaves

abbrev pub decreases-loop-choice : goal.decreases-loop-choice
decreases-loop-choice l = weight (leaf_list l.leaves)
