-- What is set down, and the leaves from the next one on, are the whole.
use Rattle.std.proofs.Common.{◌≡◌, ◌++◌, drop}
use Rattle.window.specs.Leaves.{numbers, leaf_list}
use Rattle.window.specs.Growing.{Tidy}
use Rattle.window.proofs.leaf_set.Leaves.follow.Given as goal

abbrev pub invariant-loop-v : goal.invariant-loop-v
invariant-loop-v l =
    Tidy l.out × (leaf_list l.out ++ numbers (drop l.v-index l.rest) ≡ leaf_list l.fn.self ++ numbers l.rest)
