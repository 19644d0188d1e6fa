-- What the loop keeps.
use mathlib.Core.Bool.{Bool}
use mathlib.Core.List.{List}
use Prim.Native.Nat.{ℕ, suc, ◌+◌}
use Rattle.graph.specs.Graph.{Net, free, size}
use Rattle.graph.proofs.Lent.{Pieces}
use Rattle.checker.specs.Marks.{marks_in}
use Rattle.replacer.specs.Finishing.{kept_words}
use Rattle.replacer.specs.Rewiring.{net_after}
use Rattle.replacer.proofs.finish.put_gates.Given as goal

-- what is left of each gate
abbrev pub piece : Net → List Bool → List ℕ → ℕ → List ℕ
piece net ms ns k = kept_words net ms ns (suc (free net + k))

abbrev pub invariant-loop-k : goal.invariant-loop-k
invariant-loop-k l =
    let after = net_after l.rewiring in
    Pieces (piece after (marks_in l.marks) l.renumbering.numbers) (size after) 0 l.initial.words l.k l.at l.words
