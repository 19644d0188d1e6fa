-- What the loop keeps.
use mathlib.Core.Path.{◌≡◌}
use mathlib.Core.List.{List, map}
use Prim.Native.Nat.{ℕ}
use lib.ListN.{take}
use Rattle.graph.specs.Lent.{written}
use Rattle.replacement.specs.declared.types.Proposal.{Proposal}
use Rattle.replacement.specs.Rewire.{redirected}
use Rattle.replacer.specs.Finishing.{by_numbers}
use Rattle.replacer.proofs.finish.put_outputs.Given as goal

-- an output redirected and renumbered
abbrev pub word : ℕ → Proposal → List ℕ → ℕ → ℕ
word root p ns l = by_numbers ns (redirected root p l)

abbrev pub invariant-loop-k : goal.invariant-loop-k
invariant-loop-k l =
    l.results ≡ written (take l.k (map (word l.rewiring.root.0 l.rewiring.proposal l.renumbering.numbers) l.outputs)) l.initial.results
