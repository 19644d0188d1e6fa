-- What the loop keeps, and how far it has to go.
use mathlib.Core.Path.{◌≡◌}
use Prim.Native.Nat.{◌+◌, ◌≤◌}
use lib.ListN.{length}
use Rattle.text.specs.Number.{decimal}
use Rattle.graph.specs.Lent.{laid}
use Rattle.writer.proofs.decimal.put_decimal.Given as goal

abbrev pub invariant-loop-left : goal.invariant-loop-left
invariant-loop-left l = (l.place ≡ l.at + length (decimal l.left)) × (l.place ≤ length l.bytes) × (length l.bytes ≡ length l.initial.bytes)
    × (laid l.at (decimal l.left) l.bytes ≡ laid l.at (decimal l.number) l.initial.bytes)

abbrev pub decreases-loop-left : goal.decreases-loop-left
decreases-loop-left l = l.left
