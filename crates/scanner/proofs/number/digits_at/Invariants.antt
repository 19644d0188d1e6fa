-- What the loop of `scanner::number::digits_at` keeps, the digits up to a place being read, and how far it has to go.
-- Assumes nothing.
use Prim.Native.Nat.{◌-◌, ◌≤◌}
use lib.ListN.{length}
use Rattle.text.specs.Number.{most_number}
use Rattle.scanner.proofs.Tokens.{RunTo}
use Rattle.scanner.proofs.number.digits_at.Given as goal

abbrev pub invariant-loop-digit : goal.invariant-loop-digit
invariant-loop-digit l = RunTo l.text l.at l.next l.value × (l.value ≤ most_number)

abbrev pub decreases-loop-digit : goal.decreases-loop-digit
decreases-loop-digit l = length l.text - l.next
