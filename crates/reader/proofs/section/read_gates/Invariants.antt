-- What the loop keeps.
use Prim.Native.Nat.{ℕ, suc, ◌+◌, ◌*◌}
use lib.ListN.{take, drop}
use Rattle.text.specs.Reading.{Needed, gate_needed, gate_words}
use Rattle.reader.proofs.Sections.{SoFar}
use Rattle.reader.proofs.section.read_gates.Given as goal

-- gate line k, counted from 0
abbrev pub need : ℕ → ℕ → Needed
need free k = gate_needed (suc (free + k))

abbrev pub invariant-loop-k : goal.invariant-loop-k
invariant-loop-k l = SoFar gate_words (need l.free) (drop l.at l.text) l.k (take (2 * l.k) l.words) (drop l.next l.text)
