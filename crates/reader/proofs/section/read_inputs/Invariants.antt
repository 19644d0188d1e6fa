-- What the loop keeps.
use mathlib.Core.List.{[]}
use Prim.Native.Nat.{ℕ, suc}
use lib.ListN.{drop}
use Rattle.text.specs.Reading.{Needed, input_needed}
use Rattle.reader.specs.Sections.{no_words}
use Rattle.reader.proofs.Sections.{SoFar}
use Rattle.reader.proofs.section.read_inputs.Given as goal

-- input line k, counted from 0
abbrev pub need : ℕ → Needed
need k = input_needed (suc k)

abbrev pub invariant-loop-k : goal.invariant-loop-k
invariant-loop-k l = SoFar no_words need (drop l.at l.text) l.k [] (drop l.next l.text)
