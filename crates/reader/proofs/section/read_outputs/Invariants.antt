-- What the loop keeps.
use Prim.Native.Nat.{ℕ}
use lib.Dec.{leb}
use lib.ListN.{get_or, take, drop}
use Rattle.text.specs.Reading.{Needed}
use Rattle.reader.specs.Sections.{output_words}
use Rattle.reader.proofs.Sections.{SoFar}
use Rattle.reader.proofs.section.read_outputs.Given as goal

-- any literal up to the largest
abbrev pub need : ℕ → ℕ → Needed
need most k = record { numbers = 1; rule = λ ns. leb (get_or ns 0 0) most }

abbrev pub invariant-loop-word : goal.invariant-loop-word
invariant-loop-word l = SoFar output_words (need l.most) (drop l.at l.text) l.word-index (take l.word-index l.word-items) (drop l.next l.text)
