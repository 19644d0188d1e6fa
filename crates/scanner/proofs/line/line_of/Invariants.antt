-- The loop of `scanner::line::line_of` stands where the first k numbers of the line are read, and each turn reads one more.
-- Assumes nothing.
use Rattle.scanner.proofs.LineWalk.{State}
use Rattle.scanner.proofs.line.line_of.Given as goal

abbrev pub invariant-loop-k : goal.invariant-loop-k
invariant-loop-k l = State l.fn.text l.fn.at l.fn.numbers l.reader.text.now l.reader.at l.k l.numbers
