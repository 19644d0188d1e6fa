-- `reader::header::header_line` meets its contract: `aag` and a space, then the line's five numbers as `line_of` stored them.
-- Assumes nothing.
use mathlib.Core.Path.{◌∙◌}
use Rattle.scanner.specs.Tokens.{byte_step}
use Rattle.scanner.specs.Lines.{line_step}
use Rattle.scanner.proofs.Lines.{line_picked}
use Rattle.reader.specs.FirstLine.{header_step}
use Rattle.reader.proofs.FirstLine.{header_stops, header_goes_on}
use Rattle.reader.proofs.header.header_line.Goals as goal

pub returns-in_err-start : goal.returns-in_err-start
unfolding byte_step header_step
returns-in_err-start c = rw c.from_residual.ensures (header_stops _ c.in_err-start.ensures)

pub returns-in_err-next : goal.returns-in_err-next
unfolding byte_step header_step line_step
returns-in_err-next c =
    rw c.from_residual-in_err-next.ensures (c.in_err-next.ensures ∙ header_goes_on _ c.in_ok-start.ensures)

pub returns : goal.returns
unfolding byte_step header_step
returns c =
    line_picked _ _ c.in_ok-next.next 5 c.line_of.auto.numbers
    ∙ c.in_ok-next.ensures
    ∙ header_goes_on _ c.in_ok-start.ensures
