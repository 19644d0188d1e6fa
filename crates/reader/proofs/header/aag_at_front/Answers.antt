-- `reader::header::aag_at_front` meets its contract: the test of the text's front is the definition's.
-- Assumes nothing.
use Rattle.text.specs.States.{aag}
use Rattle.reader.proofs.FirstLine.{front_passed}
use Rattle.reader.proofs.header.aag_at_front.Goals as goal

pub returns : goal.returns
returns c = rw (c.then_some.ensures, c.starts_with.ensures.value) (front_passed c.args.text.now aag)
