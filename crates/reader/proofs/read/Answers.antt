-- `reader::read` meets its contract: the words are kept aside until the text is judged, and copied where both lists have room.
-- Assumes nothing.
use native.Mathlib.Omega.{arith}
use Rattle.std.proofs.lemmas.Result.{err_from_is_err_and}
use Rattle.graph.specs.Lent.{stored_in}
use Rattle.reader.proofs.KeptAside.{aside_refused, no_room, room_enough}
use Rattle.reader.proofs.read.Goals as goal

pub returns-in_err-counts : goal.returns-in_err-counts
returns-in_err-counts c =
    let p = err_from_is_err_and c.from_residual.result c.from_residual.ensures.1 in
    rw (p.1, p.2) (aside_refused _ _ _ _ _ c.in_err-counts.ensures.result_after)

pub returns-then-no_room : goal.returns-then-no_room
returns-then-no_room c = no_room _ _ _ _ c.in_ok-counts.ensures.result_after _ c.no_room.ensures c.if-no_room.true

pub returns : goal.returns
unfolding stored_in
returns c =
    let e = c.in_ok-counts.ensures in
    rw (c.copy_words.ensures, c.copy_words-2.ensures)
    (room_enough _ _ _ _ e.result_after _ c.no_room.ensures (omega arith) (omega arith) c.if-no_room.false)
